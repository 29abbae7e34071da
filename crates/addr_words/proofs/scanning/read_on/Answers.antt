use Rattle.std.proofs.Common.{◌≡◌, ◌+◌, get_or, true, false, sym, ap, ◌∙◌, arith}
use Rattle.addr_words.specs.Reading.{innermost, escapes, is_dual}
use Rattle.addr_words.proofs.Steps.{escape_step, dual_step, last_step, next_step, lone_step}
use Rattle.addr_words.proofs.scanning.read_on.Goals as goal
use Rattle.addr_words.proofs.scanning.read_on.Goals.{else-at-text-2-via-then-at-text-2+else-is_dual, else-at-text-2-via-else-at-text-2}

pub returns-then-at-text-clause-fault : goal.returns-then-at-text-clause-fault
returns-then-at-text-clause-fault c =
    let e : escapes (innermost c.args.around.now) (get_or c.args.text.now c.args.at 0) ≡ true = ap (λ p. escapes p (get_or c.args.text.now c.args.at 0)) (sym c.innermost-place.ensures) ∙ sym c.if-escapes.ensures in
    lone_step c.args.around.now c.args.at c.args.text.now (omega arith) e

pub returns-then-escapes-clause-read : goal.returns-then-escapes-clause-read
returns-then-escapes-clause-read c =
    let e : escapes (innermost c.args.around.now) (get_or c.args.text.now c.args.at 0) ≡ true = ap (λ p. escapes p (get_or c.args.text.now c.args.at 0)) (sym c.innermost-place.ensures) ∙ sym c.if-escapes.ensures in
    rw c.in_ok-push.ensures.items (escape_step c.args.tokens.now.items c.args.around.now c.args.at c.args.text.now (omega arith) e)

pub returns-then-is_dual-clause-read : goal.returns-then-is_dual-clause-read
returns-then-is_dual-clause-read c =
    let e : escapes (innermost c.args.around.now) (get_or c.args.text.now c.args.at 0) ≡ false = ap (λ p. escapes p (get_or c.args.text.now c.args.at 0)) (sym c.innermost-place.ensures) ∙ sym c.if-escapes.ensures in
    let d : is_dual (innermost c.args.around.now) (get_or c.args.text.now c.args.at 0) (get_or c.args.text.now (c.args.at + 1) 0) ≡ true = ap (λ p. is_dual p (get_or c.args.text.now c.args.at 0) (get_or c.args.text.now (c.args.at + 1) 0)) (sym c.innermost-place.ensures) ∙ sym c.if-is_dual.ensures in
    rw c.in_ok-push-2.ensures.items (dual_step c.args.tokens.now.items c.args.around.now c.args.at c.args.text.now (omega arith) e d)

pub returns-clause-read : goal.returns-clause-read
returns-clause-read c =
    let e : escapes (innermost c.args.around.now) (get_or c.args.text.now c.args.at 0) ≡ false = ap (λ p. escapes p (get_or c.args.text.now c.args.at 0)) (sym c.innermost-place.ensures) ∙ sym c.if-escapes.ensures in
    rw (c.in_ok-pass.ensures, c.in_ok-push_meaning.ensures, c.innermost-place.ensures) (elim c.else-at-text-2.branch [
      | else-at-text-2-via-then-at-text-2+else-is_dual w ↦
          let d : is_dual (innermost c.args.around.now) (get_or c.args.text.now c.args.at 0) (get_or c.args.text.now (c.args.at + 1) 0) ≡ false = ap (λ p. is_dual p (get_or c.args.text.now c.args.at 0) (get_or c.args.text.now (c.args.at + 1) 0)) (sym c.innermost-place.ensures) ∙ sym w.if-is_dual.ensures in
          next_step c.args.tokens.now.items c.args.around.now c.args.at c.args.text.now w.if-at-text-2.true e d
      | else-at-text-2-via-else-at-text-2 w ↦ last_step c.args.tokens.now.items c.args.around.now c.args.at c.args.text.now (omega arith) e
    ])
