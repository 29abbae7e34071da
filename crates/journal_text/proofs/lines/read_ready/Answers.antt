use Rattle.std.proofs.Common.{◌≡◌, ◌<◌, List, ◌++◌, ◌∷◌, [], ◌+◌, eqb, false, length, drop, refl, sym, ap, ◌∙◌, arith, rules, tests}
use Rattle.std.specs.Prelude.{codes}
use Rattle.std.specs.List.{slice_split}
use Rattle.std.specs.Str.{bytes_eq}
use Rattle.std.proofs.lemmas.Iterator.Splits.{YieldsList-from_slice_split}
use Rattle.std.proofs.lemmas.Iterator.Consumers.{YieldsList-turn, YieldsList-end}
use Rattle.std.proofs.lemmas.Bool.{false≢true}
use Rattle.std.proofs.lemmas.List.{length_push}
use Rattle.relay_model.specs.Readiness.{Listed}
use Rattle.relay_model.specs.declared.readiness.ReadyAt.{ReadyAt}
use Rattle.journal_text.specs.Reading.{entries_in}
use Rattle.journal_text.proofs.LoopLemmas.{after, entries_more, entries_stop, entries_end, ready_none, ready_some, too_many}
use Rattle.journal_text.proofs.lines.read_ready.Goals as goal

pub returns-in_default-clause-found : goal.returns-in_default-clause-found
returns-in_default-clause-found c =
    let pieces = slice_split (λ b. eqb b 44) c.args.field.now in
    let split = YieldsList-from_slice_split _ (λ b. eqb b 44) c.args.field.now (cc) (cc) (cc) (λ x b q k. search (rules, tests)) in
    let t = YieldsList-turn split c.loop-piece.yielded _ c.loop-piece.yielded_by _ _ c.in-Some.piece c.in-Some.is c.next.ensures.steps in
    let no_dash : bytes_eq c.args.field.now (codes "-") ≡ false = ap (bytes_eq c.args.field.now) (sym c.as_slice.ensures) ∙ sym c.eq.ensures ∙ c.if-eq.false in
    ready_none c.args.field.now no_dash
    (entries_stop c.loop-piece.ready.entries pieces (length c.loop-piece.yielded) c.in-Some.piece.now (entries_in pieces) t.0 t.1 c.in_default.ensures c.loop-piece.invariant.read)

pub returns-then-not-push-clause-found : goal.returns-then-not-push-clause-found
returns-then-not-push-clause-found c =
    let pieces = slice_split (λ b. eqb b 44) c.args.field.now in
    let split = YieldsList-from_slice_split _ (λ b. eqb b 44) c.args.field.now (cc) (cc) (cc) (λ x b q k. search (rules, tests)) in
    let t = YieldsList-turn split c.loop-piece.yielded _ c.loop-piece.yielded_by _ _ c.in-Some.piece c.in-Some.is c.next.ensures.steps in
    let no_dash : bytes_eq c.args.field.now (codes "-") ≡ false = ap (bytes_eq c.args.field.now) (sym c.as_slice.ensures) ∙ sym c.eq.ensures ∙ c.if-eq.false in
    let more = entries_more c.loop-piece.ready.entries pieces (length c.loop-piece.yielded) (length c.loop-piece.yielded + 1) c.in-Some.piece.now c.in-Some-read_entry.entry (entries_in pieces) t.0 t.1 refl c.in-Some-read_entry.ensures c.loop-piece.invariant.read in
    let full : length c.loop-piece.ready.entries < 256 → ⊥ = λ less. false≢true (c.if-not-push.ensures.full.1 less) in
    let many : 256 < length (c.loop-piece.ready.entries ++ c.in-Some-read_entry.entry ∷ []) =
    omega (arith, full, length_push c.loop-piece.ready.entries c.in-Some-read_entry.entry) in
    too_many c.args.field.now (c.loop-piece.ready.entries ++ c.in-Some-read_entry.entry ∷ []) (entries_in (drop (length c.loop-piece.yielded + 1) pieces)) no_dash many more

pub loop-piece-preserved : goal.loop-piece-preserved
loop-piece-preserved c =
    let pieces = slice_split (λ b. eqb b 44) c.args.field.now in
    let split = YieldsList-from_slice_split _ (λ b. eqb b 44) c.args.field.now (cc) (cc) (cc) (λ x b q k. search (rules, tests)) in
    let t = YieldsList-turn split c.loop-piece.yielded _ c.loop-piece.yielded_by _ _ c.in-Some.piece c.in-Some.is c.next.ensures.steps in
    let more = entries_more c.loop-piece.ready.entries pieces (length c.loop-piece.yielded) (length (c.loop-piece.yielded ++ c.in-Some.piece ∷ [])) c.in-Some.piece.now c.in-Some-read_entry.entry (entries_in pieces) t.0 t.1 (length_push c.loop-piece.yielded c.in-Some.piece) c.in-Some-read_entry.ensures c.loop-piece.invariant.read in
    let pushed : c.push.new.self.entries ≡ c.loop-piece.ready.entries ++ c.in-Some-read_entry.entry ∷ [] =
    ap (λ (list : Listed). list.entries) c.if-not-push.ensures.pushed in
    record {
      room = ap (λ (list : Listed). list.room) c.if-not-push.ensures.pushed ∙ c.loop-piece.invariant.room;
      few = omega (arith, ap length pushed, length_push c.loop-piece.ready.entries c.in-Some-read_entry.entry, c.if-not-push.ensures.full.0 refl);
      read = ap (λ (entries : List ReadyAt). after entries (entries_in (drop (length (c.loop-piece.yielded ++ c.in-Some.piece ∷ [])) pieces))) pushed ∙ more;
    }

pub returns-clause-found : goal.returns-clause-found
returns-clause-found c =
    let pieces = slice_split (λ b. eqb b 44) c.args.field.now in
    let split = YieldsList-from_slice_split _ (λ b. eqb b 44) c.args.field.now (cc) (cc) (cc) (λ x b q k. search (rules, tests)) in
    let t = YieldsList-end split c.loop-piece.yielded _ c.loop-piece.yielded_by _ _ c.in-None.is c.next.ensures.steps in
    let no_dash : bytes_eq c.args.field.now (codes "-") ≡ false = ap (bytes_eq c.args.field.now) (sym c.as_slice.ensures) ∙ sym c.eq.ensures ∙ c.if-eq.false in
    ready_some c.args.field.now c.loop-piece.ready.entries no_dash
    (entries_end c.loop-piece.ready.entries pieces (length c.loop-piece.yielded) (entries_in pieces) (omega (arith, t.1)) c.loop-piece.invariant.read)
    c.loop-piece.invariant.few
