use Rattle.std.proofs.Common.{refl, arith}
use Rattle.event_loop.proofs.turns.hear_once.Goals.{then-row-made, else-row-made}
use Rattle.event_loop.proofs.turns.hear_once.Goals as goal

pub returns : goal.returns
returns c =
    elim c.if-row-made.branch [
      | then-row-made w ↦ rw w.row-is (record { turn_is = refl; dumper_same = refl; hears = λ h. w.hear_turn.ensures.hears; kept = λ h. (let l = w.if-row-made.true in absurd (omega (arith, h, l))) })
      | else-row-made w ↦ rw w.row-is (record { turn_is = refl; dumper_same = refl; hears = λ h. (let l = w.if-row-made.false in absurd (omega (arith, h, l))); kept = λ h. refl })
    ]
