use Rattle.std.proofs.Common.{refl, arith}
use Rattle.event_loop.proofs.rows.wake_row.Goals.{then-row-made, else-row-made}
use Rattle.event_loop.proofs.rows.wake_row.Goals as goal

pub returns : goal.returns
returns c =
    elim c.if-row-made.branch [
      | then-row-made w ↦ rw w.row-is (record { turn_is = refl; dumper_same = refl; kept = λ h. (let l = w.if-row-made.true in absurd (omega (arith, h, l))); woken = λ h k n s past until st e. w.wake.ensures.woken k n past s until st e })
      | else-row-made w ↦ rw w.row-is (record { turn_is = refl; dumper_same = refl; kept = λ h. refl; woken = λ h. (let l = w.if-row-made.false in absurd (omega (arith, h, l))) })
    ]
