use Rattle.std.proofs.Common.{◌≡◌, ◌-◌, false, length, drop}
use Rattle.socat_top.specs.Sums.{was_finished}
use Rattle.socat_top.proofs.summaries.was_finished.Given as goal

abbrev pub invariant-loop-i : goal.invariant-loop-i
invariant-loop-i l = was_finished (drop (length l.journal.acts - l.i) l.journal.acts) l.session ≡ false
