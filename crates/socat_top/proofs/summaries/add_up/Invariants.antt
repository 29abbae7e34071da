use Rattle.std.proofs.Common.{◌≡◌, ◌-◌, length, drop, sum}
use Rattle.socat_top.specs.Sums.{delivered}
use Rattle.socat_top.proofs.summaries.add_up.Given as goal

abbrev pub invariant-loop-i : goal.invariant-loop-i
invariant-loop-i l = record {
  bytes : l.bytes ≡ length (delivered (drop (length l.journal.acts - l.i) l.journal.acts));
  sum : l.sum ≡ sum (delivered (drop (length l.journal.acts - l.i) l.journal.acts));
}
