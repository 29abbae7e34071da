use Rattle.std.proofs.Common.{◌≡◌, length}
use Rattle.std.proofs.Common.{◌≤◌, ◌-◌, take}
use Rattle.history_facts.specs.Pasts.{acts}
use Rattle.journal_table.proofs.newest.newest_first.Given as goal

abbrev pub invariant-loop-k : goal.invariant-loop-k
invariant-loop-k l = (acts l.past.items ≡ take (length l.journal.acts - l.k) l.journal.acts) × (l.k ≤ length l.journal.acts)

abbrev pub decreases-loop-k : goal.decreases-loop-k
decreases-loop-k l = l.k
