use Rattle.std.proofs.Common.{◌≡◌, ◌≤◌, length, drop}
use Rattle.history_facts.specs.Pasts.{acts}
use Rattle.journal_table.proofs.overviews.overview_of.Given as goal

abbrev pub invariant-loop-k : goal.invariant-loop-k
invariant-loop-k l = (l.overview.acts ≡ acts (drop l.k l.all)) × (l.overview.config ≡ l.config) × (l.k ≤ length l.all)

abbrev pub decreases-loop-k : goal.decreases-loop-k
decreases-loop-k l = l.k
