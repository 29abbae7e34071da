use Rattle.journal_table.proofs.Growing.{TellsFrom}
use Rattle.journal_table.proofs.acts.acts_told.Given as goal

abbrev pub invariant-loop-k : goal.invariant-loop-k
invariant-loop-k l = TellsFrom l.all l.k l.at l.page

abbrev pub decreases-loop-k : goal.decreases-loop-k
decreases-loop-k l = l.k
