use Rattle.std.proofs.Common.{◌≡◌, ◌≤◌, length, drop}
use Rattle.relay_model.specs.History.{got}
use Rattle.history_facts.specs.Pasts.{acts}
use Rattle.journal_table.proofs.streams.bytes_read.Given as goal

abbrev pub invariant-loop-k : goal.invariant-loop-k
invariant-loop-k l = (l.bytes.items ≡ got (acts (drop l.k l.all)) l.place) × (l.k ≤ length l.all)

abbrev pub decreases-loop-k : goal.decreases-loop-k
decreases-loop-k l = l.k
