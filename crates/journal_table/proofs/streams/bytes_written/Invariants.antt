use Rattle.std.proofs.Common.{◌≡◌, ◌≤◌, length, drop}
use Rattle.relay_model.specs.History.{put}
use Rattle.history_facts.specs.Pasts.{acts}
use Rattle.journal_table.proofs.streams.bytes_written.Given as goal

abbrev pub invariant-loop-k : goal.invariant-loop-k
invariant-loop-k l = (l.bytes.items ≡ put (acts (drop l.k l.all)) l.place) × (l.k ≤ length l.all)

abbrev pub decreases-loop-k : goal.decreases-loop-k
decreases-loop-k l = l.k
