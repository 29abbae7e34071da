use Rattle.std.proofs.Common.{◌≤◌, length, drop}
use Rattle.history_facts.specs.Pasts.{acts}
use Rattle.journal_table.specs.Streams.{DumpedSoFar}
use Rattle.journal_table.proofs.streams.dump_stream.Given as goal

abbrev pub invariant-loop-k : goal.invariant-loop-k
invariant-loop-k l = DumpedSoFar l.style l.way l.place l.dumping (acts (drop l.k l.all)) × (l.k ≤ length l.all)

abbrev pub decreases-loop-k : goal.decreases-loop-k
decreases-loop-k l = l.k
