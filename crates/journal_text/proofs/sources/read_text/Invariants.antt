use Rattle.std.proofs.Common.{◌≤◌, ◌-◌, length}
use Rattle.std.specs.Io.KnownBytes.{Consumes}
use Rattle.port_trait.specs.Streams.{Loses}
use Rattle.journal_text.proofs.sources.read_text.Given as goal

abbrev pub invariant-loop-chunk : goal.invariant-loop-chunk
invariant-loop-chunk g l = record {
  gave : Loses (g.S.Source.left l.fn.source) (g.S.Source.left l.source) l.text.items;
  lost : Consumes (g.S.Source.rest l.fn.source) (g.S.Source.rest l.source) l.text.items;
  faults : g.S.Source.faults l.fn.source ≤ g.S.Source.faults l.source;
  ends : g.S.Source.ends l.fn.source ≤ g.S.Source.ends l.source;
}

abbrev pub decreases-loop-chunk : goal.decreases-loop-chunk
decreases-loop-chunk g l = 16777217 - length l.text.items
