use Rattle.std.proofs.Common.{◌≡◌, ◌≤◌, ◌-◌, ◌++◌, length, take, option_map}
use Rattle.std.specs.Io.KnownBytes.{Appends}
use Rattle.port_trait.proofs.texts.write_front.Given as goal

abbrev pub invariant-loop-count : goal.invariant-loop-count
invariant-loop-count g l = record {
  bound : l.count ≤ length l.bytes;
  taken : g.K.Sink.took l.sink ≡ option_map (λ all. all ++ take l.count l.bytes) (g.K.Sink.took l.fn.sink);
  held : Appends (g.K.Sink.holds l.fn.sink) (g.K.Sink.holds l.sink) (take l.count l.bytes);
  grew : g.K.Sink.faults l.fn.sink ≤ g.K.Sink.faults l.sink;
}

abbrev pub decreases-loop-count : goal.decreases-loop-count
decreases-loop-count g l = length l.bytes - l.count
