use Rattle.std.proofs.Common.{◌≡◌, ◌≤◌, ◌++◌, length}
use Rattle.std.specs.Prelude.{option_map}
use Rattle.std.specs.Io.KnownBytes.{Keeps, append_known}
use Rattle.port_trait.proofs.texts.write_whole.Given as goal

abbrev pub invariant-loop-rest : goal.invariant-loop-rest
invariant-loop-rest g l = record {
  taken : option_map (λ held. held ++ l.rest) (g.K.Sink.took l.sink) ≡ option_map (λ held. held ++ l.text) (g.K.Sink.took l.fn.sink);
  held : Keeps (append_known (g.K.Sink.holds l.fn.sink) l.text) (append_known (g.K.Sink.holds l.sink) l.rest);
  grew : g.K.Sink.faults l.fn.sink ≤ g.K.Sink.faults l.sink;
}

abbrev pub decreases-loop-rest : goal.decreases-loop-rest
decreases-loop-rest g l = length l.rest
