use Rattle.std.specs.Io.KnownBytes.{Keeps}
use Rattle.blocking_streams.proofs.calls.read_blocking.Given as goal

abbrev pub invariant-loop : goal.invariant-loop
invariant-loop g l = Keeps (g.S.Read.remaining l.fn.stream) (g.S.Read.remaining l.stream)
