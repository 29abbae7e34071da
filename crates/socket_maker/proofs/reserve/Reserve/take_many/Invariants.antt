use Rattle.std.proofs.Common.{◌≡◌, ◌≤◌}
use Rattle.socket_maker.proofs.reserve.Reserve.take_many.Given as goal

abbrev pub invariant-loop : goal.invariant-loop
invariant-loop l = (l.fn.self.held ≤ l.self.held) × (l.self.wanted ≡ l.fn.self.wanted)
