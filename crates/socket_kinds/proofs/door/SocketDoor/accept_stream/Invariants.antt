use Rattle.std.proofs.Common.{◌≡◌, ◌<◌, false}
use Rattle.socket_kinds.specs.Doors.{ArrivesAt}
use Rattle.socket_kinds.specs.declared.door.Arrival.TheVariants as arrivals
use Rattle.socket_kinds.proofs.door.SocketDoor.accept_stream.Given as goal

-- each turn passed over one that was aborted
abbrev pub invariant-loop : goal.invariant-loop
invariant-loop g l = (l.self ≡ record l.fn.self { cut_short = false })
    × (0 < l.counter → ArrivesAt g.T.Accepts.comes l.fn.self.listener arrivals.Aborted)
