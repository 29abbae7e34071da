use Rattle.std.proofs.Common.{◌≡◌, ◌≤◌, ◌*◌, length, take}
use Rattle.mio_poller.specs.Pollers.{named}
use Rattle.mio_poller.proofs.poller.name_events.Given as goal

abbrev pub invariant-loop-event : goal.invariant-loop-event
invariant-loop-event l =
    (l.ready ≡ record l.fn.ready { entries = named (take l.event-index l.events) })
    × (length l.ready.entries ≤ 2 * l.event-index)
