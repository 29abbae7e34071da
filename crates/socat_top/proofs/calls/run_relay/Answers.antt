use Rattle.session_loop.proofs.Ends.{completes_on, stop_on}
use Rattle.socat_top.proofs.Endings.{concluded}
use Rattle.socat_top.proofs.calls.run_relay.Goals as goal

pub returns-clause-headline : goal.returns-clause-headline
returns-clause-headline g c = λ before told.
    concluded c.args.config.now c.args.turns before (g.W.World.seen c.relay-outcome.new.world).told (g.W.World.seen c.conclude.new.world).told c.relay-outcome.result c.conclude.result (c.relay-outcome.ensures.headline before told) c.conclude.ensures.tail c.conclude.ensures.answer

pub returns-clause-complete : goal.returns-clause-complete
returns-clause-complete g c =
    completes_on c.relay-outcome.result c.conclude.result _ _ _ _ _ _ _ _ _ _ c.relay-outcome.ensures.complete c.conclude.ensures.answer c.conclude.ensures.calm.faults c.conclude.ensures.calm.waits c.conclude.ensures.calm.stops

pub returns-clause-stopped : goal.returns-clause-stopped
returns-clause-stopped g c =
    stop_on c.relay-outcome.result c.conclude.result _ _ _ _ _ _ _ c.relay-outcome.ensures.stopped c.conclude.ensures.answer c.conclude.ensures.calm.waits c.conclude.ensures.calm.stops
