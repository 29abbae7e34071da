use Rattle.event_loop.proofs.Untils.{with_timer, without_timer}
use Rattle.event_loop.proofs.all_sessions.Sessions.least_until.Goals as goal

pub returns-in-Some : goal.returns-in-Some
returns-in-Some c = with_timer c.args.self.now c.args.first c.in-Some.at c.in-Some._number _ c.in-Some.ensures c.earlier.ensures

pub returns-in-None : goal.returns-in-None
returns-in-None c = without_timer c.args.self.now c.args.first c.in-None.ensures
