use Rattle.event_loop.proofs.DoorClosings.{some_less, two_closed}
use Rattle.event_loop.proofs.all_sessions.Sessions.close_door.Goals as goal

pub close_first-requires-2 : goal.close_first-requires-2
close_first-requires-2 g c = some_less _ _ c.args.why c.args.self.now _ c.requires c.close_first.ensures.closes

pub returns-clause-closes : goal.returns-clause-closes
returns-clause-closes g c = λ k n start past v. let one = c.close_first.ensures.closes k n start past v in two_closed k n start _ _ past c.args.why c.close_first.new.self _ one (c.close_first-2.ensures.closes k n start one.since one.vacated)
