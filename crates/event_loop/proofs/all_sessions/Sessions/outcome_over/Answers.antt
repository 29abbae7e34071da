use Rattle.event_loop.proofs.Finishing.{ended_over, over_told}
use Rattle.event_loop.proofs.all_sessions.Sessions.outcome_over.Goals as goal

pub outcome_for-requires : goal.outcome_for-requires
outcome_for-requires c =
    let at = c.requires in
    let frame = at.over.course.frame in
    rw c.why_over.ensures (over_told at.over.past c.cause-cause.result c.failed_listening-listening.result c.args.self.now.made (c.cause-cause.ensures at.c at.over.past frame.door) frame.unsaid)

pub returns : goal.returns
returns c = λ k n start now over none.
    let door = over.course.frame.door in
    ended_over k n start now c.args.self.now c.cause-cause.result c.failed_listening-listening.result c.args.self.now.made c.why_over.result c.outcome_for.result over none
    (c.cause-cause.ensures k over.past door) (c.failed_listening-listening.ensures k over.past door) c.why_over.ensures c.outcome_for.ensures.answer
