use Rattle.std.proofs.Common.{◌∙◌, ◌++◌}
use Rattle.event_loop.proofs.AfterCuts.{left_two}
use Rattle.event_loop.proofs.DoorClosings.{vacated_by}
use Rattle.event_loop.proofs.Finishing.{ended_empty, may_tell}
use Rattle.event_loop.proofs.all_sessions.Sessions.leave.Goals as goal

pub close_rows-requires : goal.close_rows-requires
close_rows-requires g c = let at = c.requires in record { n = at.n; start = at.start; past = at.left.past; leaving = at.left.leaving }

pub close_door-requires : goal.close_door-requires
close_door-requires g c =
    let at = c.requires in
    let k = c.close_rows.ensures.leave.keeps at.n at.start at.left.past at.left.leaving in
    record { c = c.args.config.now; n = at.n; start = at.start; past = k.made ++ at.left.past; vacated = vacated_by c.args.config.now at.n at.start _ (k.made ++ at.left.past) c.args.why c.close_rows.new.self k.leaving c.close_rows.ensures.leave.none }

pub outcome_for-requires : goal.outcome_for-requires
outcome_for-requires g c = let left = c.requires.left in may_tell c.args.why left.past c.close_door.new.self.made left.leaving.exit.may

pub returns : goal.returns
returns g c = λ n start l.
    let k = c.close_rows.ensures.leave.keeps n start l.past l.leaving in
    let e = c.close_door.ensures.closes c.args.config.now n start (k.made ++ l.past) (vacated_by c.args.config.now n start _ (k.made ++ l.past) c.args.why c.close_rows.new.self k.leaving c.close_rows.ensures.leave.none) in
    left_two c.args.config.now n start _ l.past c.args.self.now c.outcome_for.result _ _ k.made e.made (ended_empty c.args.config.now n start _ (k.made ++ l.past) c.args.why c.close_door.new.self c.outcome_for.result e c.outcome_for.ensures.answer) (e.vacated.made_is ∙ c.close_door.ensures.made ∙ c.close_rows.ensures.made) k.each k.few
