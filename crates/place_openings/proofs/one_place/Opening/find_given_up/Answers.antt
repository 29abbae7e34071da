use Rattle.std.proofs.Common.{sym, subst}
use Rattle.place_openings.specs.Attempts.{GivesUp}
use Rattle.place_openings.proofs.GivingUp.{gives}
use Rattle.place_openings.proofs.one_place.Opening.find_given_up.Goals as goal

pub returns : goal.returns
returns c = λ cfg past p i.
    let e = c.given_up_by.ensures in
    subst (GivesUp cfg past c.args.has_door p) (sym e) (gives cfg past p c.args.self.now c.args.has_door c.spent_attempts.result i (c.spent_attempts.ensures _ _ _ _ i.tries_are))
