use Rattle.std.proofs.Common.{arith, add-one}
use Rattle.place_openings.proofs.GivingUp.{first_found, one_passed, none_found}
use Rattle.place_openings.proofs.given_up.first_given_up.Goals as goal

pub loop-opening-init : goal.loop-opening-init
loop-opening-init c = λ cfg past ps each. record { left = ps; each = each; same = λ answer first. first }

pub returns-in-Some : goal.returns-in-Some
returns-in-Some c = λ cfg past ps each.
    first_found cfg past c.args.has_door ps c.args.openings.now c.loop-opening.opening-index c.opening-item.result _ (omega arith) c.opening-item.is (c.loop-opening.invariant cfg past ps each) (λ p i. c.in-Some.ensures cfg past p i)

pub loop-opening-preserved : goal.loop-opening-preserved
loop-opening-preserved c = λ cfg past ps each.
    rw add-one (one_passed cfg past c.args.has_door ps c.args.openings.now c.loop-opening.opening-index c.opening-item.result (omega arith) c.opening-item.is (c.loop-opening.invariant cfg past ps each) (λ p i. c.in_default.ensures cfg past p i))

pub returns : goal.returns
returns c = λ cfg past ps each. none_found cfg past c.args.has_door ps c.args.openings.now c.loop-opening.opening-index (omega arith) (c.loop-opening.invariant cfg past ps each)
