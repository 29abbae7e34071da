use Rattle.std.proofs.Common.{arith, add-one, refl, sym, ◌∙◌}
use Rattle.place_openings.proofs.Asked.{found_out, one_less, none_out}
use Rattle.place_openings.proofs.summaries.some_gave_up.Goals as goal

pub loop-opening-init : goal.loop-opening-init
loop-opening-init c = λ cfg past ps each. record { left = ps; each = each; same = refl }

pub returns-then-gave_up : goal.returns-then-gave_up
returns-then-gave_up c = λ cfg past ps each.
    found_out cfg past c.args.has_door ps c.args.openings.now c.loop-opening.opening-index c.opening-item.result (omega arith) c.opening-item.is (c.loop-opening.invariant cfg past ps each) (λ p i. sym c.if-gave_up.true ∙ c.gave_up.ensures cfg past p i)

pub loop-opening-preserved : goal.loop-opening-preserved
loop-opening-preserved c = λ cfg past ps each.
    rw add-one (one_less cfg past c.args.has_door ps c.args.openings.now c.loop-opening.opening-index c.opening-item.result (omega arith) c.opening-item.is (c.loop-opening.invariant cfg past ps each) (λ p i. sym c.if-gave_up.false ∙ c.gave_up.ensures cfg past p i))

pub returns : goal.returns
returns c = λ cfg past ps each. none_out cfg past c.args.has_door ps c.args.openings.now c.loop-opening.opening-index (omega arith) (c.loop-opening.invariant cfg past ps each)
