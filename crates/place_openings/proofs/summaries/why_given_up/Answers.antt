use Rattle.std.proofs.Common.{refl, ◌∙◌}
use Rattle.relay_model.specs.Configs.{places}
use Rattle.place_openings.proofs.Asked.{doors_are_out, places_are_out}
use Rattle.place_openings.proofs.summaries.why_given_up.Goals as goal

pub returns : goal.returns
returns c = λ cfg past s each.
    let listening = c.some_gave_up-listening.ensures cfg past (places cfg s) each ∙ doors_are_out cfg past s in
    let opening = c.some_gave_up-opening.ensures cfg past (places cfg s) each ∙ places_are_out cfg past s c.args.openings.now each in
    rw (c.reason.ensures, listening, opening) refl
