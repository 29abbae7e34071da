use Rattle.std.proofs.Common.{ap, ◌∙◌}
use Rattle.place_openings.specs.Tried.{is_end_of_tries}
use Rattle.place_openings.proofs.Tries.{gives_up}
use Rattle.place_openings.proofs.one_place.Opening.gives_up.Goals as goal

pub returns : goal.returns
returns c =
    λ retry forever interval failures is. c.is_end_of_tries.ensures ∙ ap is_end_of_tries (c.next.ensures retry forever interval failures is) ∙ gives_up retry forever interval failures
