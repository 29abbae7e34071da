use Rattle.std.proofs.Common.{ap, ◌∙◌, is_none}
use Rattle.place_openings.proofs.Asked.{none_by}
use Rattle.place_openings.proofs.summaries.are_ready.Goals as goal

pub returns : goal.returns
returns c =
    none_by (λ o. o.now) c.first_unready.result c.is_none.result c.is_none.ensures ∙ ap is_none c.first_unready.ensures
