use Rattle.std.proofs.Common.{ap, ◌∙◌}
use Rattle.place_openings.specs.Tried.{call_by}
use Rattle.place_openings.proofs.Tries.{by_plan}
use Rattle.place_openings.proofs.one_place.Opening.try_again.Goals as goal

pub returns : goal.returns
returns c =
    λ retry forever interval failures is. c.once_due.ensures ∙ ap (call_by c.args.at c.args.wanted) (c.next.ensures retry forever interval failures is) ∙ by_plan retry forever interval failures c.args.at c.args.wanted
