use Rattle.std.proofs.Common.{sym, ◌∙◌}
use Rattle.place_openings.proofs.Summing.{still_sums}
use Rattle.place_openings.proofs.summaries.OpeningSummary.after.Goals as goal

pub returns-then-is_still : goal.returns-then-is_still
returns-then-is_still c = λ os sums took. still_sums c.args.self c.args.step os _ sums took (sym c.is_still.ensures ∙ c.if-is_still.true)
