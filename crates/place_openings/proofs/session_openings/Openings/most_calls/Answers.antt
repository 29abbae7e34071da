use Rattle.std.proofs.Common.{ap, ◌∙◌, arith}
use Rattle.relay_model.specs.Configs.{places}
use Rattle.place_openings.specs.Steps.{most_in}
use Rattle.place_openings.proofs.Counting.{most_is}
use Rattle.place_openings.proofs.session_openings.Openings.most_calls.Goals as goal

pub most_calls-requires : goal.most_calls-requires
most_calls-requires c = let few = c.self.invariant.0 in omega (arith, few)

pub returns-clause-sum : goal.returns-clause-sum
returns-clause-sum c = λ k past s are. c.most_calls.ensures.sum ∙ (ap most_in c.self.view_is ∙ most_is k past (places k s) c.args.self.now are.each)
