use Rattle.std.proofs.Common.{not, rules}
use Rattle.std.proofs.lemmas.Fn.{filter_same}
use Rattle.scripted_world.specs.declared.looking.LookedAt.{LookedAt}
use Rattle.relay_model.specs.Readiness.{names}
use Rattle.scripted_world.specs.Looks.{half_of}
use Rattle.scripted_world.proofs.looking.Lookout.forget_named.Goals as goal

pub returns : goal.returns
returns c = rw (← c.self.view_is) (filter_same _ (λ (e : LookedAt). not (names c.args.ready.now.entries e.place (half_of e.watch))) _ (λ x b f' t. search rules) _ _ c.retain.ensures.filtered)
