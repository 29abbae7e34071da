use Rattle.std.proofs.Common.{not, ◌&&◌, rules}
use Rattle.std.proofs.lemmas.Fn.{filter_same}
use Rattle.relay_model.specs.Places.{same_place}
use Rattle.scripted_world.specs.Looks.{same_watch}
use Rattle.scripted_world.specs.declared.looking.LookedAt.{LookedAt}
use Rattle.scripted_world.proofs.looking.Lookout.forget.Goals as goal

pub returns : goal.returns
returns c = rw (← c.self.view_is) (filter_same _ (λ (e : LookedAt). not (same_place e.place c.args.place && same_watch e.watch c.args.watch)) _ (λ x b f' t. search rules) _ _ c.retain.ensures.filtered)
