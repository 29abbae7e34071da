use Rattle.std.proofs.Common.{◌≡◌, not, ◌&&◌, filter, rules, refl}
use Rattle.std.proofs.lemmas.Fn.{filter_same}
use Rattle.scripted_world.specs.declared.looking.LookedAt.{LookedAt}
use Rattle.relay_model.specs.Places.{same_place}
use Rattle.scripted_world.specs.Looks.{same_watch}
use Rattle.scripted_world.proofs.looking.Lookout.look_at.Goals as goal

-- what is left is all but this
left_is : (c : goal.After-push_reserved) → c.retain.new.self.items ≡ filter (λ (e : LookedAt). not (same_place e.place c.args.place && same_watch e.watch c.args.watch)) c.reserve.new.self.items
left_is c = filter_same _ (λ (e : LookedAt). not (same_place e.place c.args.place && same_watch e.watch c.args.watch)) _ (λ x b f' t. search rules) _ _ c.retain.ensures.filtered

pub returns-clause-looks : goal.returns-clause-looks
returns-clause-looks c = rw (c.push_reserved.ensures.items, left_is c, c.reserve.ensures.items, ← c.self.view_is) refl
