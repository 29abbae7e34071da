use Rattle.std.proofs.Common.{◌≡◌, not, filter, rules, refl}
use Rattle.std.proofs.lemmas.Fn.{filter_same}
use Rattle.scripted_world.specs.declared.looking.LookedAt.{LookedAt}
use Rattle.relay_model.specs.Places.{same_place}
use Rattle.scripted_world.proofs.looking.Lookout.look_at_opening.Goals as goal

-- what is left is all but what is looked at of the place
left_is : (c : goal.After-push_openings) → c.retain.new.self.items ≡ filter (λ (e : LookedAt). not (same_place e.place c.args.place)) c.reserve.new.self.items
left_is c = filter_same _ (λ (e : LookedAt). not (same_place e.place c.args.place)) _ (λ x b f' t. search rules) _ _ c.retain.ensures.filtered

pub returns-clause-looks : goal.returns-clause-looks
returns-clause-looks c = rw (c.push_openings.ensures, left_is c, c.reserve.ensures.items, ← c.self.view_is) refl
