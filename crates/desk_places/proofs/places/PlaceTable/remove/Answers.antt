use Rattle.std.proofs.Common.{◌≡◌, not, filter, None, rules}
use Rattle.std.proofs.lemmas.Fn.{filter_same}
use Rattle.relay_model.specs.declared.places.Place.{Place}
use Rattle.relay_model.specs.Places.{same_place}
use Rattle.desk_places.specs.PlaceTables.{SetsEntry, entry_at}
use Rattle.desk_places.specs.declared.places.PlaceEntry.{PlaceEntry}
use Rattle.desk_places.proofs.EntryLemmas.{length-remove, listed_remove, order_remove, entry-remove, puts_by}
use Rattle.desk_places.proofs.places.PlaceTable.remove.Goals as goal

-- what is left is what stands elsewhere
left_is : (c : goal.After-retain-2) → c.retain.new.self.items ≡ filter (λ (s : PlaceEntry). not (same_place s.place c.args.place)) c.self.inside.entries.items
left_is c = filter_same _ (λ (s : PlaceEntry). not (same_place s.place c.args.place)) _ (λ x b f' t. search rules) _ _ c.retain.ensures.filtered

listed_is : (c : goal.After-retain-2) → c.retain-2.new.self.items ≡ filter (λ (p : Place). not (same_place p c.args.place)) c.self.inside.asked.items
listed_is c = filter_same _ (λ (p : Place). not (same_place p c.args.place)) _ (λ x b f' t. search rules) _ _ c.retain-2.ensures.filtered

sets : (c : goal.After-retain-2) → SetsEntry c.args.place None (entry_at c.self.inside.entries.items) (entry_at c.retain.new.self.items)
sets c = λ p. rw (left_is c) (entry-remove c.self.inside.entries.items c.args.place p)

pub returns-clause-put : goal.returns-clause-put
returns-clause-put c = rw (← c.self.view_is) (puts_by c.self.inside.entries.items c.retain.new.self.items c.args.place None (sets c))

pub returns-clause-fewer : goal.returns-clause-fewer
returns-clause-fewer c = λ held. rw (left_is c, ← c.self.view_is) (length-remove c.self.inside.entries.items c.args.place (rw (← c.self.view_is) at held))

pub invariant_of-self : goal.invariant_of-self
invariant_of-self c = (
  rw (left_is c) (order_remove c.self.inside.entries.items c.args.place c.self.invariant.0),
  rw (listed_is c) (listed_remove c.self.inside.entries.items c.retain.new.self.items c.args.place c.self.inside.asked.items (sets c) c.self.invariant.1),
)
