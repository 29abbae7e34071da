use Rattle.std.proofs.Common.{◌≡◌, not, filter, arith, rules}
use Rattle.std.proofs.lemmas.Fn.{filter_same}
use Rattle.relay_model.specs.Places.{same_place}
use Rattle.world_trait.specs.declared.tables.Held.{Held}
use Rattle.world_trait.proofs.TableLemmas.{lookup-remove, length-remove}
use Rattle.world_trait.proofs.tables.Holdings.remove.Goals as goal

-- what is left is what stands elsewhere
left_is : (c : goal.After-retain) → c.retain.new.self.items ≡ filter (λ (h : Held). not (same_place h.place c.args.place)) c.self.inside.entries.items
left_is c = filter_same _ (λ (h : Held). not (same_place h.place c.args.place)) _ (λ x b f' t. search rules) _ _ c.retain.ensures.filtered

pub returns-clause-held : goal.returns-clause-held
returns-clause-held c = λ p. rw (left_is c, ← c.self.view_is) (lookup-remove _ _ p)

pub returns-clause-fewer : goal.returns-clause-fewer
returns-clause-fewer c = λ held. rw (left_is c, ← c.self.view_is) (length-remove _ _ (rw (← c.self.view_is) at held))

pub returns-clause-spare : goal.returns-clause-spare
returns-clause-spare c = λ held.
    let fewer = rw (← left_is c) at (length-remove c.self.inside.entries.items c.args.place (rw (← c.self.view_is) at held)) in
    let before = c.self.inside.entries.ok in
    let after = c.retain.new.self.ok in
    rw (← c.self.view_is) (omega (arith, fewer, before, after, c.retain.ensures.capacity))
