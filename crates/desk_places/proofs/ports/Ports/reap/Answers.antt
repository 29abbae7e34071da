use Rattle.desk_places.proofs.PortLemmas.{found_at, found_nowhere}
use Rattle.desk_places.specs.Changes.{ReapsKept}
use Rattle.port_trait.specs.declared.answers.PortReap.TheVariants as reaps
use Rattle.std.proofs.Common.{refl, subst, sym}
use Rattle.desk_places.proofs.ports.Ports.reap.Goals as goal

pub returns-in-None-clause-reaped : goal.returns-in-None-clause-reaped
returns-in-None-clause-reaped g c =
    let is = rw c.as_slice.ensures.value at c.parent_of.ensures.is in
    subst (λ slot. ReapsKept slot reaps.NoChild) (sym (found_nowhere _ c.args.self.now.parents.items c.parent_of.result is c.in-None.is)) refl

pub returns-in-Some-clause-reaped : goal.returns-in-Some-clause-reaped
returns-in-Some-clause-reaped g c =
    let is = rw c.as_slice.ensures.value at c.parent_of.ensures.is in
    let within = rw c.as_slice.ensures.value at c.in-Some.ensures.within in
    subst (λ slot. ReapsKept slot c.reap.result) (sym (found_at _ c.args.self.now.parents.items c.parent_of.result c.in-Some.i c.remove.result is c.in-Some.is within c.remove.ensures.value)) (g.M.Made.Port.seen c.reap.new.self, rw (← c.remove-in-Some.view_is) c.reap.ensures)
