use Rattle.std.proofs.Common.{◌≡◌, ◌++◌, sym, ap, ◌∙◌, arith}
use Rattle.std.specs.Prelude.{Some, slice_get}
use Rattle.std.proofs.lemmas.Option.{slice_get_within}
use Rattle.port_objects.specs.Scripts.{ScriptState, given_of, got_bytes}
use Rattle.port_objects.proofs.ScriptSteps.{within_start, given_more, given_passed, gives_from}
use Rattle.port_objects.proofs.scripts.PortScript.read.Goals as goal

pub invariant_of-self-in-None : goal.invariant_of-self-in-None
invariant_of-self-in-None c =
    let i = c.self.inside in
    let found : slice_get i.items.items i.next ≡ Some c.in-Some.item.now = ap (λ (s : ScriptState). slice_get s.items s.next) c.self.view_is ∙ sym c.in-Some.ensures in
    (c.self.invariant.0, omega (arith, slice_get_within i.items.items i.next c.in-Some.item.now found), within_start i.items.items _ c.self.invariant.0)

pub returns-in-Some-left_at-clause-gives : goal.returns-in-Some-left_at-clause-gives
returns-in-Some-left_at-clause-gives c =
    let i = c.self.inside in
    let bytes = got_bytes c.give-got.new.into c.give-got.result.0 in
    let found : slice_get i.items.items i.next ≡ Some c.in-Some.item.now = ap (λ (s : ScriptState). slice_get s.items s.next) c.self.view_is ∙ sym c.in-Some.ensures in
    let part = rw c.in-Some-left_at.is at c.give-got.ensures.bytes in
    gives_from _ _ _ _ c.give-got.ensures.fits (given_more i.items.items i.next i.at c.in-Some-left_at.at c.in-Some.item.now bytes found part ∙ ap (λ (s : ScriptState). given_of s ++ bytes) c.self.view_is)

pub returns-in-None-clause-gives : goal.returns-in-None-clause-gives
returns-in-None-clause-gives c =
    let i = c.self.inside in
    let bytes = got_bytes c.give-got.new.into c.give-got.result.0 in
    let found : slice_get i.items.items i.next ≡ Some c.in-Some.item.now = ap (λ (s : ScriptState). slice_get s.items s.next) c.self.view_is ∙ sym c.in-Some.ensures in
    let part = rw c.in-None.is at c.give-got.ensures.bytes in
    gives_from _ _ _ _ c.give-got.ensures.fits (given_passed i.items.items i.next i.at c.in-Some.item.now bytes found part ∙ ap (λ (s : ScriptState). given_of s ++ bytes) c.self.view_is)
