-- A session that is done has asked for each child that was closed.
use Rattle.std.proofs.Common.{◌≡◌, refl, sym, ap, ◌∙◌, subst, ℕ, Bool, true, false, not, ◌&&◌, List, [], ◌∷◌, Option, Some, None, ◌⊎◌, inl, inr}
use Rattle.std.specs.List.{list_any}
use Rattle.std.proofs.lemmas.Bool.{false≢true, or_cases, or_left, or_right, and_from}
use Rattle.relay_model.specs.declared.places.Place.{Place}
use Rattle.relay_model.specs.declared.commands.Config.{Config}
use Rattle.relay_model.specs.declared.acts.Act.{Act}
use Rattle.relay_model.specs.declared.acts.Why.{Why}
use Rattle.relay_model.specs.Places.{same_place}
use Rattle.relay_model.specs.Choices.{only_if, or_else}
use Rattle.relay_model.specs.Configs.{places, is_place_of, is_program, medium_of}
use Rattle.relay_model.specs.History.{was_closed}
use Rattle.relay_laws.proofs.PlaceLemmas.{same_place_equal}
use Rattle.place_openings.specs.declared.one_place.Opening.{Opening}
use Rattle.place_openings.specs.Queries.{first_of, child_by}
use Rattle.place_openings.specs.Stands.{IsOpening, Each}
use Rattle.place_openings.specs.Steps.{asked_by, has_asked}
use Rattle.relay_session.specs.declared.states.State.{State}
use Rattle.relay_session.specs.declared.wishes.Wish.{Wish}
use Rattle.relay_session.specs.declared.wishes.Wish.TheVariants as wishes
use Rattle.relay_session.specs.States.{Allowed}

or_none : {T : Type 0} (a b : Option T) → or_else a b ≡ None → (a ≡ None) × (b ≡ None)
or_none None b e = (refl, e)
or_none (Some x) b e = absurd cc

asked_by_now : (is_child closed asked : Bool) (p : Place) → is_child ≡ true → closed ≡ true → only_if (is_child && closed && not asked) p ≡ None → asked ≡ true
asked_by_now true true true p a b e = refl
asked_by_now true true false p a b e = absurd cc
asked_by_now true false asked p a b e = absurd (false≢true b)
asked_by_now false closed asked p a b e = absurd (false≢true a)

-- the child of this place, which was closed, isn't left to be asked for
this_asked : (c : Config) (past : List Act) (p q : Place) (o : Opening) → IsOpening c past q o → child_by o ≡ None → same_place p q ≡ true → is_program (medium_of c p) ≡ true → was_closed past p ≡ true → asked_by p o ≡ true
this_asked c past p q o i none here program closed =
    let e = same_place_equal p q here in
    let child = i.is_child_is ∙ ap (λ x. is_program (medium_of c x)) (sym e) ∙ program in
    let shut = i.closed_is child ∙ ap (was_closed past) (sym e) ∙ closed in
    and_from o.asked_child (same_place p o.place) (asked_by_now o.is_child o.closed o.asked_child o.place child shut none) (ap (same_place p) i.place_is ∙ here)

each_asked : (c : Config) (past : List Act) (p : Place) (ps : List Place) (os : List Opening) → Each c past ps os → first_of child_by os ≡ None → list_any (same_place p) ps ≡ true → is_program (medium_of c p) ≡ true → was_closed past p ≡ true → has_asked os p ≡ true
each_asked c past p [] os each none among program closed = absurd (false≢true among)
each_asked c past p (q ∷ ps) [] each none among program closed = absurd each
each_asked c past p (q ∷ ps) (o ∷ os) each none among program closed = go (or_cases (same_place p q) (list_any (same_place p) ps) among) (each_asked c past p ps os each.1 (or_none (child_by o) (first_of child_by os) none).1)
  where
    go : (same_place p q ≡ true) ⊎ (list_any (same_place p) ps ≡ true) → (list_any (same_place p) ps ≡ true → is_program (medium_of c p) ≡ true → was_closed past p ≡ true → has_asked os p ≡ true) → has_asked (o ∷ os) p ≡ true
    go (inl here) ih = or_left (asked_by p o) (has_asked os p) (this_asked c past p q o each.0 (or_none (child_by o) (first_of child_by os) none).0 here program closed)
    go (inr there) ih = or_right (asked_by p o) (has_asked os p) (ih there program closed)

pub done_asked : (c : Config) (n : ℕ) (past : List Act) (s : ℕ) (st : State) (wish : Wish) (why : Why) → Each c past (places c s) st.openings → Allowed c n past s st wish → wish ≡ wishes.Done why → (p : Place) → is_place_of c s p ≡ true → is_program (medium_of c p) ≡ true → was_closed past p ≡ true → has_asked st.openings p ≡ true
done_asked c n past s st wish why each allowed e p among program closed =
    each_asked c past p (places c s) st.openings each (subst (Allowed c n past s st) e allowed).1.1 among program closed
