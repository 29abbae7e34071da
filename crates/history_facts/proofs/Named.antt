-- What the first entries of a list name.
use Rattle.std.proofs.Common.{◌≡◌, ℕ, suc, ◌+◌, ◌<◌, Bool, true, false, ◌&&◌, ◌||◌, cond, List, [], ◌∷◌, ◌++◌, length, take, get_or, refl, ap, sym, ◌∙◌, arith}
use Rattle.std.specs.List.{slice_get}
use Rattle.std.specs.Prelude.{Some}
use Rattle.std.proofs.Math.Seq.{take-suc}
use Rattle.std.proofs.lemmas.Option.{slice_get_within, get_or_from_slice_get}
use Rattle.relay_model.specs.declared.places.Half.{Half}
use Rattle.relay_model.specs.declared.places.Place.{Place}
use Rattle.relay_model.specs.declared.readiness.ReadyAt.{ReadyAt}
use Rattle.relay_model.specs.Places.{same_place, same_half}
use Rattle.relay_model.specs.Readiness.{names}

swap : (a b d : Bool) → (a || (b || d)) ≡ (b || (a || d))
swap true true d = refl
swap true false d = refl
swap false b d = refl

-- one more entry at the end
names_behind : (entries : List ReadyAt) (e : ReadyAt) (p : Place) (half : Half) → names (entries ++ e ∷ []) p half ≡ (same_place e.place p && same_half e.half half || names entries p half)
names_behind [] e p half = refl
names_behind (x ∷ xs) e p half =
    ap (λ b. same_place x.place p && same_half x.half half || b) (names_behind xs e p half)
    ∙ swap (same_place x.place p && same_half x.half half) (same_place e.place p && same_half e.half half) (names xs p half)

take_more : (entries : List ReadyAt) (i : ℕ) (e : ReadyAt) → slice_get entries i ≡ Some e → take (i + 1) entries ≡ take i entries ++ e ∷ []
take_more entries i e here =
    let within : i < length entries = slice_get_within entries i e here in
    let at : get_or entries i e ≡ e = get_or_from_slice_get entries i e e here in
    let next : i + 1 ≡ suc i = omega arith in
    ap (λ k. take k entries) next ∙ take-suc entries i e within ∙ ap (λ x. take i entries ++ x ∷ []) at

pub one_more_named : (entries : List ReadyAt) (i : ℕ) (e : ReadyAt) (p : Place) (half : Half) → slice_get entries i ≡ Some e → names (take (i + 1) entries) p half ≡ (same_place e.place p && same_half e.half half || names (take i entries) p half)
one_more_named entries i e p half here = ap (λ list. names list p half) (take_more entries i e here) ∙ names_behind (take i entries) e p half

either : {T : Type 0} → (a b : Bool) (x y : T) → cond a x (cond b x y) ≡ cond (a || b) x y
either true b x y = refl
either false b x y = refl

-- an answer that is set at one more entry
pub one_more_set : {T : Type 0} → (entries : List ReadyAt) (i : ℕ) (e : ReadyAt) (p : Place) (half : Half) (x y : T) → slice_get entries i ≡ Some e → cond (same_place e.place p && same_half e.half half) x (cond (names (take i entries) p half) x y) ≡ cond (names (take (i + 1) entries) p half) x y
one_more_set entries i e p half x y here =
    either (same_place e.place p && same_half e.half half) (names (take i entries) p half) x y
    ∙ ap (λ b. cond b x y) (sym (one_more_named entries i e p half here))
