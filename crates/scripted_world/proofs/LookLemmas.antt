-- What a wait finds among the things that it looks at, one after another.
use Rattle.std.proofs.Common.{◌≡◌, ◌<◌, ◌≤◌, ◌+◌, ℕ, zero, suc, Bool, true, false, ◌&&◌, ◌||◌, List, [], ◌∷◌, ◌++◌, length, take, drop, get_or, Option, Some, None, refl, sym, ap, ◌∙◌, arith, add-one, drop-cons, append_assoc, if◌then◌else◌}
use Rattle.std.specs.List.{slice_get}
use Rattle.relay_model.specs.declared.readiness.ReadyAt.{ReadyAt}
use Rattle.relay_model.specs.declared.places.Place.{Place}
use Rattle.relay_model.specs.declared.places.Half.{Half}
use Rattle.relay_model.specs.Choices.{earlier}
use Rattle.relay_model.specs.Readiness.{names}
use Rattle.relay_model.specs.Places.{same_place, same_half}
use Rattle.scripted_world.specs.declared.looking.LookedAt.{LookedAt}
use Rattle.scripted_world.specs.declared.script.Script.{Script}
use Rattle.scripted_world.specs.Looks.{name_of}
use Rattle.scripted_world.specs.Marks.{least_by}
use Rattle.scripted_world.specs.Scripts.{is_ready, ready_ones}

-- ---- the least moment

earlier_assoc : (a b c : Option ℕ) → earlier (earlier a b) c ≡ earlier a (earlier b c)
earlier_assoc None b c = refl
earlier_assoc (Some x) None c = refl
earlier_assoc (Some x) (Some y) None = refl
earlier_assoc (Some x) (Some y) (Some z) = ap Some (omega arith)

pub earlier_none : (a : Option ℕ) → earlier a None ≡ a
earlier_none None = refl
earlier_none (Some x) = refl

-- one more is looked at
pub least_more : {X : Type 0} (moment : X → Option ℕ) (xs : List X) (i : ℕ) (d : X) (least all : Option ℕ) → i < length xs → earlier least (least_by moment (drop i xs)) ≡ all → earlier (earlier least (moment (get_or xs i d))) (least_by moment (drop (i + 1) xs)) ≡ all
least_more moment xs i d least all within e =
    let step : drop i xs ≡ get_or xs i d ∷ drop (suc i) xs = drop-cons xs i d within in
    rw (add-one i) (earlier_assoc least (moment (get_or xs i d)) (least_by moment (drop (suc i) xs)) ∙ (ap (λ ys. earlier least (least_by moment ys)) (sym step) ∙ e))

-- all were looked at
pub least_all : {X : Type 0} (moment : X → Option ℕ) (ys : List X) (least all : Option ℕ) → ys ≡ [] → earlier least (least_by moment ys) ≡ all → least ≡ all
least_all moment ys least all none e = sym (earlier_none least) ∙ (ap (λ zs. earlier least (least_by moment zs)) (sym none) ∙ e)

-- ---- those that are ready

pub take_again : {X : Type 0} (n : ℕ) (xs ys : List X) → take n (take n xs ++ ys) ≡ take n (xs ++ ys)
take_again zero xs ys = refl
take_again (suc n) [] ys = refl
take_again (suc n) (x ∷ xs) ys = ap (λ zs. x ∷ zs) (take_again n xs ys)

ready_step : (b : Bool) (e : ReadyAt) (rest named : List ReadyAt) (n : ℕ) (all : List ReadyAt) → take n (named ++ (if b then e ∷ rest else rest)) ≡ all → take n ((if b then take n (named ++ e ∷ []) else named) ++ rest) ≡ all
ready_step true e rest named n all h = take_again n (named ++ e ∷ []) rest ∙ (ap (take n) (append_assoc named (e ∷ []) rest) ∙ h)
ready_step false e rest named n all h = h

-- one more is looked at, and named where it is ready
pub ready_more : (s : Script) (at : ℕ) (xs : List LookedAt) (i : ℕ) (d : LookedAt) (named : List ReadyAt) (n : ℕ) (all : List ReadyAt) → i < length xs → take n (named ++ ready_ones s at (drop i xs)) ≡ all → take n ((if is_ready s at (get_or xs i d) then take n (named ++ name_of (get_or xs i d) ∷ []) else named) ++ ready_ones s at (drop (i + 1) xs)) ≡ all
ready_more s at xs i d named n all within h =
    let step : drop i xs ≡ get_or xs i d ∷ drop (suc i) xs = drop-cons xs i d within in
    rw (add-one i) (ready_step (is_ready s at (get_or xs i d)) (name_of (get_or xs i d)) (ready_ones s at (drop (suc i) xs)) named n all (ap (λ ys. take n (named ++ ready_ones s at ys)) (sym step) ∙ h))

pub take_fits : {X : Type 0} (n : ℕ) (xs : List X) → length xs ≤ n → take n xs ≡ xs
take_fits zero [] le = refl
take_fits (suc n) [] le = refl
take_fits zero (x ∷ xs) le = absurd (omega arith)
take_fits (suc n) (x ∷ xs) le = ap (λ zs. x ∷ zs) (take_fits n xs (omega arith))

pub take_full : {X : Type 0} (n : ℕ) (xs ys : List X) → n ≤ length xs → length xs ≤ n → take n (xs ++ ys) ≡ xs
take_full zero [] ys ge le = refl
take_full (suc n) [] ys ge le = absurd (omega arith)
take_full zero (x ∷ xs) ys ge le = absurd (omega arith)
take_full (suc n) (x ∷ xs) ys ge le = ap (λ zs. x ∷ zs) (take_full n xs ys (omega arith) (omega arith))

drop_past : {X : Type 0} (i : ℕ) (xs : List X) → length xs ≤ i → drop i xs ≡ []
drop_past zero [] le = refl
drop_past (suc i) [] le = refl
drop_past zero (x ∷ xs) le = absurd (omega arith)
drop_past (suc i) (x ∷ xs) le = drop_past i xs (omega arith)

append_none : {X : Type 0} (xs : List X) → xs ++ [] ≡ xs
append_none [] = refl
append_none (x ∷ xs) = ap (λ zs. x ∷ zs) (append_none xs)

-- all were looked at
pub ready_all : (s : Script) (at : ℕ) (xs : List LookedAt) (i : ℕ) (named : List ReadyAt) (n : ℕ) (all : List ReadyAt) → length xs ≤ i → length named ≤ n → take n (named ++ ready_ones s at (drop i xs)) ≡ all → named ≡ all
ready_all s at xs i named n all past few h =
    let none = drop_past i xs past in
    sym (take_fits n named few) ∙ (ap (take n) (sym (append_none named)) ∙ (ap (λ ys. take n (named ++ ready_ones s at ys)) (sym none) ∙ h))

-- ---- what a list names

drop_at : {X : Type 0} (xs : List X) (i : ℕ) (x : X) → slice_get xs i ≡ Some x → drop i xs ≡ x ∷ drop (suc i) xs
drop_at [] i x e = absurd cc
drop_at (y ∷ xs) zero x e = ap (λ z. z ∷ xs) cc
drop_at (y ∷ xs) (suc i) x e = drop_at xs i x e

-- an entry that isn't the one that is sought
pub named_later : (entries : List ReadyAt) (i : ℕ) (e : ReadyAt) (p : Place) (half : Half) (all : Bool) → slice_get entries i ≡ Some e → (same_place e.place p && same_half e.half half) ≡ false → names (drop i entries) p half ≡ all → names (drop (i + 1) entries) p half ≡ all
named_later entries i e p half all found other h =
    rw (add-one i) (ap (λ b. b || names (drop (suc i) entries) p half) (sym other) ∙ (ap (λ ys. names ys p half) (sym (drop_at entries i e found)) ∙ h))

-- the entry that is sought
pub named_here : (entries : List ReadyAt) (i : ℕ) (e : ReadyAt) (p : Place) (half : Half) (all : Bool) → slice_get entries i ≡ Some e → (same_place e.place p && same_half e.half half) ≡ true → names (drop i entries) p half ≡ all → true ≡ all
named_here entries i e p half all found same h =
    ap (λ b. b || names (drop (suc i) entries) p half) (sym same) ∙ (ap (λ ys. names ys p half) (sym (drop_at entries i e found)) ∙ h)
