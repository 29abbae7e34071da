-- Lists from a place on.
use Rattle.std.proofs.Common.{◌≡◌, ℕ, suc, ◌+◌, ◌-◌, ◌<◌, ◌≤◌, ◌&&◌, ◌||◌, List, [], ◌∷◌, ◌++◌, length, take, drop, reverse, get_or, Bor, refl, ap, sym, ◌∙◌, arith}
use Rattle.std.specs.List.{slice_get}
use Rattle.std.specs.Prelude.{Some}
use Rattle.std.proofs.Math.Seq.{drop-cons, take-suc}
use Rattle.std.proofs.lemmas.List.{get_or-reverse, map-append}
use Rattle.std.proofs.lemmas.Option.{slice_get_within, get_or_from_slice_get}
use Rattle.relay_model.specs.declared.acts.Act.{Act}
use Rattle.relay_model.specs.declared.places.Half.{Half}
use Rattle.relay_model.specs.declared.places.Place.{Place}
use Rattle.relay_model.specs.declared.readiness.ReadyAt.{ReadyAt}
use Rattle.relay_model.specs.Places.{same_place, same_half}
use Rattle.relay_model.specs.Readiness.{names}
use Rattle.history_facts.specs.Pasts.{acts}

-- a list from a place on is what stands there, and the list from the next place on
drop_at : {A : Type 0} → (xs : List A) (i : ℕ) (x : A) → slice_get xs i ≡ Some x → drop i xs ≡ x ∷ drop (i + 1) xs
drop_at xs i x here =
    let within : i < length xs = slice_get_within xs i x here in
    let at : get_or xs i x ≡ x = get_or_from_slice_get xs i x x here in
    let next : suc i ≡ i + 1 = omega arith in
    drop-cons xs i x within ∙ rw (at, next) refl

-- what the entries from a place on name
pub names_from : (entries : List ReadyAt) (i : ℕ) (e : ReadyAt) (p : Place) (half : Half) → slice_get entries i ≡ Some e → names (drop i entries) p half ≡ (same_place e.place p && same_half e.half half || names (drop (i + 1) entries) p half)
names_from entries i e p half here = ap (λ list. names list p half) (drop_at entries i e here)

-- the acts from the place before on
pub acts_before : (past : List (Bor Act)) (k : ℕ) (act : Bor Act) → 0 < k → k ≤ length past → act ≡ get_or past (k - 1) act → acts (drop (k - 1) past) ≡ act.now ∷ acts (drop k past)
acts_before past k act some within at =
    let below : k - 1 < length past = omega arith in
    let next : suc (k - 1) ≡ k = omega arith in
    let cut : drop (k - 1) past ≡ act ∷ drop k past = drop-cons past (k - 1) act below ∙ rw (← at, next) refl in
    ap acts cut

-- one more act behind those that were taken from the newest end
pub newest_more : (past next : List (Bor Act)) (all : List Act) (k : ℕ) (act : Bor Act) → 0 < k → k ≤ length all → next ≡ past ++ act ∷ [] → acts past ≡ take (length all - k) all → slice_get (reverse all) (k - 1) ≡ Some act.now → acts next ≡ take (length all - (k - 1)) all
newest_more past next all k act some within grown so_far at =
    let back : k - 1 < length all = omega arith in
    let here : length all - k < length all = omega arith in
    let place : length all - 1 - (k - 1) ≡ length all - k = omega arith in
    let count : suc (length all - k) ≡ length all - (k - 1) = omega arith in
    let read : get_or all (length all - k) act.now ≡ act.now = ap (λ i. get_or all i act.now) (sym place) ∙ sym (get_or-reverse all (k - 1) act.now back) ∙ get_or_from_slice_get (reverse all) (k - 1) act.now act.now at in
    let grow : take (length all - (k - 1)) all ≡ take (length all - k) all ++ act.now ∷ [] = ap (λ i. take i all) (sym count) ∙ take-suc all (length all - k) act.now here ∙ ap (λ a. take (length all - k) all ++ a ∷ []) read in
    ap acts grown ∙ map-append (λ a. a.now) past (act ∷ []) ∙ ap (λ list. list ++ act.now ∷ []) so_far ∙ sym grow
