-- Which halves are disarmed after a change of an entry.
use Rattle.std.proofs.Common.{◌≡◌, ◌&&◌, ◌∙◌, ap, sym, refl, Bool, true, false, List, Option, None, Some, is_some, option_map, if◌then◌else◌}
use Rattle.relay_model.specs.declared.places.Place.{Place}
use Rattle.relay_model.specs.declared.places.Half.{Half}
use Rattle.relay_model.specs.declared.places.Half.TheVariants.{ToRead, ToWrite}
use Rattle.relay_model.specs.Places.{same_half, same_place}
use Rattle.desk_places.specs.declared.places.PlaceEntry.{PlaceEntry}
use Rattle.desk_places.specs.Marks.{ArmsBoth, MarksHalf, MarksPlace, SameMarks}
use Rattle.desk_places.specs.PlaceTables.{SetsEntry, half_disarmed, is_disarmed, shut_down, entry_at, with_half}
use Rattle.desk_places.proofs.PlaceLemmas.{same_place-eq}

pick : (b : Bool) (h : Half) (x y : Option PlaceEntry) (d : Bool) → half_disarmed h x ≡ d → half_disarmed h (if b then x else y) ≡ (if b then d else half_disarmed h y)
pick true h x y d e = e
pick false h x y d e = refl

both_so : (s : PlaceEntry) (d : Bool) (h : Half) → s.reading_disarmed ≡ d → s.writing_disarmed ≡ d → half_disarmed h (Some s) ≡ d
both_so s d ToRead r w = r
both_so s d ToWrite r w = w

none_marked : (h : Half) → half_disarmed h None ≡ false
none_marked ToRead = refl
none_marked ToWrite = refl

-- a place that has an entry with both halves so
pub marks_set : (xs ys : List PlaceEntry) (s : PlaceEntry) (d : Bool) → SetsEntry s.place (Some s) (entry_at xs) (entry_at ys) → s.reading_disarmed ≡ d → s.writing_disarmed ≡ d → MarksPlace s.place d (is_disarmed xs) (is_disarmed ys)
marks_set xs ys s d sets r w p h = ap (half_disarmed h) (sets p) ∙ pick (same_place s.place p) h (Some s) (entry_at xs p) d (both_so s d h r w)

-- a place that has none
pub marks_gone : (xs ys : List PlaceEntry) (place : Place) → SetsEntry place None (entry_at xs) (entry_at ys) → MarksPlace place false (is_disarmed xs) (is_disarmed ys)
marks_gone xs ys place sets p h = ap (half_disarmed h) (sets p) ∙ pick (same_place place p) h None (entry_at xs p) false (none_marked h)

half_so : (half h : Half) (d : Bool) (s : PlaceEntry) → half_disarmed h (Some (with_half half d s)) ≡ (if same_half half h then d else half_disarmed h (Some s))
half_so ToRead ToRead d s = refl
half_so ToRead ToWrite d s = refl
half_so ToWrite ToRead d s = refl
half_so ToWrite ToWrite d s = refl

same_choice : (b : Bool) (x : Bool) → x ≡ (if b then x else x)
same_choice true x = refl
same_choice false x = refl

arm_slot : (half h : Half) (slot : Option PlaceEntry) → half_disarmed h (option_map (with_half half false) slot) ≡ (if same_half half h then false else half_disarmed h slot)
arm_slot half h None = none_marked h ∙ (same_choice (same_half half h) false ∙ ap (λ x. if same_half half h then false else x) (sym (none_marked h)))
arm_slot half h (Some s) = half_so half h false s

mark_slot : (half h : Half) (d : Bool) (slot : Option PlaceEntry) → is_some slot ≡ true → half_disarmed h (option_map (with_half half d) slot) ≡ (if same_half half h then d else half_disarmed h slot)
mark_slot half h d None e = absurd cc
mark_slot half h d (Some s) e = half_so half h d s

pick_half : (b : Bool) (half h : Half) (d : Bool) (x y : Option PlaceEntry) → (b ≡ true → x ≡ y) → half_disarmed h (option_map (with_half half d) x) ≡ (if same_half half h then d else half_disarmed h x) → half_disarmed h (if b then option_map (with_half half d) x else y) ≡ (if b && same_half half h then d else half_disarmed h y)
pick_half true half h d x y same e = e ∙ ap (λ v. if same_half half h then d else half_disarmed h v) (same refl)
pick_half false half h d x y same e = refl

-- a half of a held place that is marked
pub marks_half : (xs ys : List PlaceEntry) (place : Place) (half : Half) (d : Bool) → is_some (entry_at xs place) ≡ true → SetsEntry place (option_map (with_half half d) (entry_at xs place)) (entry_at xs) (entry_at ys) → MarksHalf place half d (is_disarmed xs) (is_disarmed ys)
marks_half xs ys place half d held sets p h =
    ap (half_disarmed h) (sets p)
    ∙ pick_half (same_place place p) half h d (entry_at xs place) (entry_at xs p) (λ same. ap (entry_at xs) (same_place-eq place p same)) (mark_slot half h d (entry_at xs place) held)

-- a half of any place that is armed
pub arms_half : (xs ys : List PlaceEntry) (place : Place) (half : Half) → SetsEntry place (option_map (with_half half false) (entry_at xs place)) (entry_at xs) (entry_at ys) → MarksHalf place half false (is_disarmed xs) (is_disarmed ys)
arms_half xs ys place half sets p h =
    ap (half_disarmed h) (sets p)
    ∙ pick_half (same_place place p) half h false (entry_at xs place) (entry_at xs p) (λ same. ap (entry_at xs) (same_place-eq place p same)) (arm_slot half h (entry_at xs place))

shut_so : (h : Half) (finished : Bool) (slot : Option PlaceEntry) → half_disarmed h (option_map (shut_down finished) slot) ≡ half_disarmed h slot
shut_so h finished None = refl
shut_so ToRead finished (Some s) = refl
shut_so ToWrite finished (Some s) = refl

-- a place that came, and then its door was armed
pub arms_both : (door place : Place) (before mid after : Place → Half → Bool) → MarksPlace place false before mid → MarksHalf door ToRead false mid after → ArmsBoth door place before after
arms_both door place before mid after comes armed p h = armed p h ∙ ap (λ b. if same_place door p && same_half ToRead h then false else b) (comes p h)

-- a half that is marked after a call that marked none
pub marks_after : (place : Place) (half : Half) (d : Bool) (before mid after : Place → Half → Bool) → SameMarks before mid → MarksHalf place half d mid after → MarksHalf place half d before after
marks_after place half d before mid after same marked p h = marked p h ∙ ap (λ b. if same_place place p && same_half half h then d else b) (same p h)

pub held_slot : (xs : List PlaceEntry) (place : Place) (s : PlaceEntry) → entry_at xs place ≡ Some s → is_some (entry_at xs place) ≡ true
held_slot xs place s at = ap is_some at
