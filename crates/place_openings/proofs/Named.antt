-- What a turn names, entry by entry.
use Rattle.std.proofs.Common.{◌≡◌, ℕ, Bool, true, false, ◌||◌, ◌&&◌, List, [], ◌∷◌, ◌++◌, Option, refl}
use Rattle.relay_model.specs.declared.acts.Act.{Act}
use Rattle.relay_model.specs.declared.acts.Act.TheVariants.{Turn}
use Rattle.relay_model.specs.declared.places.Half.{Half}
use Rattle.relay_model.specs.declared.places.Half.TheVariants.{ToRead, ToWrite}
use Rattle.relay_model.specs.declared.places.Place.{Place}
use Rattle.relay_model.specs.declared.readiness.ReadyAt.{ReadyAt}
use Rattle.relay_model.specs.Places.{same_place, same_half}
use Rattle.relay_model.specs.Readiness.{names}
use Rattle.relay_model.specs.History.{woken}
use Rattle.relay_model.specs.Arming.{armed_to_accept}
use Rattle.place_openings.specs.Stands.{kept}

or_assoc : (a b c : Bool) → (a || (b || c)) ≡ ((a || b) || c)
or_assoc true b c = refl
or_assoc false b c = refl

-- a list names what its parts name
names_append : (xs ys : List ReadyAt) (p : Place) (h : Half) → names (xs ++ ys) p h ≡ (names xs p h || names ys p h)
names_append [] ys p h = refl
names_append (e ∷ xs) ys p h =
    rw (names_append xs ys p h) (or_assoc (same_place e.place p && same_half e.half h) (names xs p h) (names ys p h))

woken_swap : (r w k s : Bool) (h : Half) → ((r || (s && same_half h ToRead || false)) || (w || (s && same_half h ToWrite || false)) || k) ≡ ((r || w || k) || s)
woken_swap true w k s h = refl
woken_swap false true k true ToRead = refl
woken_swap false true k true ToWrite = refl
woken_swap false true k false ToRead = refl
woken_swap false true k false ToWrite = refl
woken_swap false false true true ToRead = refl
woken_swap false false true true ToWrite = refl
woken_swap false false true false ToRead = refl
woken_swap false false true false ToWrite = refl
woken_swap false false false true ToRead = refl
woken_swap false false false true ToWrite = refl
woken_swap false false false false ToRead = refl
woken_swap false false false false ToWrite = refl

armed_swap : (r k s t : Bool) → ((r || (s && t || false)) || k) ≡ ((r || k) || (s && t))
armed_swap true k s t = refl
armed_swap false true true true = refl
armed_swap false true true false = refl
armed_swap false true false t = refl
armed_swap false false true true = refl
armed_swap false false true false = refl
armed_swap false false false t = refl

-- one entry more wakes the place that it names, with either half
pub woken_more : (past : List Act) (until : Option ℕ) (at : ℕ) (xs : List ReadyAt) (e : ReadyAt) (p : Place) → woken (Turn until at (kept (xs ++ e ∷ [])) false ∷ past) p ≡ (woken (Turn until at (kept xs) false ∷ past) p || same_place e.place p)
woken_more past until at xs e p =
    rw (names_append xs (e ∷ []) p ToRead, names_append xs (e ∷ []) p ToWrite) (woken_swap (names xs p ToRead) (names xs p ToWrite) (woken past p) (same_place e.place p) e.half)

-- and arms the door that it names, with its reading half
pub armed_more : (past : List Act) (until : Option ℕ) (at : ℕ) (xs : List ReadyAt) (e : ReadyAt) (d : Place) → armed_to_accept (Turn until at (kept (xs ++ e ∷ [])) false ∷ past) d ≡ (armed_to_accept (Turn until at (kept xs) false ∷ past) d || (same_place e.place d && same_half e.half ToRead))
armed_more past until at xs e d =
    rw (names_append xs (e ∷ []) d ToRead) (armed_swap (names xs d ToRead) (armed_to_accept past d) (same_place e.place d) (same_half e.half ToRead))
