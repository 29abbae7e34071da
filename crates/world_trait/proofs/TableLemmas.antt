-- How a place stands after a change of a table of held things.
use Rattle.std.proofs.Common.{◌≡◌, ◌+◌, ◌≤◌, Bool, true, false, not, List, [], ◌∷◌, ◌++◌, length, filter, Option, Some, find, option_map, refl, sym, ap, ◌∙◌, arith, if◌then◌else◌}
use Rattle.std.proofs.lemmas.Grind.{common_steps}
use Rattle.relay_model.specs.declared.places.Place.{Place}
use Rattle.relay_model.specs.Places.{same_place}
use Rattle.relay_model.specs.Holding.{Hold, Free, is_free}
use Rattle.world_trait.specs.HoldTables.{lookup, hold_of, hold_found, SetsHold}
use Rattle.world_trait.specs.declared.tables.Standing.{Standing}
use Rattle.world_trait.specs.declared.tables.Standing.TheVariants as standings
use Rattle.world_trait.specs.declared.tables.Held.{Held}

pub same_place-eq : (p q : Place) → same_place p q ≡ true → p ≡ q
same_place-eq p q same = grind (arith, common_steps)

pub same_place-same : (p : Place) → same_place p p ≡ true
same_place-same p = grind (arith, common_steps)

false_unless : (b : Bool) → (b ≡ true → ⊥) → b ≡ false
false_unless true h = absurd (h refl)
false_unless false h = refl

-- places that differ from one another are not both p
apart : (x q p : Place) → same_place x q ≡ false → same_place x p ≡ true → same_place q p ≡ false
apart x q p other same =
    false_unless (same_place q p) (λ h. let e : same_place x q ≡ same_place x p = ap (same_place x) (same_place-eq q p h) in cc (other, e, same))

free_behind : (b : Bool) (s : Standing) (rest : Hold) → (if b then hold_of s else rest) ≡ Free → (b ≡ false) × (rest ≡ Free)
free_behind true standings.Settling rest e = absurd cc
free_behind true standings.Open rest e = absurd cc
free_behind true standings.ShutDown rest e = absurd cc
free_behind false s rest e = (refl, e)

behind : (b c : Bool) (mine other rest rest' : Hold) → rest' ≡ (if c then mine else rest) → (b ≡ true → c ≡ false) → (if b then other else rest') ≡ (if c then mine else (if b then other else rest))
behind true true mine other rest rest' e h = absurd (let f : true ≡ false = h refl in cc)
behind true false mine other rest rest' e h = refl
behind false c mine other rest rest' e h = e

gone : (c b : Bool) (other rest rest' : Hold) → rest' ≡ (if c then Free else rest) → (c ≡ false → b ≡ false) → rest' ≡ (if c then Free else (if b then other else rest))
gone true b other rest rest' e h = e
gone false b other rest rest' e h = rw (h refl) e

-- a free place that is added at the end
pub lookup-add : (xs : List Held) (q : Place) (s : Standing) → lookup xs q ≡ Free → (p : Place) → lookup (xs ++ record { place = q; standing = s } ∷ []) p ≡ (if same_place q p then hold_of s else lookup xs p)
lookup-add [] q s free p = refl
lookup-add (x ∷ xs) q s free p =
    let f = free_behind (same_place x.place q) x.standing (lookup xs q) free in
    behind (same_place x.place p) (same_place q p) (hold_of s) (hold_of x.standing) (lookup xs p) (lookup (xs ++ record { place = q; standing = s } ∷ []) p) (lookup-add xs q s f.1 p) (apart x.place q p f.0)

out_step : (x : Held) (xs ys : List Held) (q p : Place) → lookup ys p ≡ (if same_place q p then Free else lookup xs p) → (b : Bool) → same_place x.place q ≡ b → lookup (if not b then x ∷ ys else ys) p ≡ (if same_place q p then Free else lookup (x ∷ xs) p)
out_step x xs ys q p ih true e =
    gone (same_place q p) (same_place x.place p) (hold_of x.standing) (lookup xs p) (lookup ys p) ih (λ f. ap (λ y. same_place y p) (same_place-eq x.place q e) ∙ f)
out_step x xs ys q p ih false e =
    behind (same_place x.place p) (same_place q p) Free (hold_of x.standing) (lookup xs p) (lookup ys p) ih (apart x.place q p e)

same_either_way : (b : Bool) (h : Hold) → h ≡ (if b then h else h)
same_either_way true h = refl
same_either_way false h = refl

-- a place that is taken out
pub lookup-remove : (xs : List Held) (q p : Place) → lookup (filter (λ e. not (same_place e.place q)) xs) p ≡ (if same_place q p then Free else lookup xs p)
lookup-remove [] q p = same_either_way (same_place q p) Free
lookup-remove (x ∷ xs) q p = out_step x xs (filter (λ e. not (same_place e.place q)) xs) q p (lookup-remove xs q p) (same_place x.place q) refl

no_longer_step : (b : Bool) (x : Held) (xs ys : List Held) → length ys ≤ length xs → length (if b then x ∷ ys else ys) ≤ length (x ∷ xs)
no_longer_step true x xs ys le = omega arith
no_longer_step false x xs ys le = omega arith

no_longer : (p : Held → Bool) (xs : List Held) → length (filter p xs) ≤ length xs
no_longer p [] = omega arith
no_longer p (x ∷ xs) = no_longer_step (p x) x xs (filter p xs) (no_longer p xs)

fewer_step : (x : Held) (xs ys : List Held) (q : Place) (b : Bool) → length ys ≤ length xs → (is_free (lookup xs q) ≡ false → length ys + 1 ≤ length xs) → is_free (if b then hold_of x.standing else lookup xs q) ≡ false → length (if not b then x ∷ ys else ys) + 1 ≤ length (x ∷ xs)
fewer_step x xs ys q true le ih held = omega arith
fewer_step x xs ys q false le ih held = omega (arith, ih held)

pub length-remove : (xs : List Held) (q : Place) → is_free (lookup xs q) ≡ false → length (filter (λ e. not (same_place e.place q)) xs) + 1 ≤ length xs
length-remove [] q held = absurd cc
length-remove (x ∷ xs) q held =
    fewer_step x xs (filter (λ e. not (same_place e.place q)) xs) q (same_place x.place q) (no_longer (λ e. not (same_place e.place q)) xs) (length-remove xs q) held

-- the place itself stands as it was set
pub sets_here : (place : Place) (hold : Hold) (before after : Place → Hold) → SetsHold place hold before after → after place ≡ hold
sets_here place hold before after sets = sets place ∙ ap (λ b. if b then hold else before place) (same_place-same place)

-- what is set last holds
pub sets_again : (b : Bool) (first last before between after : Hold) → after ≡ (if b then last else between) → between ≡ (if b then first else before) → after ≡ (if b then last else before)
sets_again true first last before between after e f = e
sets_again false first last before between after e f = e ∙ f

free_step : (b : Bool) (hold : Hold) → (b ≡ true → hold ≡ Free) → hold ≡ (if b then Free else hold)
free_step true hold free = free refl
free_step false hold free = refl

-- a free place that is set free stays as it was
pub free_stays : (hold : Place → Hold) (place : Place) → hold place ≡ Free → (p : Place) → hold p ≡ (if same_place place p then Free else hold p)
free_stays hold place free p = free_step (same_place place p) (hold p) (λ e. sym (ap hold (same_place-eq place p e)) ∙ free)

found_step : (b : Bool) (x : Held) (rest : Option Held) (held : Hold) → hold_found (option_map (λ e. e.standing) rest) ≡ held → hold_found (option_map (λ e. e.standing) (if b then Some x else rest)) ≡ (if b then hold_of x.standing else held)
found_step true x rest held e = refl
found_step false x rest held e = e

-- what is found first is how a place stands
pub lookup-find : (xs : List Held) (p : Place) → hold_found (option_map (λ e. e.standing) (find (λ e. same_place e.place p) xs)) ≡ lookup xs p
lookup-find [] p = refl
lookup-find (x ∷ xs) p = found_step (same_place x.place p) x (find (λ e. same_place e.place p) xs) (lookup xs p) (lookup-find xs p)
