-- What a place stands on after a change of the table of entries.
use Rattle.std.proofs.Common.{◌≡◌, ℕ, zero, suc, slice_get, get_or, set, take, drop, ◌+◌, ◌-◌, ◌≤◌, ◌<◌, nat_lt, Bool, true, false, not, ◌&&◌, ◌||◌, List, [], ◌∷◌, ◌++◌, length, filter, Option, None, Some, is_some, MatchOption, position, option_map, refl, sym, ap, subst, ◌∙◌, arith, if◌then◌else◌}
use Rattle.std.specs.List.{insert, position_or_len}
use Rattle.std.specs.List.Sorted.{IsPartitionPoint, IsPartitionedBy}
use Rattle.std.proofs.lemmas.List.{length-drop, length-set, take_all}
use Rattle.std.proofs.lemmas.List.Folds.{find_at}
use Rattle.std.proofs.lemmas.List.Kept.{IsNonDecreasingBy-filter}
use Rattle.std.proofs.lemmas.List.Quantifiers.{position-Some}
use Rattle.std.proofs.lemmas.List.Sorted.{IsNonDecreasingBy-insert}
use Rattle.std.proofs.lemmas.Bool.Decides.{nat_tests}
use Rattle.relay_model.specs.declared.places.Place.{Place}
use Rattle.relay_model.specs.declared.places.Half.{Half}
use Rattle.relay_model.specs.declared.places.Half.TheVariants.{ToRead, ToWrite}
use Rattle.relay_model.specs.Places.{same_place}
use Rattle.relay_model.specs.Holding.{Hold, Free, is_free}
use Rattle.world_trait.specs.HoldTables.{hold_of, SetsHold}
use Rattle.world_trait.specs.declared.tables.Standing.{Standing}
use Rattle.world_trait.specs.declared.tables.Standing.TheVariants as standings
use Rattle.port_table.specs.Bases.{is_standard}
use Rattle.port_table.specs.declared.bases.Base.{Base}
use Rattle.desk_places.specs.declared.places.PlaceEntry.{PlaceEntry}
use Rattle.desk_places.specs.PlaceTables.{entry_at, base_at, hold_by, hold_at, base_by, half_disarmed, is_armed, with_half, AreInOrder, AreListed, IsFirstOf, IsStartOf, is_listed, listed_so, MarksEntry, PutsEntry, SetsEntry, SameStanding, SameHold}
use Rattle.desk_places.proofs.PlaceLemmas.{same_place-eq, same_place-same, false_unless, apart, earlier_apart}

-- ---- the entry of a place after a change

free_behind : (b : Bool) (x : PlaceEntry) (rest : Option PlaceEntry) → (if b then Some x else rest) ≡ None → (b ≡ false) × (rest ≡ None)
free_behind true x rest e = absurd cc
free_behind false x rest e = (refl, e)

behind : (b c : Bool) (mine other rest rest' : Option PlaceEntry) → rest' ≡ (if c then mine else rest) → (b ≡ true → c ≡ false) → (if b then other else rest') ≡ (if c then mine else (if b then other else rest))
behind true true mine other rest rest' e h = absurd (let f : true ≡ false = h refl in cc)
behind true false mine other rest rest' e h = refl
behind false c mine other rest rest' e h = e

gone : (c b : Bool) (other rest rest' : Option PlaceEntry) → rest' ≡ (if c then None else rest) → (c ≡ false → b ≡ false) → rest' ≡ (if c then None else (if b then other else rest))
gone true b other rest rest' e h = e
gone false b other rest rest' e h = rw (h refl) e

-- a free place that is put in
pub entry-insert : (xs : List PlaceEntry) (i : ℕ) (s : PlaceEntry) → entry_at xs s.place ≡ None → (p : Place) → entry_at (insert xs i s) p ≡ (if same_place s.place p then Some s else entry_at xs p)
entry-insert xs zero s free p = refl
entry-insert [] (suc i) s free p = refl
entry-insert (x ∷ xs) (suc i) s free p =
    let f = free_behind (same_place x.place s.place) x (entry_at xs s.place) free in
    behind (same_place x.place p) (same_place s.place p) (Some s) (Some x) (entry_at xs p) (entry_at (insert xs i s) p) (entry-insert xs i s f.1 p) (apart x.place s.place p f.0)

out_step : (x : PlaceEntry) (xs ys : List PlaceEntry) (q p : Place) → entry_at ys p ≡ (if same_place q p then None else entry_at xs p) → (b : Bool) → same_place x.place q ≡ b → entry_at (if not b then x ∷ ys else ys) p ≡ (if same_place q p then None else entry_at (x ∷ xs) p)
out_step x xs ys q p ih true e =
    gone (same_place q p) (same_place x.place p) (Some x) (entry_at xs p) (entry_at ys p) ih (λ f. ap (λ y. same_place y p) (same_place-eq x.place q e) ∙ f)
out_step x xs ys q p ih false e =
    behind (same_place x.place p) (same_place q p) None (Some x) (entry_at xs p) (entry_at ys p) ih (apart x.place q p e)

none_either_way : (b : Bool) (slot : Option PlaceEntry) → slot ≡ (if b then slot else slot)
none_either_way true slot = refl
none_either_way false slot = refl

-- a place that is taken out
pub entry-remove : (xs : List PlaceEntry) (q p : Place) → entry_at (filter (λ e. not (same_place e.place q)) xs) p ≡ (if same_place q p then None else entry_at xs p)
entry-remove [] q p = none_either_way (same_place q p) None
entry-remove (x ∷ xs) q p = out_step x xs (filter (λ e. not (same_place e.place q)) xs) q p (entry-remove xs q p) (same_place x.place q) refl

set_here : (a b c : Bool) (x y : PlaceEntry) (rest : Option PlaceEntry) → a ≡ b → c ≡ b → (if a then Some y else rest) ≡ (if b then Some y else (if c then Some x else rest))
set_here true true c x y rest e f = refl
set_here true false c x y rest e f = absurd cc
set_here false true c x y rest e f = absurd cc
set_here false false true x y rest e f = absurd cc
set_here false false false x y rest e f = refl

-- an entry that is put in the stead of the first one of its place
pub entry-set : (xs : List PlaceEntry) (i : ℕ) (y : PlaceEntry) → IsFirstOf y.place xs i → (p : Place) → entry_at (set xs i y) p ≡ (if same_place y.place p then Some y else entry_at xs p)
entry-set [] i y first p = elim first [ ]
entry-set (x ∷ xs) zero y first p =
    set_here (same_place y.place p) (same_place y.place p) (same_place x.place p) x y (entry_at xs p) refl (ap (λ q. same_place q p) (same_place-eq x.place y.place first))
entry-set (x ∷ xs) (suc i) y first p =
    behind (same_place x.place p) (same_place y.place p) (Some y) (Some x) (entry_at xs p) (entry_at (set xs i y) p) (entry-set xs i y first.1 p) (apart x.place y.place p first.0)

no_longer_step : (b : Bool) (x : PlaceEntry) (xs ys : List PlaceEntry) → length ys ≤ length xs → length (if b then x ∷ ys else ys) ≤ length (x ∷ xs)
no_longer_step true x xs ys le = omega arith
no_longer_step false x xs ys le = omega arith

no_longer : (p : PlaceEntry → Bool) (xs : List PlaceEntry) → length (filter p xs) ≤ length xs
no_longer p [] = omega arith
no_longer p (x ∷ xs) = no_longer_step (p x) x xs (filter p xs) (no_longer p xs)

less_step : (x : PlaceEntry) (xs ys : List PlaceEntry) (q : Place) (b : Bool) → length ys ≤ length xs → (is_some (entry_at xs q) ≡ true → length ys + 1 ≤ length xs) → is_some (if b then Some x else entry_at xs q) ≡ true → length (if not b then x ∷ ys else ys) + 1 ≤ length (x ∷ xs)
less_step x xs ys q true le ih held = omega arith
less_step x xs ys q false le ih held = omega (arith, ih held)

pub length-remove : (xs : List PlaceEntry) (q : Place) → is_some (entry_at xs q) ≡ true → length (filter (λ e. not (same_place e.place q)) xs) + 1 ≤ length xs
length-remove [] q held = absurd cc
length-remove (x ∷ xs) q held =
    less_step x xs (filter (λ e. not (same_place e.place q)) xs) q (same_place x.place q) (no_longer (λ e. not (same_place e.place q)) xs) (length-remove xs q) held

-- ---- where the first entry of a place stands

pub first_within : (xs : List PlaceEntry) (place : Place) (i : ℕ) → IsFirstOf place xs i → i < length xs
first_within [] place i first = elim first [ ]
first_within (x ∷ xs) place zero first = omega arith
first_within (x ∷ xs) place (suc i) first = omega (arith, first_within xs place i first.1)

pub first_found : (xs : List PlaceEntry) (place : Place) (i : ℕ) → IsFirstOf place xs i → slice_get xs i ≡ entry_at xs place
first_found [] place i first = elim first [ ]
first_found (x ∷ xs) place zero first = sym (ap (λ b. if b then Some x else entry_at xs place) first)
first_found (x ∷ xs) place (suc i) first = first_found xs place i first.1 ∙ sym (ap (λ b. if b then Some x else entry_at xs place) first.0)

-- what stands at an index
pub got : (xs : List PlaceEntry) (i : ℕ) (y : PlaceEntry) → i < length xs → get_or xs i y ≡ y → slice_get xs i ≡ Some y
got [] i y lt e = absurd (omega (arith, lt))
got (x ∷ xs) zero y lt e = ap Some e
got (x ∷ xs) (suc i) y lt e = got xs i y (omega (arith, lt)) e

first_from : (xs : List PlaceEntry) (place : Place) (i : ℕ) → i < length xs → ((d : PlaceEntry) → same_place (get_or xs i d).place place ≡ true) → ((k : ℕ) (d : PlaceEntry) → k < i → same_place (get_or xs k d).place place ≡ false) → IsFirstOf place xs i
first_from [] place i below hit off = absurd (omega (arith, below))
first_from (x ∷ xs) place zero below hit off = hit x
first_from (x ∷ xs) place (suc i) below hit off = (off zero x (omega arith), first_from xs place i (omega (arith, below)) (λ d. hit d) (λ k d lt. off (suc k) d (omega (arith, lt))))

some_within : (xs : List PlaceEntry) (place : Place) (i : ℕ) → position (λ s. same_place s.place place) xs ≡ Some i → i < length xs
some_within [] place i e = absurd cc
some_within (x ∷ xs) place i e = (position-Some (λ (s : PlaceEntry). same_place s.place place) (x ∷ xs) i x e).0

pub position_first : (xs : List PlaceEntry) (place : Place) (i : ℕ) → position (λ s. same_place s.place place) xs ≡ Some i → IsFirstOf place xs i
position_first xs place i e = first_from xs place i (some_within xs place i e) (λ d. (position-Some (λ (s : PlaceEntry). same_place s.place place) xs i d e).1) (λ k d lt. (position-Some (λ (s : PlaceEntry). same_place s.place place) xs i d e).2 k lt)

past : (xs : List PlaceEntry) (i : ℕ) → length xs ≤ i → slice_get xs i ≡ None
past [] i le = refl
past (x ∷ xs) zero le = absurd (omega (arith, le))
past (x ∷ xs) (suc i) le = past xs i (omega (arith, le))

none_past : (b : Bool) (n : ℕ) → (if b then Some n else None) ≡ None → b ≡ false
none_past true n e = absurd cc
none_past false n e = refl

not_below : (a b : ℕ) → nat_lt a b ≡ false → b ≤ a
not_below a b e = grind (arith, nat_tests)

pub position_none : (xs : List PlaceEntry) (place : Place) → position (λ s. same_place s.place place) xs ≡ None → entry_at xs place ≡ None
position_none xs place e =
    let n = position_or_len (λ (s : PlaceEntry). same_place s.place place) xs in
    find_at (λ (s : PlaceEntry). same_place s.place place) xs ∙ past xs n (not_below n (length xs) (none_past (nat_lt n (length xs)) n e))

-- a search by position finds the first entry of the place
pub first_by : (xs : List PlaceEntry) (place : Place) (found : Option ℕ) → found ≡ position (λ s. same_place s.place place) xs → MatchOption found (entry_at xs place ≡ None) (λ i. IsFirstOf place xs i)
first_by xs place None e = position_none xs place (sym e)
first_by xs place (Some i) e = position_first xs place i (sym e)

-- ---- the entries before an index are of other places

-- what stands behind an index
pub rest_is : (xs : List PlaceEntry) (n : ℕ) → n ≤ length xs → take (length xs - n) (drop n xs) ≡ drop n xs
rest_is xs n le = take_all (length xs - n) (drop n xs) (omega (arith, length-drop n xs))

pub skip_first : (xs : List PlaceEntry) (n i m : ℕ) (place : Place) → ((k : ℕ) (d : PlaceEntry) → k < n → same_place (get_or xs k d).place place ≡ false) → IsFirstOf place (drop n xs) i → m ≡ n + i → IsFirstOf place xs m
skip_first xs zero i m place off first e = let is : m ≡ i = omega (arith, e) in subst (IsFirstOf place xs) (sym is) first
skip_first [] (suc n) i m place off first e = elim first [ ]
skip_first (x ∷ xs) (suc n) i zero place off first e = absurd (omega (arith, e))
skip_first (x ∷ xs) (suc n) i (suc m) place off first e = (off zero x (omega arith), skip_first xs n i m place (λ k d lt. off (suc k) d (omega (arith, lt))) first (omega (arith, e)))

pub skip_none : (xs : List PlaceEntry) (n : ℕ) (place : Place) → ((k : ℕ) (d : PlaceEntry) → k < n → same_place (get_or xs k d).place place ≡ false) → entry_at (drop n xs) place ≡ None → entry_at xs place ≡ None
skip_none xs zero place off none = none
skip_none [] (suc n) place off none = refl
skip_none (x ∷ xs) (suc n) place off none =
    ap (λ b. if b then Some x else entry_at xs place) (off zero x (omega arith)) ∙ skip_none xs n place (λ k d lt. off (suc k) d (omega (arith, lt))) none

pub before_apart : (xs : List PlaceEntry) (n : ℕ) (place : Place) → IsStartOf place.session xs n → (k : ℕ) (d : PlaceEntry) → k < n → same_place (get_or xs k d).place place ≡ false
before_apart xs n place start k d lt = earlier_apart (get_or xs k d).place place (start.before k d lt)

-- what a search behind the start of the session finds
pub skipped_none : (xs : List PlaceEntry) (n : ℕ) (place : Place) (found : Option ℕ) → IsStartOf place.session xs n → n ≤ length xs → found ≡ position (λ s. same_place s.place place) (take (length xs - n) (drop n xs)) → found ≡ None → entry_at xs place ≡ None
skipped_none xs n place found start le is none =
    skip_none xs n place (before_apart xs n place start) (subst (λ ys. entry_at ys place ≡ None) (rest_is xs n le) (position_none (take (length xs - n) (drop n xs)) place (sym is ∙ none)))

pub skipped_first : (xs : List PlaceEntry) (n : ℕ) (place : Place) (found : Option ℕ) (i : ℕ) → IsStartOf place.session xs n → n ≤ length xs → found ≡ position (λ s. same_place s.place place) (take (length xs - n) (drop n xs)) → found ≡ Some i → IsFirstOf place xs (n + i)
skipped_first xs n place found i start le is at =
    skip_first xs n i (n + i) place (before_apart xs n place start) (subst (λ ys. IsFirstOf place ys i) (rest_is xs n le) (position_first (take (length xs - n) (drop n xs)) place i (sym is ∙ at))) refl

is_below : (a b : ℕ) → nat_lt a b ≡ true → a < b
is_below a b e = grind (arith, nat_tests)

below_is : (a b : ℕ) → a < b → nat_lt a b ≡ true
below_is a b lt = grind (arith, nat_tests)

-- what a binary search for the first entry of a session finds
pub parted : (xs : List PlaceEntry) (session : ℕ) → AreInOrder xs → IsPartitionedBy (λ (s : PlaceEntry). nat_lt s.place.session session) xs
parted xs session order i j d le lt e =
    let rises = order i j d le lt in
    below_is _ session (omega (arith, rises, is_below _ session e))

pub starts_at : (xs : List PlaceEntry) (session i : ℕ) → IsPartitionPoint (λ (s : PlaceEntry). nat_lt s.place.session session ≡ true) (λ (s : PlaceEntry). nat_lt s.place.session session ≡ false) xs i → IsStartOf session xs i
starts_at xs session i point = record {
  before = λ k d lt. is_below _ session (point.0 k d (omega arith) lt);
  after = λ k d le lt. not_below _ session (point.1 k d le lt);
}

-- ---- the order

session_set : (xs : List PlaceEntry) (i : ℕ) (y : PlaceEntry) → IsFirstOf y.place xs i → (k : ℕ) (d : PlaceEntry) → (get_or (set xs i y) k d).place.session ≡ (get_or xs k d).place.session
session_set [] i y first k d = elim first [ ]
session_set (x ∷ xs) zero y first zero d = sym (ap (λ (p : Place). p.session) (same_place-eq x.place y.place first))
session_set (x ∷ xs) zero y first (suc k) d = refl
session_set (x ∷ xs) (suc i) y first zero d = refl
session_set (x ∷ xs) (suc i) y first (suc k) d = session_set xs i y first.1 k d

pub order_set : (xs : List PlaceEntry) (i : ℕ) (y : PlaceEntry) → IsFirstOf y.place xs i → AreInOrder xs → AreInOrder (set xs i y)
order_set xs i y first order j k d le lt =
    let below : k < length xs = omega (arith, lt, length-set xs i y) in
    omega (arith, session_set xs i y first j d, session_set xs i y first k d, order j k d le below)

pub order_insert : (xs : List PlaceEntry) (i : ℕ) (y : PlaceEntry) → i ≤ length xs → IsStartOf y.place.session xs i → AreInOrder xs → AreInOrder (insert xs i y)
order_insert xs i y le start order =
    IsNonDecreasingBy-insert (λ (s : PlaceEntry). s.place.session) xs i y order le (λ k d lt. omega (arith, start.before k d lt)) (λ k d at below. start.after k d at below)

pub order_remove : (xs : List PlaceEntry) (q : Place) → AreInOrder xs → AreInOrder (filter (λ e. not (same_place e.place q)) xs)
order_remove xs q order = IsNonDecreasingBy-filter (λ (s : PlaceEntry). s.place.session) (λ (e : PlaceEntry). not (same_place e.place q)) xs order

-- ---- what is listed

or_right : (a b : Bool) → b ≡ true → (a || b) ≡ true
or_right true b e = refl
or_right false b e = e

or_step : (a b c : Bool) → (b ≡ true → c ≡ true) → (a || b) ≡ true → (a || c) ≡ true
or_step true b c ih e = refl
or_step false b c ih e = ih e

more_listed : (p : Place) (xs ys : List Place) → is_listed p xs ≡ true → is_listed p (xs ++ ys) ≡ true
more_listed p [] ys e = absurd cc
more_listed p (x ∷ xs) ys e = or_step (same_place x p) (is_listed p xs) (is_listed p (xs ++ ys)) (more_listed p xs ys) e

first_listed : (x p : Place) (ys : List Place) → same_place x p ≡ true → is_listed p (x ∷ ys) ≡ true
first_listed x p ys same = ap (λ b. b || is_listed p ys) same

last_listed : (xs : List Place) (p q : Place) → same_place q p ≡ true → is_listed p (xs ++ q ∷ []) ≡ true
last_listed [] p q same = first_listed q p [] same
last_listed (x ∷ xs) p q same = or_right (same_place x p) (is_listed p (xs ++ q ∷ [])) (last_listed xs p q same)

fewer_step : (b a : Bool) (x p : Place) (xs ys : List Place) → same_place x p ≡ a → (a ≡ true → b ≡ false) → (is_listed p xs ≡ true → is_listed p ys ≡ true) → (a || is_listed p xs) ≡ true → is_listed p (if not b then x ∷ ys else ys) ≡ true
fewer_step true true x p xs ys e kept ih listed = absurd (let f : true ≡ false = kept refl in cc)
fewer_step true false x p xs ys e kept ih listed = ih listed
fewer_step false true x p xs ys e kept ih listed = first_listed x p ys e
fewer_step false false x p xs ys e kept ih listed = or_right (same_place x p) (is_listed p ys) (ih listed)

remove_listed : (p q : Place) (xs : List Place) → same_place p q ≡ false → is_listed p xs ≡ true → is_listed p (filter (λ x. not (same_place x q)) xs) ≡ true
remove_listed p q [] other listed = absurd cc
remove_listed p q (x ∷ xs) other listed =
    fewer_step (same_place x q) (same_place x p) x p xs (filter (λ y. not (same_place y q)) xs) refl
    (λ same. ap (λ y. same_place y q) (same_place-eq x p same) ∙ other)
    (remove_listed p q xs other) listed

listed_more : (slot : Option PlaceEntry) (p : Place) (xs ys : List Place) → listed_so slot p xs ≡ true → listed_so slot p (xs ++ ys) ≡ true
listed_more None p xs ys h = refl
listed_more (Some s) p xs ys h = or_step (not (is_standard s.base)) (is_listed p xs) (is_listed p (xs ++ ys)) (more_listed p xs ys) h

listed_if : (b : Bool) (slot rest now : Option PlaceEntry) (p : Place) (places : List Place) → now ≡ (if b then slot else rest) → (b ≡ true → listed_so slot p places ≡ true) → (b ≡ false → listed_so rest p places ≡ true) → listed_so now p places ≡ true
listed_if true slot rest now p places e here there = ap (λ x. listed_so x p places) e ∙ here refl
listed_if false slot rest now p places e here there = ap (λ x. listed_so x p places) e ∙ there refl

-- a place that is asked is listed with its entry
pub listed_asked : (xs ys : List PlaceEntry) (s : PlaceEntry) (places : List Place) → SetsEntry s.place (Some s) (entry_at xs) (entry_at ys) → AreListed xs places → AreListed ys (places ++ s.place ∷ [])
listed_asked xs ys s places sets listed p =
    listed_if (same_place s.place p) (Some s) (entry_at xs p) (entry_at ys p) p (places ++ s.place ∷ []) (sets p)
    (λ same. or_right (not (is_standard s.base)) (is_listed p (places ++ s.place ∷ [])) (last_listed places p s.place same))
    (λ other. listed_more (entry_at xs p) p places (s.place ∷ []) (listed p))

-- and one that isn't needn't be
pub listed_unasked : (xs ys : List PlaceEntry) (s : PlaceEntry) (places : List Place) → SetsEntry s.place (Some s) (entry_at xs) (entry_at ys) → is_standard s.base ≡ false → AreListed xs places → AreListed ys places
listed_unasked xs ys s places sets unasked listed p =
    listed_if (same_place s.place p) (Some s) (entry_at xs p) (entry_at ys p) p places (sets p)
    (λ same. ap (λ b. not b || is_listed p places) unasked)
    (λ other. listed p)

listed_out : (slot : Option PlaceEntry) (p q : Place) (places : List Place) → same_place p q ≡ false → listed_so slot p places ≡ true → listed_so slot p (filter (λ x. not (same_place x q)) places) ≡ true
listed_out None p q places other h = refl
listed_out (Some s) p q places other h = or_step (not (is_standard s.base)) (is_listed p places) (is_listed p (filter (λ x. not (same_place x q)) places)) (remove_listed p q places other) h

same_turned : (p q : Place) → same_place q p ≡ false → same_place p q ≡ false
same_turned p q other = false_unless (same_place p q) (λ e. let f : same_place q p ≡ true = ap (λ x. same_place x p) (sym (same_place-eq p q e)) ∙ same_place-same p in let g : true ≡ false = sym f ∙ other in cc)

-- a place that is taken out is listed no longer
pub listed_remove : (xs ys : List PlaceEntry) (q : Place) (places : List Place) → SetsEntry q None (entry_at xs) (entry_at ys) → AreListed xs places → AreListed ys (filter (λ x. not (same_place x q)) places)
listed_remove xs ys q places sets listed p =
    listed_if (same_place q p) None (entry_at xs p) (entry_at ys p) p (filter (λ x. not (same_place x q)) places) (sets p)
    (λ same. refl)
    (λ other. listed_out (entry_at xs p) p q places (same_turned p q other) (listed p))

abbrev asked_by : Option Base → Bool
asked_by None = false
asked_by (Some base) = is_standard base

listed_standing : (slot slot' : Option PlaceEntry) (p : Place) (places : List Place) → base_by slot' ≡ base_by slot → listed_so slot p places ≡ true → listed_so slot' p places ≡ true
listed_standing slot None p places e h = refl
listed_standing None (Some s') p places e h = absurd cc
listed_standing (Some s) (Some s') p places e h = ap (λ b. not b || is_listed p places) (ap asked_by e) ∙ h

pub listed_on : (xs ys : List PlaceEntry) (places : List Place) → SameStanding xs ys → AreListed xs places → AreListed ys places
listed_on xs ys places same listed p = listed_standing (entry_at xs p) (entry_at ys p) p places (same p) (listed p)

slot_asked : (slot : Option PlaceEntry) (s : PlaceEntry) (p : Place) (places : List Place) → slot ≡ Some s → is_standard s.base ≡ true → listed_so slot p places ≡ true → is_listed p places ≡ true
slot_asked slot s p places e asked listed = sym (ap (λ b. not b || is_listed p places) asked) ∙ (sym (ap (λ x. listed_so x p places) e) ∙ listed)

index_step : (b : Bool) (x p : Place) (xs : List Place) → same_place x p ≡ b → (is_listed p xs ≡ true → (i : ℕ) × (slice_get xs i ≡ Some p)) → (b || is_listed p xs) ≡ true → (i : ℕ) × (slice_get (x ∷ xs) i ≡ Some p)
index_step true x p xs e ih listed = (zero, ap Some (same_place-eq x p e))
index_step false x p xs e ih listed = let rest = ih listed in (suc rest.0, rest.1)

index_listed : (p : Place) (xs : List Place) → is_listed p xs ≡ true → (i : ℕ) × (slice_get xs i ≡ Some p)
index_listed p [] listed = absurd cc
index_listed p (x ∷ xs) listed = index_step (same_place x p) x p xs refl (index_listed p xs) listed

-- where a place that is asked for hints is listed
pub asked_index : (xs : List PlaceEntry) (places : List Place) (p : Place) (s : PlaceEntry) → AreListed xs places → entry_at xs p ≡ Some s → is_standard s.base ≡ true → (i : ℕ) × (slice_get places i ≡ Some p)
asked_index xs places p s listed e asked = index_listed p places (slot_asked (entry_at xs p) s p places e asked (listed p))

-- ---- how places stand

hold_if : (b : Bool) (slot rest now : Option PlaceEntry) → now ≡ (if b then slot else rest) → hold_by now ≡ (if b then hold_by slot else hold_by rest)
hold_if true slot rest now e = ap hold_by e
hold_if false slot rest now e = ap hold_by e

-- a place stands as its entry says
pub hold_sets : (xs ys : List PlaceEntry) (place : Place) (slot : Option PlaceEntry) → SetsEntry place slot (entry_at xs) (entry_at ys) → SetsHold place (hold_by slot) (hold_at xs) (hold_at ys)
hold_sets xs ys place slot sets p = hold_if (same_place place p) slot (entry_at xs p) (entry_at ys p) (sets p)

pub puts_by : (xs ys : List PlaceEntry) (place : Place) (slot : Option PlaceEntry) → SetsEntry place slot (entry_at xs) (entry_at ys) → PutsEntry place slot xs ys
puts_by xs ys place slot sets = record { set = sets; held = hold_sets xs ys place slot sets }

standing_if : (b : Bool) (slot rest now : Option PlaceEntry) → now ≡ (if b then slot else rest) → (b ≡ true → base_by slot ≡ base_by rest) → base_by now ≡ base_by rest
standing_if true slot rest now e same = ap base_by e ∙ same refl
standing_if false slot rest now e same = ap base_by e

-- a place that is set to an entry on the same standing leaves every place on its own
pub sets_standing : (xs ys : List PlaceEntry) (place : Place) (slot : Option PlaceEntry) → SetsEntry place slot (entry_at xs) (entry_at ys) → base_by slot ≡ base_at xs place → SameStanding xs ys
sets_standing xs ys place slot sets same p =
    standing_if (same_place place p) slot (entry_at xs p) (entry_at ys p) (sets p) (λ e. same ∙ ap (base_at xs) (same_place-eq place p e))

stays_step : (b : Bool) (slot now : Option PlaceEntry) → (b ≡ true → now ≡ slot) → now ≡ (if b then slot else now)
stays_step true slot now same = same refl
stays_step false slot now same = refl

-- a place that is set to what it has stays as it was
pub entry_stays : (place : Place) (slot : Option PlaceEntry) (table : Place → Option PlaceEntry) → table place ≡ slot → SetsEntry place slot table table
entry_stays place slot table is p = stays_step (same_place place p) slot (table p) (λ e. sym (ap table (same_place-eq place p e)) ∙ is)

half_hold : (half : Half) (disarmed : Bool) (slot : Option PlaceEntry) → hold_by (option_map (with_half half disarmed) slot) ≡ hold_by slot
half_hold half disarmed None = refl
half_hold ToRead disarmed (Some s) = refl
half_hold ToWrite disarmed (Some s) = refl

same_if : (b : Bool) (hold rest now : Hold) → now ≡ (if b then hold else rest) → (b ≡ true → hold ≡ rest) → now ≡ rest
same_if true hold rest now e same = e ∙ same refl
same_if false hold rest now e same = e

pub mark_holds : (xs ys : List PlaceEntry) (place : Place) (half : Half) (disarmed : Bool) → SetsEntry place (option_map (with_half half disarmed) (entry_at xs place)) (entry_at xs) (entry_at ys) → SameHold (hold_at xs) (hold_at ys)
mark_holds xs ys place half disarmed sets p =
    same_if (same_place place p) (hold_by (option_map (with_half half disarmed) (entry_at xs place))) (hold_at xs p) (hold_at ys p) (hold_sets xs ys place _ sets p) (λ e. half_hold half disarmed (entry_at xs place) ∙ ap (hold_at xs) (same_place-eq place p e))

marked_at : (half : Half) (disarmed : Bool) (s : PlaceEntry) → (with_half half disarmed s).place ≡ s.place
marked_at ToRead disarmed s = refl
marked_at ToWrite disarmed s = refl

-- the entry of a place that is put with one half marked
pub marks_put : (xs ys : List PlaceEntry) (s s' : PlaceEntry) (half : Half) (disarmed : Bool) → entry_at xs s.place ≡ Some s → s' ≡ with_half half disarmed s → PutsEntry s'.place (Some s') xs ys → SameStanding xs ys → length ys ≡ length xs → MarksEntry s.place half disarmed xs ys
marks_put xs ys s s' half disarmed at is put standing len =
    let here : s'.place ≡ s.place = ap (λ (t : PlaceEntry). t.place) is ∙ marked_at half disarmed s in
    let slot : Some s' ≡ option_map (with_half half disarmed) (entry_at xs s.place) = ap Some is ∙ sym (ap (option_map (with_half half disarmed)) at) in
    let sets : SetsEntry s.place (option_map (with_half half disarmed) (entry_at xs s.place)) (entry_at xs) (entry_at ys) = subst (λ q. SetsEntry q (option_map (with_half half disarmed) (entry_at xs s.place)) (entry_at xs) (entry_at ys)) here (subst (λ (x : Option PlaceEntry). SetsEntry s'.place x (entry_at xs) (entry_at ys)) slot put.set) in
    record { set = sets; held = mark_holds xs ys s.place half disarmed sets; standing = standing; len = len }

half_as : (half : Half) (disarmed : Bool) (s : PlaceEntry) → half_disarmed half (Some s) ≡ disarmed → with_half half disarmed s ≡ s
half_as ToRead disarmed s e = ap (λ (b : Bool). record s { reading_disarmed = b }) (sym e)
half_as ToWrite disarmed s e = ap (λ (b : Bool). record s { writing_disarmed = b }) (sym e)

-- and of one whose half stood so
pub marks_still : (xs : List PlaceEntry) (s : PlaceEntry) (half : Half) (disarmed : Bool) → entry_at xs s.place ≡ Some s → half_disarmed half (Some s) ≡ disarmed → MarksEntry s.place half disarmed xs xs
marks_still xs s half disarmed at stands = record {
  set = entry_stays s.place _ (entry_at xs) (at ∙ sym (ap (option_map (with_half half disarmed)) at ∙ ap Some (half_as half disarmed s stands)));
  held = λ p. refl;
  standing = λ p. refl;
  len = refl;
}

-- a half that is armed and marked as armed
both_off : (reading writing : Bool) → (not reading && not writing) ≡ true → (reading ≡ false) × (writing ≡ false)
both_off true writing e = absurd cc
both_off false true e = absurd cc
both_off false false e = (refl, refl)

armed_half : (half : Half) (s : PlaceEntry) → is_armed s ≡ true → half_disarmed half (Some s) ≡ false
armed_half ToRead s e = (both_off s.reading_disarmed s.writing_disarmed e).0
armed_half ToWrite s e = (both_off s.reading_disarmed s.writing_disarmed e).1

pub marks_armed : (xs : List PlaceEntry) (s : PlaceEntry) (half : Half) (disarmed : Bool) → entry_at xs s.place ≡ Some s → is_armed s ≡ true → disarmed ≡ false → MarksEntry s.place half disarmed xs xs
marks_armed xs s half disarmed at armed off = marks_still xs s half disarmed at (armed_half half s armed ∙ sym off)

-- ---- a place that is held has an entry

place_step : (b : Bool) (x s : PlaceEntry) (rest : Option PlaceEntry) (p : Place) → same_place x.place p ≡ b → (rest ≡ Some s → s.place ≡ p) → (if b then Some x else rest) ≡ Some s → s.place ≡ p
place_step true x s rest p same ih e = let is : x ≡ s = cc in sym (ap (λ y. y.place) is) ∙ same_place-eq x.place p same
place_step false x s rest p same ih e = ih e

-- the entry of a place names the place
pub found_place : (xs : List PlaceEntry) (p : Place) (s : PlaceEntry) → entry_at xs p ≡ Some s → s.place ≡ p
found_place [] p s e = absurd cc
found_place (x ∷ xs) p s e = place_step (same_place x.place p) x s (entry_at xs p) p refl (found_place xs p s) e

pub found_base : (xs : List PlaceEntry) (p : Place) (s : PlaceEntry) → entry_at xs p ≡ Some s → base_at xs p ≡ Some s.base
found_base xs p s e = ap (λ slot. option_map (λ t. t.base) slot) e

pub found_none : (xs : List PlaceEntry) (p : Place) → entry_at xs p ≡ None → base_at xs p ≡ None
found_none xs p e = ap (λ slot. option_map (λ t. t.base) slot) e

pub standing_held : (s : Standing) → is_free (hold_of s) ≡ false
standing_held standings.Settling = refl
standing_held standings.Open = refl
standing_held standings.ShutDown = refl

free_none : (slot : Option PlaceEntry) → hold_by slot ≡ Free → slot ≡ None
free_none None e = refl
free_none (Some s) e = absurd (let f : is_free (hold_of s.standing) ≡ true = ap is_free e in let g : is_free (hold_of s.standing) ≡ false = standing_held s.standing in let h : true ≡ false = sym f ∙ g in cc)

pub free_entry : (xs : List PlaceEntry) (p : Place) → hold_at xs p ≡ Free → entry_at xs p ≡ None
free_entry xs p e = free_none (entry_at xs p) e

pub not_found : (xs : List PlaceEntry) (p : Place) → is_free (hold_at xs p) ≡ false → entry_at xs p ≡ None → ⊥
not_found xs p held none = let f : true ≡ false = sym (ap (λ slot. is_free (hold_by slot)) none) ∙ held in absurd cc

held_slot : (slot : Option PlaceEntry) (s : PlaceEntry) → slot ≡ Some s → is_free (hold_by slot) ≡ false
held_slot slot s e = ap (λ x. is_free (hold_by x)) e ∙ standing_held s.standing

pub found_held : (xs : List PlaceEntry) (p : Place) (s : PlaceEntry) → entry_at xs p ≡ Some s → is_free (hold_at xs p) ≡ false
found_held xs p s e = held_slot (entry_at xs p) s e
