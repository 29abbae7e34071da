-- How held places stand, and what they stand on.
use Rattle.std.specs.Prelude.{◌≡◌, ◌≤◌, ◌<◌, ℕ, zero, suc, Bool, true, false, not, ◌&&◌, ◌||◌, List, [], ◌∷◌, length, get_or, Option, None, Some, option_map, find, if◌then◌else◌}
use Rattle.std.specs.List.Sorted.{IsNonDecreasingBy}
use Rattle.relay_model.specs.{Place, Half, same_place, Hold, Free}
use Rattle.relay_model.specs.declared.places.Half.TheVariants.{ToRead, ToWrite}
use Rattle.world_trait.specs.{SetsHold, hold_of}
use Rattle.world_trait.specs.declared.tables.Standing.TheVariants as standings
use Rattle.port_table.specs.{is_standard, Base}
use Rattle.desk_places.specs.declared.places.PlaceEntry.{PlaceEntry}

-- the held places in the order of their sessions, and how many more places there is room for
pub record PlaceTableSeen : Type 0 where
  pub entries : List PlaceEntry
  pub spare : ℕ

-- the first entry of the place; none where it is free
abbrev pub entry_at : List PlaceEntry → Place → Option PlaceEntry
entry_at places p = find (λ s. same_place s.place p) places

-- the entry of a place on this base, whose opening is under way or not
abbrev pub new_entry : Place → Base → Bool → PlaceEntry
new_entry place base settling = record {
  place = place;
  base = base;
  standing = if settling then standings.Settling else standings.Open;
  finished = false;
  reading_disarmed = settling;
  writing_disarmed = settling;
}

-- how a place stands by its entry
abbrev pub hold_by : Option PlaceEntry → Hold
hold_by None = Free
hold_by (Some entry) = hold_of entry.standing

-- how the entries say that a place stands
abbrev pub hold_at : List PlaceEntry → Place → Hold
hold_at places p = hold_by (entry_at places p)

-- what an entry stands on
abbrev pub base_by : Option PlaceEntry → Option Base
base_by slot = option_map (λ s. s.base) slot

-- what a place stands on
abbrev pub base_at : List PlaceEntry → Place → Option Base
base_at places p = base_by (entry_at places p)

-- the place has this entry, or none, and every other place what it had
abbrev pub SetsEntry : Place → Option PlaceEntry → (Place → Option PlaceEntry) → (Place → Option PlaceEntry) → Type 0
SetsEntry place slot before after = (p : Place) → after p ≡ (if same_place place p then slot else before p)

-- the place has this entry, or none, and stands so, and every other place has what it had
pub record PutsEntry (place : Place) (slot : Option PlaceEntry) (before after : List PlaceEntry) : Type 0 where
  pub set : SetsEntry place slot (entry_at before) (entry_at after)
  pub held : SetsHold place (hold_by slot) (hold_at before) (hold_at after)

-- every other place has the entry that it had
abbrev pub OtherEntries : Place → List PlaceEntry → List PlaceEntry → Type 0
OtherEntries place before after = (p : Place) → same_place place p ≡ false → entry_at after p ≡ entry_at before p

-- an entry with this half armed or disarmed
abbrev pub with_half : Half → Bool → PlaceEntry → PlaceEntry
with_half ToRead disarmed entry = record entry { reading_disarmed = disarmed }
with_half ToWrite disarmed entry = record entry { writing_disarmed = disarmed }

-- the entry of a place that was shut, with its output finished or not
abbrev pub shut_down : Bool → PlaceEntry → PlaceEntry
shut_down finished entry = record entry { standing = standings.ShutDown; finished = finished }

-- whether the half of the entry is disarmed
abbrev pub half_disarmed : Half → Option PlaceEntry → Bool
half_disarmed half None = false
half_disarmed ToRead (Some entry) = entry.reading_disarmed
half_disarmed ToWrite (Some entry) = entry.writing_disarmed

-- both halves of the entry are armed
abbrev pub is_armed : PlaceEntry → Bool
is_armed entry = not entry.reading_disarmed && not entry.writing_disarmed

-- this half of the place was last answered with nothing yet
abbrev pub is_disarmed : List PlaceEntry → Place → Half → Bool
is_disarmed places p half = half_disarmed half (entry_at places p)

-- no later entry is of an earlier session
abbrev pub AreInOrder : List PlaceEntry → Type 0
AreInOrder places = IsNonDecreasingBy (λ s. s.place.session) places

-- the entries before this index are of earlier sessions, and from it on of none
pub record IsStartOf (session : ℕ) (places : List PlaceEntry) (i : ℕ) : Type 0 where
  pub before : (k : ℕ) (d : PlaceEntry) → k < i → (get_or places k d).place.session < session
  pub after : (k : ℕ) (d : PlaceEntry) → i ≤ k → k < length places → session ≤ (get_or places k d).place.session

-- the first entry of the place stands at this index
abbrev pub IsFirstOf : Place → List PlaceEntry → ℕ → Type 0
IsFirstOf place [] i = ⊥
IsFirstOf place (x ∷ xs) zero = same_place x.place place ≡ true
IsFirstOf place (x ∷ xs) (suc i) = (same_place x.place place ≡ false) × IsFirstOf place xs i

-- whether the place is one of these
abbrev pub is_listed : Place → List Place → Bool
is_listed p [] = false
is_listed p (x ∷ xs) = same_place x p || is_listed p xs

-- whether a place of this entry is listed, if it is on standard streams
abbrev pub listed_so : Option PlaceEntry → Place → List Place → Bool
listed_so None p places = true
listed_so (Some entry) p places = not (is_standard entry.base) || is_listed p places

-- each place on standard streams is listed
abbrev pub AreListed : List PlaceEntry → List Place → Type 0
AreListed entries places = (p : Place) → listed_so (entry_at entries p) p places ≡ true

-- every place stands as before
abbrev pub SameHold : (Place → Hold) → (Place → Hold) → Type 0
SameHold before after = (p : Place) → after p ≡ before p

-- every place stands on what it stood on
abbrev pub SameStanding : List PlaceEntry → List PlaceEntry → Type 0
SameStanding before after = (p : Place) → base_at after p ≡ base_at before p

-- the half of the place is armed or disarmed, and nothing else of the places has changed
pub record MarksEntry (place : Place) (half : Half) (disarmed : Bool) (before after : List PlaceEntry) : Type 0 where
  pub set : SetsEntry place (option_map (with_half half disarmed) (entry_at before place)) (entry_at before) (entry_at after)
  pub held : SameHold (hold_at before) (hold_at after)
  pub standing : SameStanding before after
  pub len : length after ≡ length before
