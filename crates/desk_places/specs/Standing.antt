-- That each held place stands on a port of its own, and that a port that may hint at a disarmed half is listed.
use Rattle.std.specs.Prelude.{◌≡◌, ◌<◌, Bool, true, false, not, ◌&&◌, ◌||◌, nat_lt, ℕ, List, Option, None, Some, IfSome}
use Rattle.slab.specs.Slab.{HasRoomFor, Slab, get}
use Rattle.relay_model.specs.{Half, Place, same_place}
use Rattle.relay_model.specs.declared.places.Half.TheVariants.{ToRead, ToWrite}
use Rattle.port_trait.specs.{Hint, PortSeen}
use Rattle.port_table.specs.{EntrySeen, Base}
use Rattle.port_table.specs.declared.bases.Base.TheVariants as bases
use Rattle.desk_places.specs.declared.places.PlaceEntry.{PlaceEntry}
use Rattle.desk_places.specs.Keys.{KeyTable, is_in}
use Rattle.desk_places.specs.PlaceTables.{entry_at}

-- whether a hint, if there is one, tells of this half
abbrev pub tells : Half → Option Hint → Bool
tells half None = false
tells ToRead (Some hint) = hint.readable
tells ToWrite (Some hint) = hint.writable

-- whether the port may hint at this half before the next call on it, or tells that it does
abbrev pub may_tell : Half → PortSeen → Bool
may_tell half port = tells half (Some port.hinting) || tells half port.hints

-- whether the port may hint at no disarmed half of the entry
abbrev pub is_quiet : PlaceEntry → PortSeen → Bool
is_quiet entry port = not (entry.reading_disarmed && may_tell ToRead port) && not (entry.writing_disarmed && may_tell ToWrite port)

-- whether the made port is there for the place, and its key can be listed
abbrev pub is_entered : Place → ℕ → ℕ → Option EntrySeen → Bool
is_entered p key covered None = false
is_entered p key covered (Some entry) = same_place entry.place p && nat_lt key covered

-- whether the key is listed, unless its port is quiet
abbrev pub is_heeded : PlaceEntry → ℕ → List ℕ → Option EntrySeen → Bool
is_heeded entry key keys None = true
is_heeded entry key keys (Some made) = is_in key keys || is_quiet entry made.port

-- the first, of a made port; standard streams are always there
abbrev pub stands_on : Slab EntrySeen → ℕ → Place → Base → Bool
stands_on made covered p (bases.Made key) = is_entered p key covered (get made key)
stands_on made covered p bases.Input = true
stands_on made covered p bases.Output = true
stands_on made covered p bases.Both = true
stands_on made covered p bases.Errors = true

-- the second, of a made port; standard streams are always asked
abbrev pub heeds : Slab EntrySeen → List ℕ → PlaceEntry → Base → Bool
heeds made keys entry (bases.Made key) = is_heeded entry key keys (get made key)
heeds made keys entry bases.Input = true
heeds made keys entry bases.Output = true
heeds made keys entry bases.Both = true
heeds made keys entry bases.Errors = true

-- each place has its port; no two places have the same made one, since that is there for one place
abbrev pub AreEntered : List PlaceEntry → Slab EntrySeen → ℕ → Type 0
AreEntered places made covered = (p : Place) → IfSome (entry_at places p) (λ s. stands_on made covered p s.base ≡ true)

-- whatever may be hinted at a place is listed
abbrev pub IsHeeded : List PlaceEntry → Slab EntrySeen → List ℕ → Place → Type 0
IsHeeded places made keys p = IfSome (entry_at places p) (λ s. heeds made keys s s.base ≡ true)

-- a further port can be taken in, and its key be listed
pub record HasVacancy (made : Slab EntrySeen) (listed : KeyTable) : Type 0 where
  pub room : HasRoomFor made 1
  pub covered : made.vacant_key < listed.covered

-- each place has its port, and is listed where that may hint at a disarmed half
pub record IsSound (places : List PlaceEntry) (made : Slab EntrySeen) (listed : KeyTable) : Type 0 where
  pub entered : AreEntered places made listed.covered
  pub heeded : (p : Place) → IsHeeded places made listed.keys p

-- the same, but for what may be hinted at this place
pub record IsSoundBut (place : Place) (places : List PlaceEntry) (made : Slab EntrySeen) (listed : KeyTable) : Type 0 where
  pub entered : AreEntered places made listed.covered
  pub heeded : (p : Place) → same_place place p ≡ false → IsHeeded places made listed.keys p
