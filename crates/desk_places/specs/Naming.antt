-- What a turn is to name: halves whose key a poller named, and disarmed ones whose port hints that they are ready.
use Rattle.std.specs.Prelude.{◌≡◌, ◌≤◌, ◌⊎◌, ℕ, Bool, true, false, List, [], ◌∷◌, length, slice_get, Option, None, Some, IfSome, ⊤}
use Rattle.relay_model.specs.{Place, Half, ReadyAt, Hold, is_free, Listed, names}
use Rattle.relay_model.specs.declared.places.Half.TheVariants.{ToRead, ToWrite}
use Rattle.world_trait.specs.{NamesHeld}
use Rattle.port_trait.specs.{Hint}
use Rattle.slab.specs.Slab.{SameValues, Slab, get}
use Rattle.port_table.specs.{is_standard, PortId, SameStreams, giving_port, hint_told, place_of, taking_port, EntrySeen, Base, PortTable}
use Rattle.port_table.specs.declared.bases.Base.TheVariants as bases
use Rattle.desk_places.specs.declared.ports.Ports.{Ports}
use Rattle.desk_places.specs.declared.places.PlaceEntry.{PlaceEntry}
use Rattle.desk_places.specs.PlaceTables.{base_at, half_disarmed, hold_at, entry_at}

-- the hint that each port of the table tells
abbrev pub told_by : {T I O E : Type 0} → PortTable T I O E → PortId → Option Hint
told_by table = hint_told table.input.port.hints table.output.port.hints table.errors.port.hints table.made

-- of the ports nothing has changed but where the made ones lie
pub record SamePorts {A B C D E : Type 0} (before now : Ports A B C D E) : Type 0 where
  pub streams : SameStreams before.table now.table
  pub made : SameValues before.table.made now.table.made
  pub listed : now.listed ≡ before.listed
  pub maker : now.maker ≡ before.maker
  pub parents : now.parents ≡ before.parents

-- the half is named, unless the list is full
abbrev pub IsNamed : List ReadyAt → Place → Half → Type 0
IsNamed ready p half = (names ready p half ≡ true) ⊎ (256 ≤ length ready)

-- what was named stays so
pub record Grown (before now : List ReadyAt) : Type 0 where
  pub kept : (p : Place) (half : Half) → names before p half ≡ true → names now p half ≡ true
  pub longer : length before ≤ length now

-- a half whose key the poller named is named for the place that stands on that key
abbrev pub KeyNamed : ℕ × Half → List PlaceEntry → List ReadyAt → Type 0
KeyNamed e places ready = (p : Place) → base_at places p ≡ Some (bases.Made e.0) → names ready p e.1 ≡ true

-- each half whose key was named stands in the list
abbrev pub NamesKeyed : List (ℕ × Half) → List PlaceEntry → List ReadyAt → Type 0
NamesKeyed entries places ready = (i : ℕ) (e : ℕ × Half) → slice_get entries i ≡ Some e → KeyNamed e places ready

-- the port of a half of a place
abbrev pub half_port : Half → Base → PortId
half_port ToRead base = giving_port base
half_port ToWrite base = taking_port base

-- the hint tells of this half
abbrev pub is_hinted : Half → Hint → Bool
is_hinted ToRead hint = hint.readable
is_hinted ToWrite hint = hint.writable

-- the disarmed halves of the entry that the hint finds ready are named
abbrev pub HintNamed : PlaceEntry → Hint → List ReadyAt → Type 0
HintNamed entry hint ready = (half : Half) → half_disarmed half (Some entry) ≡ true → is_hinted half hint ≡ true → IsNamed ready entry.place half

-- the disarmed halves of the entry whose port tells that they are ready are named
abbrev pub EntryNamed : (PortId → Option Hint) → PlaceEntry → List ReadyAt → Type 0
EntryNamed told entry ready = (half : Half) → half_disarmed half (Some entry) ≡ true → IfSome (told (half_port half entry.base)) (λ hint. is_hinted half hint ≡ true → IsNamed ready entry.place half)

-- the same of the entry of a place, if it is held
abbrev pub PlaceNamed : (PortId → Option Hint) → List PlaceEntry → Place → List ReadyAt → Type 0
PlaceNamed told places p ready = IfSome (entry_at places p) (λ entry. EntryNamed told entry ready)

-- each disarmed half on a standard stream that tells that it is ready is named
abbrev pub NamesStandard : (PortId → Option Hint) → List PlaceEntry → List ReadyAt → Type 0
NamesStandard told places ready = (p : Place) → IfSome (entry_at places p) (λ entry. is_standard entry.base ≡ true → EntryNamed told entry ready)

-- each disarmed half on a made port of these keys that tells that it is ready is named
abbrev pub NamesListed : (PortId → Option Hint) → List PlaceEntry → Slab EntrySeen → List ℕ → List ReadyAt → Type 0
NamesListed told places made keys ready = (i : ℕ) (key : ℕ) → slice_get keys i ≡ Some key → IfSome (place_of (get made key)) (λ place. PlaceNamed told places place ready)

-- each disarmed half whose port tells that it is ready is named
abbrev pub NamesHinting : (PortId → Option Hint) → List PlaceEntry → List ReadyAt → Type 0
NamesHinting told places ready = (p : Place) → PlaceNamed told places p ready

-- a hint that is told tells of this half
abbrev pub IsHinted : Half → Option Hint → Type 0
IsHinted half None = ⊥
IsHinted half (Some hint) = is_hinted half hint ≡ true

-- the half of the entry is disarmed, and its port tells that it is ready
abbrev pub IsHinting : (PortId → Option Hint) → Option PlaceEntry → Half → Type 0
IsHinting told None half = ⊥
IsHinting told (Some entry) half = (half_disarmed half (Some entry) ≡ true) × IsHinted half (told (half_port half entry.base))

-- the poller named the key that the place stands on, and this half of it
pub record IsKeyed (keys : List (ℕ × Half)) (places : List PlaceEntry) (p : Place) (half : Half) : Type 0 where
  pub index : ℕ
  pub key : ℕ
  pub entry : slice_get keys index ≡ Some (key, half)
  pub based : base_at places p ≡ Some (bases.Made key)

-- the half of the entry is disarmed, and its port tells that it is ready, or doesn't tell
abbrev pub MayHint : (PortId → Option Hint) → Option PlaceEntry → Half → Type 0
MayHint told None half = ⊥
MayHint told (Some entry) half = (half_disarmed half (Some entry) ≡ true) × IfSome (told (half_port half entry.base)) (λ hint. is_hinted half hint ≡ true)

-- a half may be named where its key was, or where it is disarmed and its port hints so
abbrev pub IsDue : List (ℕ × Half) → (PortId → Option Hint) → List PlaceEntry → Place → Half → Type 0
IsDue keys told places p half = IsKeyed keys places p half ⊎ MayHint told (entry_at places p) half

-- no other half is named
abbrev pub NamesOnly : List (ℕ × Half) → (PortId → Option Hint) → List PlaceEntry → List ReadyAt → Type 0
NamesOnly keys told places [] = ⊤
NamesOnly keys told places (e ∷ ready) = IsDue keys told places e.place e.half × NamesOnly keys told places ready

-- the list has room for what a turn names, and each half in it is of a held place
pub record CanName (places : List PlaceEntry) (ready : Listed) : Type 0 where
  pub room : 256 ≤ ready.room
  pub held : NamesHeld (hold_at places) ready.entries

-- halves of this place were named, and what was named stays so
pub record NamesAt (place : Place) (before now : Listed) : Type 0 where
  pub room : now.room ≡ before.room
  pub grown : Grown before.entries now.entries
  pub held : (hold : Place → Hold) → is_free (hold place) ≡ false → NamesHeld hold before.entries → NamesHeld hold now.entries

-- halves of held places were named that are due, what was named stays so, and of the ports nothing has changed but where
-- the made ones lie
pub record NamesMore {A B C D E : Type 0} (places : List PlaceEntry) (ports ports' : Ports A B C D E) (before now : Listed) : Type 0 where
  pub room : now.room ≡ before.room
  pub grown : Grown before.entries now.entries
  pub only : (keys : List (ℕ × Half)) → NamesOnly keys (told_by ports.table) places before.entries → NamesOnly keys (told_by ports.table) places now.entries
  pub held : NamesHeld (hold_at places) now.entries
  pub same : SamePorts ports ports'

-- of an entry the halves are named that are disarmed and that the hint finds ready, and no others
abbrev pub HintsOnly : PlaceEntry → Hint → List ReadyAt → List ReadyAt → Type 0
HintsOnly entry hint before now =
    (keys : List (ℕ × Half)) (told : PortId → Option Hint) (places : List PlaceEntry) →
    ((half : Half) → half_disarmed half (Some entry) ≡ true → is_hinted half hint ≡ true → IsDue keys told places entry.place half) →
    NamesOnly keys told places before → NamesOnly keys told places now

-- where no half can hint, the poll is asked to wait as the turn asks
abbrev pub WaitsIdle : (PortId → Option Hint) → List PlaceEntry → Option ℕ → Option ℕ → Type 0
WaitsIdle told places until asked = ((p : Place) (half : Half) → MayHint told (entry_at places p) half → ⊥) → asked ≡ until

-- until when a poll is asked to wait: where a half hints it is asked for the moment of the last turn, and so doesn't
-- wait, and where nothing came to be named it was asked as the turn was
pub record PollsUntil (told : PortId → Option Hint) (places : List PlaceEntry) (ready : List ReadyAt) (last : ℕ) (until asked : Option ℕ) : Type 0 where
  pub at_once : (p : Place) (half : Half) → IsHinting told (entry_at places p) half → asked ≡ Some last
  pub waits : ready ≡ [] → asked ≡ until
  pub either : (asked ≡ Some last) ⊎ (asked ≡ until)
