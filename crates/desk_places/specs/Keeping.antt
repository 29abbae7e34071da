-- What a call leaves of the places and of the ports that they stand on.
use Rattle.std.specs.Prelude.{◌≡◌, ◌<◌, ◌≤◌, ◌+◌, ℕ, false, None, Some, List, length, vec_len, vec_capacity}
use Rattle.slab.specs.Slab.{get}
use Rattle.relay_model.specs.{Place, Free}
use Rattle.port_table.specs.declared.bases.Base.TheVariants as bases
use Rattle.desk_places.specs.declared.ports.Ports.{Ports}
use Rattle.desk_places.specs.declared.places.PlaceEntry.{PlaceEntry}
use Rattle.desk_places.specs.PlaceBases.{SameBases}
use Rattle.desk_places.specs.Marks.{MarksPlace}
use Rattle.desk_places.specs.Standing.{HasVacancy, IsSound}
use Rattle.desk_places.specs.PlaceTables.{PlaceTableSeen, base_at, hold_at, is_disarmed}

-- the place is free, and there is room to hold it on one port more
pub record CanTakeIn {A B C D E : Type 0} (place : Place) (places : PlaceTableSeen) (ports : Ports A B C D E) : Type 0 where
  pub free : hold_at places.entries place ≡ Free
  pub spare : 0 < places.spare
  pub vacancy : HasVacancy ports.table.made ports.listed

-- nothing has changed but which ports are listed
pub record SameButListed {A B C D E : Type 0} (before now : Ports A B C D E) : Type 0 where
  pub table : now.table ≡ before.table
  pub maker : now.maker ≡ before.maker
  pub parents : now.parents ≡ before.parents
  pub covered : now.listed.covered ≡ before.listed.covered

-- the maker has made nothing, and there is room for as many ports that closed places leave
pub record SameMakerAndRoom {A B C D E : Type 0} (before now : Ports A B C D E) : Type 0 where
  pub maker : now.maker ≡ before.maker
  pub capacity : vec_capacity now.parents ≡ vec_capacity before.parents

-- the place is held no longer, its made port is gone, and no other place or port has changed
pub record LeavesPlace {A B C D E : Type 0} (place : Place) (places places' : List PlaceEntry) (before now : Ports A B C D E) : Type 0 where
  pub gone : (key : ℕ) → base_at places place ≡ Some (bases.Made key) → get now.table.made key ≡ None
  pub others : (key : ℕ) → (base_at places place ≡ Some (bases.Made key) → ⊥) → get now.table.made key ≡ get before.table.made key
  pub marks : MarksPlace place false (is_disarmed places) (is_disarmed places')
  pub fewer : length places' + 1 ≤ length places
  pub room : length places' + vec_len now.parents ≤ length places + vec_len before.parents
  pub maker : now.maker ≡ before.maker
  pub capacity : vec_capacity now.parents ≡ vec_capacity before.parents

-- at most one place more is held, each stands on a port of its own as before, and no port is kept without its place
pub record TakesOne {A B C D E : Type 0} (places places' : List PlaceEntry) (before now : Ports A B C D E) : Type 0 where
  pub sound : IsSound places before.table.made before.listed → IsSound places' now.table.made now.listed
  pub one_more : length places' ≤ length places + 1
  pub parents : now.parents ≡ before.parents

-- no place more is held, and each stands on what it stood on
pub record KeepsPlaces {A B C D E : Type 0} (places places' : List PlaceEntry) (before now : Ports A B C D E) : Type 0 where
  pub sound : IsSound places before.table.made before.listed → IsSound places' now.table.made now.listed
  pub bases : SameBases (base_at places) (base_at places')
  pub no_more : length places' ≤ length places
  pub parents : now.parents ≡ before.parents
  pub maker : now.maker ≡ before.maker
