-- A desk at which nothing is held.
use Rattle.std.proofs.Common.{◌≡◌, List, [], ◌∷◌, refl}
use Rattle.relay_model.specs.declared.places.Place.{Place}
use Rattle.relay_model.specs.Holding.{Free}
use Rattle.world_trait.specs.HoldTables.{hold_of}
use Rattle.world_trait.specs.declared.tables.Standing.{Standing}
use Rattle.world_trait.specs.declared.tables.Standing.TheVariants as standings
use Rattle.desk_places.specs.PlaceTables.{hold_at}
use Rattle.desk_places.specs.declared.places.PlaceEntry.{PlaceEntry}
use Rattle.desk_places.proofs.PlaceLemmas.{same_place-same}

stands : (standing : Standing) → hold_of standing ≡ Free → ⊥
stands standings.Settling e = cc
stands standings.Open e = cc
stands standings.ShutDown e = cc

-- where no place is held there is no entry
pub no_entry : (places : List PlaceEntry) → ((p : Place) → hold_at places p ≡ Free) → places ≡ []
no_entry [] free = refl
no_entry (entry ∷ places) free =
    absurd (stands entry.standing (rw (same_place-same entry.place) at (free entry.place)))
