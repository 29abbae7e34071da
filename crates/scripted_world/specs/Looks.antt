-- What a wait looks at, in the order in which it was asked.
use Rattle.std.specs.Prelude.{◌≡◌, All, Bool, true, false, not, ◌&&◌, ◌++◌, List, [], ◌∷◌, filter}
use Rattle.relay_model.specs.{Place, Part, Half, ReadyAt, same_place, same_half, Hold, is_free, names}
use Rattle.relay_model.specs.declared.places.Part.TheVariants.{Both, Reading, Writing}
use Rattle.relay_model.specs.declared.places.Half.TheVariants.{ToRead, ToWrite}
use Rattle.scripted_world.specs.declared.looking.WatchKind.{WatchKind}
use Rattle.scripted_world.specs.declared.looking.WatchKind.TheVariants as watches
use Rattle.scripted_world.specs.declared.looking.LookedAt.{LookedAt}

-- whether two are looked at for the same
abbrev pub same_watch : WatchKind → WatchKind → Bool
same_watch watches.Read watches.Read = true
same_watch watches.Read watches.Write = false
same_watch watches.Read watches.Peer = false
same_watch watches.Write watches.Read = false
same_watch watches.Write watches.Write = true
same_watch watches.Write watches.Peer = false
same_watch watches.Read (watches.Opening h) = false
same_watch watches.Write (watches.Opening h) = false
same_watch watches.Peer (watches.Opening h) = false
same_watch (watches.Opening h) watches.Read = false
same_watch (watches.Opening h) watches.Write = false
same_watch (watches.Opening h) watches.Peer = false
same_watch (watches.Opening h) (watches.Opening k) = same_half h k
same_watch watches.Peer watches.Read = false
same_watch watches.Peer watches.Write = false
same_watch watches.Peer watches.Peer = true

-- the half by which a turn names it; that of a door is the one to read
abbrev pub half_of : WatchKind → Half
half_of watches.Read = ToRead
half_of watches.Write = ToWrite
half_of watches.Peer = ToRead
half_of (watches.Opening half) = half

-- the entry by which a turn names what is looked at
abbrev pub name_of : LookedAt → ReadyAt
name_of entry = record { place = entry.place; half = half_of entry.watch }

-- all but this
abbrev pub without : List LookedAt → Place → WatchKind → List LookedAt
without looked p watch = filter (λ entry. not (same_place entry.place p && same_watch entry.watch watch)) looked

-- all but what is looked at of the place
abbrev pub elsewhere : List LookedAt → Place → List LookedAt
elsewhere looked p = filter (λ entry. not (same_place entry.place p)) looked

-- all but what these entries name
abbrev pub unnamed : List ReadyAt → List LookedAt → List LookedAt
unnamed ready looked = filter (λ entry. not (names ready entry.place (half_of entry.watch))) looked

-- this is looked at, as the last of all, exactly where its answer was that there is nothing yet
abbrev pub looked_after : Bool → List LookedAt → Place → WatchKind → List LookedAt
looked_after true looked p watch = without looked p watch ++ record { place = p; watch = watch } ∷ []
looked_after false looked p watch = without looked p watch

-- an opening that is under way, by each half that its part has
abbrev pub openings_by : Part → Place → List LookedAt
openings_by Both p = record { place = p; watch = watches.Opening ToRead } ∷ record { place = p; watch = watches.Opening ToWrite } ∷ []
openings_by Reading p = record { place = p; watch = watches.Opening ToRead } ∷ []
openings_by Writing p = record { place = p; watch = watches.Opening ToWrite } ∷ []

-- what is looked at while the opening of a place is under way
abbrev pub openings_at : Place → List LookedAt
openings_at p = openings_by p.part p

-- each thing that is looked at stands at a place or door that is held
abbrev pub LooksAtHeld : (Place → Hold) → List LookedAt → Type 0
LooksAtHeld held looked = All (λ entry. is_free (held entry.place) ≡ false) looked
