-- What a script holds, when a wait over it ends, and what it names.
use Rattle.std.specs.Prelude.{◌≡◌, ◌++◌, ⊤, ℕ, Bool, true, false, ◌||◌, nat_le, max, List, [], ◌∷◌, Option, None, Some, is_none, option_map, if◌then◌else◌}
use Rattle.relay_model.specs.{Place, ReadyAt, earlier}
use Rattle.scripted_world.specs.declared.items.OpenItem.{OpenItem}
use Rattle.scripted_world.specs.declared.items.OpenItem.TheVariants as items
use Rattle.scripted_world.specs.declared.looking.WatchKind.{WatchKind}
use Rattle.scripted_world.specs.declared.looking.WatchKind.TheVariants as watches
use Rattle.scripted_world.specs.declared.looking.LookedAt.{LookedAt}
use Rattle.scripted_world.specs.declared.writing.DueWrite.{DueWrite}
use Rattle.scripted_world.specs.declared.script.Script.{Script}
use Rattle.scripted_world.specs.Lines.{next_of}
use Rattle.scripted_world.specs.Looks.{elsewhere, name_of, openings_at}
use Rattle.scripted_world.specs.Marks.{has_come, least_by, least_of}

-- a script without items
abbrev pub empty_script : Script
empty_script = record { reads = []; writes = []; opens = []; peers = []; reaps = []; shut_faults = []; stops = []; looked = [] }

-- what becomes of an opening, a settling or a listening: with no item left it opens, and no item's moment counts
abbrev pub opening : Option OpenItem → OpenItem
opening None = items.Opens
opening (Some item) = item

-- an item whose opening fails
abbrev pub is_failing : OpenItem → Bool
is_failing items.Opens = false
is_failing items.Later = false
is_failing items.Fails = true

-- an opening of a door isn't under way
abbrev pub OpensSo : Place → OpenItem → Type 0
OpensSo place items.Opens = ⊤
OpensSo place items.Later = place.door ≡ false
OpensSo place items.Fails = ⊤

-- what is looked at after an opening or a settling of the place
abbrev pub looked_opening : OpenItem → List LookedAt → Place → List LookedAt
looked_opening items.Opens looked p = elsewhere looked p
looked_opening items.Later looked p = elsewhere looked p ++ openings_at p
looked_opening items.Fails looked p = elsewhere looked p

-- a write list that is used up is ready at once
abbrev pub write_moment : Option DueWrite → ℕ
write_moment None = 0
write_moment (Some line) = line.at

-- an opening that is under way is ready at once
abbrev pub moment_of : Script → Place → WatchKind → Option ℕ
moment_of s p watches.Read = option_map (λ line. line.at) (next_of s.reads p)
moment_of s p watches.Write = Some (write_moment (next_of s.writes p))
moment_of s p (watches.Opening half) = Some 0
moment_of s p watches.Peer = option_map (λ line. line.at) (next_of s.peers p)

-- the moment from which something that is looked at is ready, if it ever is
abbrev pub ready_from : Script → LookedAt → Option ℕ
ready_from s entry = moment_of s entry.place entry.watch

-- the least moment from which one of these is ready
abbrev pub least_moment : Script → List LookedAt → Option ℕ
least_moment s entries = least_by (ready_from s) entries

-- the earliest moment at which something happens: the end of the wait, a stop, or that something is ready
abbrev pub earliest : Script → Option ℕ → Option ℕ
earliest s until = earlier until (earlier (least_of s.stops) (least_moment s s.looked))

-- that moment, but not before now; now where nothing will ever happen
abbrev pub not_before : ℕ → Option ℕ → ℕ
not_before clock None = clock
not_before clock (Some moment) = max moment clock

-- the moment at which a wait ends
abbrev pub at_of : Script → Option ℕ → ℕ → ℕ
at_of s until clock = not_before clock (earliest s until)

-- whether it answers a stop: nothing will ever happen, or a stop moment has come
abbrev pub is_stop : Script → Option ℕ → ℕ → Bool
is_stop s until at = is_none (earliest s until) || has_come s.stops at

-- whether a moment is there and has come
abbrev pub due_by : ℕ → Option ℕ → Bool
due_by at None = false
due_by at (Some moment) = nat_le moment at

-- what is looked at is ready at this moment
abbrev pub is_ready : Script → ℕ → LookedAt → Bool
is_ready s at entry = due_by at (ready_from s entry)

-- those of these that are ready at this moment, in order
abbrev pub ready_ones : Script → ℕ → List LookedAt → List ReadyAt
ready_ones s at [] = []
ready_ones s at (entry ∷ entries) = if is_ready s at entry then name_of entry ∷ ready_ones s at entries else ready_ones s at entries
