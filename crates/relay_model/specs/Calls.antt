-- What the opening of a session and the program door call for.
use Rattle.std.specs.Prelude.{ℕ, Bool, not, ◌&&◌, ◌||◌, nat_le, List, is_none, if◌then◌else◌}
use Rattle.relay_model.specs.declared.places.Place.{Place}
use Rattle.relay_model.specs.declared.commands.Config.{Config}
use Rattle.relay_model.specs.declared.acts.Act.{Act}
use Rattle.relay_model.specs.Configs.{places, has_fork, is_left, program_door}
use Rattle.relay_model.specs.History.{stage, held, stop_said, memory_said, accept_failed}
use Rattle.relay_model.specs.declared.stages.Stage.{Stage}
use Rattle.relay_model.specs.declared.stages.Stage.TheVariants.{Waiting}
use Rattle.relay_model.specs.Sessions.{admitted, live, live_count, next_place, door_options}
use Rattle.relay_model.specs.Openings.{first_call, listening_call}
use Rattle.relay_model.specs.declared.calls.Call.{Call}
use Rattle.relay_model.specs.declared.calls.Call.TheVariants.{Nothing, Refuse, Serve}
use Rattle.relay_model.specs.Cause.{cause}

-- what the opening of a session calls for
abbrev pub call : Config → List Act → ℕ → Call
call c past s = if live c past s && is_none (cause c past s) then first_call c past (places c s) else Nothing

-- a stop, want of memory or a failed accepting ends the program door
abbrev pub door_cut : List Act → Bool
door_cut past = memory_said past || stop_said past || accept_failed past program_door

-- as many peers were permitted as are to be served
abbrev pub enough : Config → List Act → Bool
enough c past = nat_le (door_options c).sessions.stop_after (admitted c past)

-- as many sessions live as may
abbrev pub full : Config → List Act → Bool
full c past = nat_le (door_options c).sessions.max_children (live_count c past)

-- a door that is held has served, or accepts the next peer while there is room for its session
abbrev pub program_door_call : Config → List Act → Stage → Call
program_door_call c past Waiting =
    if enough c past then Serve program_door
    else if full c past then Nothing
    else listening_call c past program_door (next_place c past) Waiting
program_door_call c past other = listening_call c past program_door (next_place c past) other

-- what the program door of `fork` calls for; a peer that isn't permitted stands at the place of the next session
abbrev pub door_call : Config → List Act → Call
door_call c past =
    if not (has_fork c) || door_cut past then Nothing
    else if held past (next_place c past) then Refuse (next_place c past)
    else program_door_call c past (stage past program_door)

-- what is called for at a place or door: with `fork` the left side is the program door's
abbrev pub called_at : Config → List Act → Place → Call
called_at c past p = if is_left p && has_fork c then door_call c past else call c past p.session
