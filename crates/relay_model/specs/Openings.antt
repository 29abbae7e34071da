-- Which places are ready, and what the opening of one that isn't calls for.
use Rattle.std.specs.Prelude.{ℕ, Bool, false, not, ◌&&◌, ◌||◌, nat_le, List, [], ◌∷◌, Option, Some, None, if◌then◌else◌}
use Rattle.std.specs.List.{list_all}
use Rattle.relay_model.specs.declared.places.Place.{Place}
use Rattle.relay_model.specs.declared.commands.Config.{Config}
use Rattle.relay_model.specs.declared.acts.Act.{Act}
use Rattle.relay_model.specs.Places.{door_of}
use Rattle.relay_model.specs.Configs.{places, options_of, listens_at, has_own_door}
use Rattle.relay_model.specs.History.{now, stage, held, served, failures, woken}
use Rattle.relay_model.specs.declared.stages.Stage.{Stage}
use Rattle.relay_model.specs.declared.stages.Stage.TheVariants.{Untried, Usable, Unsettled, Failed, Met, Waiting}
use Rattle.relay_model.specs.Arming.{armed_to_accept}
use Rattle.relay_model.specs.Sessions.{permits}
use Rattle.relay_model.specs.Tries.{is_out_of_tries, next_due}
use Rattle.relay_model.specs.declared.calls.Call.{Call}
use Rattle.relay_model.specs.declared.calls.Call.TheVariants.{Nothing, TryAt, Open, Settle, Listen, Accept, Refuse, Serve}

-- ---- tries

-- no try is left at the place or door
abbrev pub out_of_tries : Config → List Act → Place → Bool
out_of_tries c past p = is_out_of_tries (options_of c p).tries.retry (options_of c p).tries.forever (failures past p)

-- the call, from the moment on at which it is due
abbrev pub when_due : ℕ → Option ℕ → Call → Call
when_due at None wanted = Nothing
when_due at (Some m) wanted = if nat_le m at then wanted else TryAt m

-- a further try, while tries are left
abbrev pub try_again : Config → List Act → Place → Call → Call
try_again c past p wanted =
    if out_of_tries c past p then Nothing
    else when_due (now past) (next_due (options_of c p).tries.interval (failures past p)) wanted

-- ---- ready places

-- a place that doesn't listen is ready where it was opened, another one where it is held by a permitted peer and its
-- own door has served
abbrev pub stands_ready : Config → List Act → Place → Stage → Bool
stands_ready c past p Usable = not (listens_at c p)
stands_ready c past p (Met peer) = listens_at c p && permits c p peer && (not (has_own_door c p) || served past (door_of p))
stands_ready c past p other = false

-- a place is ready, by its stage
abbrev pub is_ready : Config → List Act → Place → Bool
is_ready c past p = stands_ready c past p (stage past p)

-- every place of the session is ready
abbrev pub ready : Config → List Act → ℕ → Bool
ready c past s = list_all (is_ready c past) (places c s)

-- ---- calls

-- an opening, a settling once a turn named the place, or a further try
abbrev pub opening_call : Config → List Act → Place → Stage → Call
opening_call c past p Untried = Open p
opening_call c past p Unsettled = if woken past p then Settle p else Nothing
opening_call c past p Failed = try_again c past p (Open p)
opening_call c past p other = Nothing

-- a listening, a further try of one, or an accepting where the door is armed
abbrev pub listening_call : Config → List Act → Place → Place → Stage → Call
listening_call c past d p Untried = Listen d
listening_call c past d p Failed = try_again c past d (Listen d)
listening_call c past d p Waiting = if armed_to_accept past d then Accept d p else Nothing
listening_call c past d p other = Nothing

-- a peer that isn't permitted is refused; after a permitted one the own door has served
abbrev pub peer_call : Config → List Act → Place → Stage → Call
peer_call c past p (Met peer) =
    if permits c p peer
    then (if held past (door_of p) then Serve (door_of p) else Nothing)
    else Refuse p
peer_call c past p other = listening_call c past (door_of p) p (stage past (door_of p))

-- what a place calls for by itself; with `fork` a left place calls for nothing, since its peer comes by the program door
abbrev pub place_call : Config → List Act → Place → Call
place_call c past p =
    if has_own_door c p then peer_call c past p (stage past p)
    else if listens_at c p then Nothing
    else opening_call c past p (stage past p)

-- what the first of these places that isn't ready calls for
abbrev pub first_call : Config → List Act → List Place → Call
first_call c past [] = Nothing
first_call c past (p ∷ ps) = if is_ready c past p then first_call c past ps else place_call c past p
