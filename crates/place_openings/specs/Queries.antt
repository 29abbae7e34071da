-- What is asked of the openings of a session, from their states alone.
use Rattle.std.specs.Prelude.{Bool, true, false, not, ◌&&◌, ◌||◌, ◌==◌, List, [], ◌∷◌, Option, Some, None, if◌then◌else◌}
use Rattle.relay_model.specs.{Place, Peer, Config, Act, same_bool, door_of, options_of, has_own_door, holds_at, is_gone_with, stage, held, Stage}
use Rattle.relay_model.specs.{Admission, is_permitted, only_if, or_else, out_of_tries}
use Rattle.relay_model.specs.declared.acts.Why.TheVariants as whys
use Rattle.relay_model.specs.declared.stages.Stage.TheVariants.{Usable, Met}
use Rattle.place_openings.specs.declared.one_place.Opening.{Opening}
use Rattle.place_openings.specs.Stands.{tried_at}

-- an opening with a peer is ready where the peer is permitted and its own door has served
abbrev pub met_ready : Opening → Peer → Bool
met_ready o peer = o.listens && is_permitted o.filter peer && (not o.has_door || is_gone_with whys.Served o.door)

-- an opening at this stage is ready
abbrev pub ready_at : Opening → Stage → Bool
ready_at o Usable = not o.listens
ready_at o (Met peer) = met_ready o peer
ready_at o other = false

-- an opening is ready
abbrev pub ready_by : Opening → Bool
ready_by o = ready_at o o.stage

-- the first of these that isn't ready
abbrev pub first_unready : List Opening → Option Opening
first_unready [] = None
first_unready (o ∷ os) = if ready_by o then first_unready os else Some o

-- the first answer that these give
abbrev pub first_of : {S T : Type 0} → (S → Option T) → List S → Option T
first_of answer [] = None
first_of answer (x ∷ xs) = or_else (answer x) (first_of answer xs)

-- the thing has the number of the session whose openings these are
abbrev pub of_session : Place → List Opening → Bool
of_session q [] = true
of_session q (o ∷ os) = q.session == o.place.session

-- the place, or else its own door, where it is held
abbrev pub held_by : Opening → Option Place
held_by o = or_else (only_if (holds_at o.stage) o.place) (only_if (o.has_door && holds_at o.door) (door_of o.place))

-- the place, or its own door, that is held
abbrev pub held_at : Config → List Act → Place → Option Place
held_at c past p = or_else (only_if (held past p) p) (only_if (has_own_door c p && held past (door_of p)) (door_of p))

-- a child that was closed and wasn't asked for yet
abbrev pub child_by : Opening → Option Place
child_by o = only_if (o.is_child && o.closed && not o.asked_child) o.place

-- a permitted peer
abbrev pub peer_by : Admission → Stage → Option Peer
peer_by admission (Met peer) = only_if (is_permitted admission peer) peer
peer_by admission other = None

-- the permitted peer by which a place is held
abbrev pub peer_at : Config → List Act → Place → Option Peer
peer_at c past p = peer_by (options_of c p).admission (stage past p)

-- that of the first of these places
abbrev pub peer_of_first : Config → List Act → List Place → Option Peer
peer_of_first c past [] = None
peer_of_first c past (p ∷ ps) = peer_at c past p

-- no try is left at a place that has an own door, or at one that has none
abbrev pub gave_up : Config → List Act → Bool → Place → Bool
gave_up c past has_door p = same_bool (has_own_door c p) has_door && out_of_tries c past (tried_at (has_own_door c p) p)
