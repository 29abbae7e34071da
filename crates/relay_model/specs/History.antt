-- What a list of acts says of a place or door. Lists of acts stand newest first, so the last act of some kind is the
-- first that is found. The moment of an act is that of the last turn before it.
use Rattle.std.specs.Prelude.{ℕ, suc, Bool, true, false, not, ◌&&◌, ◌||◌, List, [], ◌∷◌, Option, Some, None, if◌then◌else◌}
use Rattle.relay_model.specs.declared.places.Place.{Place}
use Rattle.relay_model.specs.declared.places.Half.TheVariants.{ToRead, ToWrite}
use Rattle.relay_model.specs.declared.acts.Why.{Why}
use Rattle.relay_model.specs.declared.acts.Why.TheVariants as whys
use Rattle.relay_model.specs.declared.acts.Act.{Act}
use Rattle.relay_model.specs.declared.acts.Act.TheVariants.{Turn, Opened, OpenLater, OpenFailed, Listening, ListenFailed, Accepted, AcceptFailed, Read, ReadEmpty, ReadEnd, ReadFault, Wrote, WriteFault, Shut, ShutFault, Closed, Reaped}
use Rattle.relay_model.specs.Places.{same_place}
use Rattle.relay_model.specs.Readiness.{names}
use Rattle.relay_model.specs.Choices.{joined, noted}
use Rattle.relay_model.specs.declared.stages.Stage.{Stage}
use Rattle.relay_model.specs.declared.stages.Stage.TheVariants.{Untried, Usable, Unsettled, Failed, Met, Waiting, Gone}

-- ---- turns

-- the moment of the last turn
abbrev pub now : List Act → ℕ
now [] = 0
now (Turn until at ready stop ∷ past) = at
now (act ∷ past) = now past

-- how many turns there were
abbrev pub turns : List Act → ℕ
turns [] = 0
turns (Turn until at ready stop ∷ past) = suc (turns past)
turns (act ∷ past) = turns past

-- whether two reasons of a closing are the same
abbrev pub same_why : Why → Why → Bool
same_why whys.Finished whys.Finished = true
same_why whys.ClosingTime whys.ClosingTime = true
same_why whys.Idle whys.Idle = true
same_why whys.Faulted whys.Faulted = true
same_why whys.OpenFailed whys.OpenFailed = true
same_why whys.ListenFailed whys.ListenFailed = true
same_why whys.AcceptFailed whys.AcceptFailed = true
same_why whys.Refused whys.Refused = true
same_why whys.Served whys.Served = true
same_why whys.Stopped whys.Stopped = true
same_why whys.Memory whys.Memory = true
same_why one other = false

-- a turn said stop, or something was closed for that
abbrev pub stop_said : List Act → Bool
stop_said [] = false
stop_said (Turn until at ready stop ∷ past) = stop || stop_said past
stop_said (Closed q why ∷ past) = same_why why whys.Stopped || stop_said past
stop_said (act ∷ past) = stop_said past

-- something was closed for want of memory
abbrev pub memory_said : List Act → Bool
memory_said [] = false
memory_said (Closed q why ∷ past) = same_why why whys.Memory || memory_said past
memory_said (act ∷ past) = memory_said past

-- ---- opening and closing

-- the last act of opening, accepting, listening or closing at a thing
abbrev pub stage : List Act → Place → Stage
stage [] p = Untried
stage (Opened q ∷ past) p = if same_place q p then Usable else stage past p
stage (OpenLater q ∷ past) p = if same_place q p then Unsettled else stage past p
stage (OpenFailed q ∷ past) p = if same_place q p then Failed else stage past p
stage (Listening q ∷ past) p = if same_place q p then Waiting else stage past p
stage (ListenFailed q ∷ past) p = if same_place q p then Failed else stage past p
stage (Accepted q peer ∷ past) p = if same_place q p then Met peer else stage past p
stage (Closed q why ∷ past) p = if same_place q p then Gone why else stage past p
stage (act ∷ past) p = stage past p

-- the stages at which something is held
abbrev pub holds_at : Stage → Bool
holds_at Untried = false
holds_at Usable = true
holds_at Unsettled = true
holds_at Failed = false
holds_at (Met peer) = true
holds_at Waiting = true
holds_at (Gone why) = false

-- whether a place or door is held
abbrev pub held : List Act → Place → Bool
held past p = holds_at (stage past p)

-- the thing was closed for this reason
abbrev pub is_gone_with : Why → Stage → Bool
is_gone_with why (Gone other) = same_why other why
is_gone_with why other = false

-- whether a door was closed since it had served
abbrev pub served : List Act → Place → Bool
served past d = is_gone_with whys.Served (stage past d)

-- the moments of the openings or listenings that failed, newest first
abbrev pub failures : List Act → Place → List ℕ
failures [] p = []
failures (OpenFailed q ∷ past) p = noted (same_place q p) (now past) (failures past p)
failures (ListenFailed q ∷ past) p = noted (same_place q p) (now past) (failures past p)
failures (act ∷ past) p = failures past p

-- a turn named the place after its last opening act, which left it unsettled
abbrev pub woken : List Act → Place → Bool
woken [] p = false
woken (Turn until at ready stop ∷ past) p = names ready.entries p ToRead || names ready.entries p ToWrite || woken past p
woken (OpenLater q ∷ past) p = not (same_place q p) && woken past p
woken (act ∷ past) p = woken past p

-- an accepting failed at the door
abbrev pub accept_failed : List Act → Place → Bool
accept_failed [] d = false
accept_failed (AcceptFailed q ∷ past) d = same_place q d || accept_failed past d
accept_failed (act ∷ past) d = accept_failed past d

-- the place was closed
abbrev pub was_closed : List Act → Place → Bool
was_closed [] p = false
was_closed (Closed q why ∷ past) p = same_place q p || was_closed past p
was_closed (act ∷ past) p = was_closed past p

-- the child of the place was reaped
abbrev pub was_reaped : List Act → Place → Bool
was_reaped [] p = false
was_reaped (Reaped q end ∷ past) p = same_place q p || was_reaped past p
was_reaped (act ∷ past) p = was_reaped past p

-- the child of a closed place was reaped since its last closing
abbrev pub reaped_since : List Act → Place → Bool
reaped_since [] p = false
reaped_since (Closed q why ∷ past) p = not (same_place q p) && reaped_since past p
reaped_since (Reaped q end ∷ past) p = same_place q p || reaped_since past p
reaped_since (act ∷ past) p = reaped_since past p

-- ---- bytes

-- the bytes that were read at a place
abbrev pub got : List Act → Place → List ℕ
got [] p = []
got (Read q bytes ∷ past) p = joined (same_place q p) (got past p) bytes
got (act ∷ past) p = got past p

-- the bytes that were written at a place
abbrev pub put : List Act → Place → List ℕ
put [] p = []
put (Wrote q bytes ∷ past) p = joined (same_place q p) (put past p) bytes
put (act ∷ past) p = put past p

-- the pieces in which they were written
abbrev pub sent : List Act → Place → List (List ℕ)
sent [] p = []
sent (Wrote q bytes ∷ past) p = joined (same_place q p) (sent past p) (bytes ∷ [])
sent (act ∷ past) p = sent past p

-- ---- ends, faults and passed ends

-- an end came at the place
abbrev pub met_end : List Act → Place → Bool
met_end [] p = false
met_end (ReadEnd q ∷ past) p = same_place q p || met_end past p
met_end (act ∷ past) p = met_end past p

-- an empty datagram came at the place
abbrev pub met_empty : List Act → Place → Bool
met_empty [] p = false
met_empty (ReadEmpty q ∷ past) p = same_place q p || met_empty past p
met_empty (act ∷ past) p = met_empty past p

-- the moment at which the end was passed on at a place; a shut that failed counts too
abbrev pub shut_at : List Act → Place → Option ℕ
shut_at [] p = None
shut_at (Shut q way ∷ past) p = if same_place q p then Some (now past) else shut_at past p
shut_at (ShutFault q way ∷ past) p = if same_place q p then Some (now past) else shut_at past p
shut_at (act ∷ past) p = shut_at past p

-- when a read failed at the place, the last time
abbrev pub read_fault_at : List Act → Place → Option ℕ
read_fault_at [] p = None
read_fault_at (ReadFault q ∷ past) p = if same_place q p then Some (now past) else read_fault_at past p
read_fault_at (act ∷ past) p = read_fault_at past p

-- when a write failed at the place, the last time
abbrev pub write_fault_at : List Act → Place → Option ℕ
write_fault_at [] p = None
write_fault_at (WriteFault q ∷ past) p = if same_place q p then Some (now past) else write_fault_at past p
write_fault_at (act ∷ past) p = write_fault_at past p
