-- What acts leave as it is: each list of acts says of a place or door the same after an act elsewhere, and of a session
-- the same after an act that is none of its own.
use Rattle.std.specs.Prelude.{◌≡◌, ◌<◌, ℕ, Bool, true, false, ◌&&◌, ◌||◌, List, ◌∷◌}
use Rattle.std.specs.List.{list_any}
use Rattle.relay_model.specs.declared.places.Way.{Way}
use Rattle.relay_model.specs.declared.places.Place.{Place}
use Rattle.relay_model.specs.declared.commands.Config.{Config}
use Rattle.relay_model.specs.declared.acts.Why.TheVariants as whys
use Rattle.relay_model.specs.declared.acts.Act.{Act}
use Rattle.relay_model.specs.declared.acts.Act.TheVariants.{Turn, Opened, OpenLater, OpenFailed, Listening, ListenFailed, Accepted, NoPeer, AcceptFailed, Read, ReadEmpty, ReadEnd, ReadNotYet, ReadFault, Wrote, WriteNotYet, WriteFault, Shut, ShutFault, Closed, Reaped, Note, NoteFault}
use Rattle.relay_model.specs.Places.{same_place}
use Rattle.relay_model.specs.Holding.{standing}
use Rattle.relay_model.specs.Configs.{input, output, places, things, is_program_door}
use Rattle.relay_model.specs.History.{now, turns, same_why, stop_said, memory_said, stage, failures, woken, accept_failed, was_closed, was_reaped, reaped_since, got, put, sent, met_end, met_empty, shut_at, read_fault_at, write_fault_at}
use Rattle.relay_model.specs.Arming.{read_arming, armed_to_write, armed_to_accept, asked_to_read, asked_to_write, asked_to_accept}
use Rattle.relay_model.specs.Sessions.{admitted, numbers, live, holds}
use Rattle.relay_model.specs.Transfers.{due_pieces}
use Rattle.relay_model.specs.Moments.{moved_at, closing_moment, idle_moment}
use Rattle.relay_model.specs.Openings.{ready}
use Rattle.relay_model.specs.Cause.{closed_why, cause, running}
use Rattle.relay_model.specs.Outcome.{first_fault}
use Rattle.relay_model.specs.Calls.{call}
use Rattle.relay_model.specs.Rest.{session_work, session_moment}

-- the place or door that the act is at
abbrev pub is_at : Act → Place → Bool
is_at (Turn until at ready stop) p = false
is_at (Opened q) p = same_place q p
is_at (OpenLater q) p = same_place q p
is_at (OpenFailed q) p = same_place q p
is_at (Listening q) p = same_place q p
is_at (ListenFailed q) p = same_place q p
is_at (Accepted q peer) p = same_place q p
is_at (NoPeer q) p = same_place q p
is_at (AcceptFailed q) p = same_place q p
is_at (Read q bytes) p = same_place q p
is_at (ReadEmpty q) p = same_place q p
is_at (ReadEnd q) p = same_place q p
is_at (ReadNotYet q) p = same_place q p
is_at (ReadFault q) p = same_place q p
is_at (Wrote q bytes) p = same_place q p
is_at (WriteNotYet q) p = same_place q p
is_at (WriteFault q) p = same_place q p
is_at (Shut q way) p = same_place q p
is_at (ShutFault q way) p = same_place q p
is_at (Closed q why) p = same_place q p
is_at (Reaped q end) p = same_place q p
is_at (Note text) p = false
is_at (NoteFault text) p = false

-- the act is a turn
abbrev pub is_turn : Act → Bool
is_turn (Turn until at ready stop) = true
is_turn act = false

-- two lists of acts say the same of a place or door
pub record SameAt (p : Place) (one other : List Act) : Type 0 where
  -- the opening, the holding and the closing
  pub stage_same : stage one p ≡ stage other p
  pub failures_same : failures one p ≡ failures other p
  pub woken_same : woken one p ≡ woken other p
  pub accept_failed_same : accept_failed one p ≡ accept_failed other p
  pub was_closed_same : was_closed one p ≡ was_closed other p
  pub was_reaped_same : was_reaped one p ≡ was_reaped other p
  pub reaped_since_same : reaped_since one p ≡ reaped_since other p
  -- what was read and written, and how these ended
  pub got_same : got one p ≡ got other p
  pub put_same : put one p ≡ put other p
  pub sent_same : sent one p ≡ sent other p
  pub met_end_same : met_end one p ≡ met_end other p
  pub met_empty_same : met_empty one p ≡ met_empty other p
  pub shut_at_same : shut_at one p ≡ shut_at other p
  pub read_fault_at_same : read_fault_at one p ≡ read_fault_at other p
  pub write_fault_at_same : write_fault_at one p ≡ write_fault_at other p
  -- what may be asked, and what was
  pub read_arming_same : read_arming one p ≡ read_arming other p
  pub armed_to_write_same : armed_to_write one p ≡ armed_to_write other p
  pub armed_to_accept_same : armed_to_accept one p ≡ armed_to_accept other p
  pub asked_to_read_same : asked_to_read one p ≡ asked_to_read other p

-- an act elsewhere changes nothing that is said of a place or door
abbrev pub ElsewhereIsUntouched : Type 0
ElsewhereIsUntouched = (act : Act) (past : List Act) (p : Place) → is_turn act ≡ false → is_at act p ≡ false → SameAt p (act ∷ past) past

-- ---- kinds of acts, by what they change

-- the acts that may change the stage of a thing
abbrev pub opens_or_closes : Act → Bool
opens_or_closes (Opened q) = true
opens_or_closes (OpenLater q) = true
opens_or_closes (OpenFailed q) = true
opens_or_closes (Listening q) = true
opens_or_closes (ListenFailed q) = true
opens_or_closes (Accepted q peer) = true
opens_or_closes (Closed q why) = true
opens_or_closes act = false

-- the acts that may change how a thing stands for a world
abbrev pub opens_shuts_or_closes : Act → Bool
opens_shuts_or_closes (Shut q way) = true
opens_shuts_or_closes (ShutFault q way) = true
opens_shuts_or_closes act = opens_or_closes act

-- the acts that may change the failures of a thing
abbrev pub fails_to_open : Act → Bool
fails_to_open (OpenFailed q) = true
fails_to_open (ListenFailed q) = true
fails_to_open act = false

-- the act that may change whether an accepting failed
abbrev pub fails_to_accept : Act → Bool
fails_to_accept (AcceptFailed q) = true
fails_to_accept act = false

-- the act that may change whether a thing was closed
abbrev pub is_closing : Act → Bool
is_closing (Closed q why) = true
is_closing act = false

-- the act that may change whether a child was reaped
abbrev pub reaps : Act → Bool
reaps (Reaped q end) = true
reaps act = false

-- the act that may change what was read
abbrev pub reads_bytes : Act → Bool
reads_bytes (Read q bytes) = true
reads_bytes act = false

-- the act that may change what was written
abbrev pub writes_bytes : Act → Bool
writes_bytes (Wrote q bytes) = true
writes_bytes act = false

-- the act that may change whether an end came
abbrev pub meets_end : Act → Bool
meets_end (ReadEnd q) = true
meets_end act = false

-- the act that may change whether an empty datagram came
abbrev pub meets_empty : Act → Bool
meets_empty (ReadEmpty q) = true
meets_empty act = false

-- the acts that may change when an end was passed on
abbrev pub passes_end : Act → Bool
passes_end (Shut q way) = true
passes_end (ShutFault q way) = true
passes_end act = false

-- the act that may change when a read failed
abbrev pub fails_to_read : Act → Bool
fails_to_read (ReadFault q) = true
fails_to_read act = false

-- the act that may change when a write failed
abbrev pub fails_to_write : Act → Bool
fails_to_write (WriteFault q) = true
fails_to_write act = false

-- the acts that may change which failure was the first
abbrev pub fails_to_transfer : Act → Bool
fails_to_transfer (ReadFault q) = true
fails_to_transfer (WriteFault q) = true
fails_to_transfer act = false

-- the acts that may change whether a place was woken
abbrev pub wakes_or_unsettles : Act → Bool
wakes_or_unsettles (Turn until at ready stop) = true
wakes_or_unsettles (OpenLater q) = true
wakes_or_unsettles act = false

-- the acts that may change whether a stop was said
abbrev pub turns_or_closes : Act → Bool
turns_or_closes (Turn until at ready stop) = true
turns_or_closes (Closed q why) = true
turns_or_closes act = false

-- the acts that may change whether a child was reaped since the last closing
abbrev pub closes_or_reaps : Act → Bool
closes_or_reaps (Closed q why) = true
closes_or_reaps (Reaped q end) = true
closes_or_reaps act = false

-- these arm or disarm

-- the acts that may change how an input is armed
abbrev pub arms_to_read : Act → Bool
arms_to_read (Turn until at ready stop) = true
arms_to_read (Opened q) = true
arms_to_read (Accepted q peer) = true
arms_to_read (ReadEnd q) = true
arms_to_read (ReadNotYet q) = true
arms_to_read act = false

-- the acts that may change whether an output is armed
abbrev pub arms_to_write : Act → Bool
arms_to_write (Turn until at ready stop) = true
arms_to_write (Opened q) = true
arms_to_write (Accepted q peer) = true
arms_to_write (WriteNotYet q) = true
arms_to_write act = false

-- the acts that may change whether a door is armed
abbrev pub arms_to_accept : Act → Bool
arms_to_accept (Turn until at ready stop) = true
arms_to_accept (Listening q) = true
arms_to_accept (NoPeer q) = true
arms_to_accept act = false

-- a turn forgets what was asked, and so does a read of bytes for its output

-- the acts that may change whether an input was asked since the last turn
abbrev pub asks_to_read : Act → Bool
asks_to_read (Turn until at ready stop) = true
asks_to_read (Read q bytes) = true
asks_to_read (ReadEmpty q) = true
asks_to_read (ReadEnd q) = true
asks_to_read (ReadNotYet q) = true
asks_to_read (ReadFault q) = true
asks_to_read act = false

-- the acts that may change whether an output was asked since the last turn
abbrev pub asks_to_write : Act → Bool
asks_to_write (Turn until at ready stop) = true
asks_to_write (Read q bytes) = true
asks_to_write (Wrote q bytes) = true
asks_to_write (WriteNotYet q) = true
asks_to_write (WriteFault q) = true
asks_to_write act = false

-- the acts that may change whether a door was asked since the last turn
abbrev pub asks_to_accept : Act → Bool
asks_to_accept (Turn until at ready stop) = true
asks_to_accept (Accepted q peer) = true
asks_to_accept (NoPeer q) = true
asks_to_accept (AcceptFailed q) = true
asks_to_accept act = false

-- the acts that may change when a session last moved
abbrev pub moves_session : Act → Bool
moves_session (Opened q) = true
moves_session (Accepted q peer) = true
moves_session (Read q bytes) = true
moves_session (Wrote q bytes) = true
moves_session act = false

-- the act that may change how many peers were permitted
abbrev pub meets_peer : Act → Bool
meets_peer (Accepted q peer) = true
meets_peer act = false

-- the act is a turn, which may name any place and any door, or it is at this one
abbrev pub names_or_is_at : Act → Place → Bool
names_or_is_at act p = is_turn act || is_at act p

-- the act is at one of these
abbrev pub is_among : Act → List Place → Bool
is_among act ps = list_any (λ p. is_at act p) ps

-- what an act leaves: all but what an act of its kind changes, and that everywhere else
pub record Leaves (act : Act) (past : List Act) : Type 0 where
  -- the clock, and what was said to all
  pub now_same : is_turn act ≡ false → now (act ∷ past) ≡ now past
  pub turns_same : is_turn act ≡ false → turns (act ∷ past) ≡ turns past
  pub stop_said_same : turns_or_closes act ≡ false → stop_said (act ∷ past) ≡ stop_said past
  pub memory_said_same : is_closing act ≡ false → memory_said (act ∷ past) ≡ memory_said past
  -- a place's or door's opening, holding and closing
  pub stage_same : (p : Place) → (opens_or_closes act && is_at act p) ≡ false → stage (act ∷ past) p ≡ stage past p
  pub standing_same : (p : Place) → (opens_shuts_or_closes act && is_at act p) ≡ false → standing (act ∷ past) p ≡ standing past p
  pub failures_same : (p : Place) → (fails_to_open act && is_at act p) ≡ false → failures (act ∷ past) p ≡ failures past p
  pub woken_same : (p : Place) → (wakes_or_unsettles act && names_or_is_at act p) ≡ false → woken (act ∷ past) p ≡ woken past p
  pub accept_failed_same : (d : Place) → (fails_to_accept act && is_at act d) ≡ false → accept_failed (act ∷ past) d ≡ accept_failed past d
  pub was_closed_same : (p : Place) → (is_closing act && is_at act p) ≡ false → was_closed (act ∷ past) p ≡ was_closed past p
  pub was_reaped_same : (p : Place) → (reaps act && is_at act p) ≡ false → was_reaped (act ∷ past) p ≡ was_reaped past p
  pub reaped_since_same : (p : Place) → (closes_or_reaps act && is_at act p) ≡ false → reaped_since (act ∷ past) p ≡ reaped_since past p
  -- what was read and written at a place, and how these ended
  pub got_same : (p : Place) → (reads_bytes act && is_at act p) ≡ false → got (act ∷ past) p ≡ got past p
  pub put_same : (p : Place) → (writes_bytes act && is_at act p) ≡ false → put (act ∷ past) p ≡ put past p
  pub sent_same : (p : Place) → (writes_bytes act && is_at act p) ≡ false → sent (act ∷ past) p ≡ sent past p
  pub met_end_same : (p : Place) → (meets_end act && is_at act p) ≡ false → met_end (act ∷ past) p ≡ met_end past p
  pub met_empty_same : (p : Place) → (meets_empty act && is_at act p) ≡ false → met_empty (act ∷ past) p ≡ met_empty past p
  pub shut_at_same : (p : Place) → (passes_end act && is_at act p) ≡ false → shut_at (act ∷ past) p ≡ shut_at past p
  pub read_fault_at_same : (p : Place) → (fails_to_read act && is_at act p) ≡ false → read_fault_at (act ∷ past) p ≡ read_fault_at past p
  pub write_fault_at_same : (p : Place) → (fails_to_write act && is_at act p) ≡ false → write_fault_at (act ∷ past) p ≡ write_fault_at past p
  -- what may be asked of a place or door, and what was
  pub read_arming_same : (p : Place) → (arms_to_read act && names_or_is_at act p) ≡ false → read_arming (act ∷ past) p ≡ read_arming past p
  pub armed_to_write_same : (p : Place) → (arms_to_write act && names_or_is_at act p) ≡ false → armed_to_write (act ∷ past) p ≡ armed_to_write past p
  pub armed_to_accept_same : (d : Place) → (arms_to_accept act && names_or_is_at act d) ≡ false → armed_to_accept (act ∷ past) d ≡ armed_to_accept past d
  pub asked_to_read_same : (p : Place) → (asks_to_read act && names_or_is_at act p) ≡ false → asked_to_read (act ∷ past) p ≡ asked_to_read past p
  pub asked_to_write_same : (i o : Place) → (asks_to_write act && (is_turn act || is_at act i || is_at act o)) ≡ false → asked_to_write (act ∷ past) i o ≡ asked_to_write past i o
  -- an accepting is at the place of its peer, and not at the door that it asks
  pub asked_to_accept_same : (c : Config) (d : Place) → asks_to_accept act ≡ false → asked_to_accept c (act ∷ past) d ≡ asked_to_accept c past d
  -- a session's pieces, its last move, and how it ended
  pub due_pieces_same : (c : Config) (s : ℕ) (w : Way) → (reads_bytes act && is_at act (input c s w)) ≡ false → due_pieces c (act ∷ past) s w ≡ due_pieces c past s w
  pub moved_same : (c : Config) (s : ℕ) → (moves_session act && is_among act (places c s)) ≡ false → moved_at c (act ∷ past) s ≡ moved_at c past s
  pub closed_why_same : (c : Config) (s : ℕ) → (is_closing act && is_among act (things c s)) ≡ false → closed_why c (act ∷ past) s ≡ closed_why c past s
  pub first_fault_same : (c : Config) (s : ℕ) → (fails_to_transfer act && is_among act (places c s)) ≡ false → first_fault c (act ∷ past) s ≡ first_fault c past s
  -- the peers that were permitted; with `fork` one at any left place is counted
  pub admitted_same : (c : Config) → meets_peer act ≡ false → admitted c (act ∷ past) ≡ admitted c past

-- the step laws: what each kind of act leaves, and where
abbrev pub StepsLeave : Type 0
StepsLeave = (act : Act) (past : List Act) → Leaves act past

-- ---- sessions

-- the act is at no place or door of the session
abbrev pub IsForeign : Config → ℕ → Act → Type 0
IsForeign c s act = (p : Place) → p.session ≡ s → is_program_door c p ≡ false → is_at act p ≡ false

-- the acts that are every session's: turns, closings for a stop or for want of memory, and a failed accepting at the
-- program door
abbrev pub is_common : Config → Act → Bool
is_common c (Turn until at ready stop) = true
is_common c (AcceptFailed q) = is_program_door c q
is_common c (Closed q why) = same_why why whys.Stopped || same_why why whys.Memory
is_common c act = false

-- two lists of acts say the same of a session
pub record SameSession (c : Config) (s : ℕ) (one other : List Act) : Type 0 where
  -- its places and doors
  pub places_same : (p : Place) → p.session ≡ s → is_program_door c p ≡ false → SameAt p one other
  pub holds_same : holds c one s ≡ holds c other s
  -- whether it lives, how it stands, and what is done next
  pub live_same : live c one s ≡ live c other s
  pub ready_same : ready c one s ≡ ready c other s
  pub cause_same : cause c one s ≡ cause c other s
  pub call_same : call c one s ≡ call c other s
  pub running_same : running c one s ≡ running c other s
  -- its moments, and its work
  pub moved_same : moved_at c one s ≡ moved_at c other s
  pub closing_moment_same : closing_moment c one s ≡ closing_moment c other s
  pub idle_moment_same : idle_moment c one s ≡ idle_moment c other s
  pub session_work_same : session_work c one s ≡ session_work c other s
  pub session_moment_same : session_moment c one s ≡ session_moment c other s
  -- what was asked, and the pieces that are due
  pub asked_to_write_same : (w : Way) → asked_to_write one (input c s w) (output c s w) ≡ asked_to_write other (input c s w) (output c s w)
  pub asked_to_accept_same : (d : Place) → d.session ≡ s → is_program_door c d ≡ false → asked_to_accept c one d ≡ asked_to_accept c other d
  pub pieces_same : (w : Way) → due_pieces c one s w ≡ due_pieces c other s w

-- an act of another session or of the program door changes nothing of a session that has begun, but for the acts that
-- are every session's
abbrev pub SessionsAreApart : Type 0
SessionsAreApart =
    (c : Config) (act : Act) (past : List Act) (s : ℕ) → s < numbers c past → IsForeign c s act → is_common c act ≡ false →
    SameSession c s (act ∷ past) past
