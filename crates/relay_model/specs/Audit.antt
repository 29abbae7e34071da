-- What may come and what rests, as tests that compute, so that a whole journal is judged by computing alone.
use Rattle.std.specs.Prelude.{count_by, ℕ, zero, suc, ◌+◌, Bool, true, false, not, ◌&&◌, ◌||◌, ◌==◌, nat_lt, nat_le, List, [], ◌∷◌, ◌++◌, length, Option, Some, None, is_some, is_none}
use Rattle.relay_model.specs.declared.places.Way.{Way}
use Rattle.relay_model.specs.declared.places.Way.TheVariants.{LeftToRight, RightToLeft}
use Rattle.relay_model.specs.declared.places.Place.{Place}
use Rattle.relay_model.specs.declared.commands.Config.{Config}
use Rattle.relay_model.specs.declared.acts.Why.{Why}
use Rattle.relay_model.specs.declared.acts.Why.TheVariants as whys
use Rattle.relay_model.specs.declared.acts.Shut.{Shut as Shutting}
use Rattle.relay_model.specs.declared.acts.Shut.TheVariants as shuts
use Rattle.relay_model.specs.declared.acts.Act.{Act}
use Rattle.relay_model.specs.declared.acts.Act.TheVariants.{Turn, Opened, OpenLater, OpenFailed, Listening, ListenFailed, Accepted, NoPeer, AcceptFailed, Read, ReadEmpty, ReadEnd, ReadNotYet, ReadFault, Wrote, WriteNotYet, WriteFault, Shut, ShutFault, Closed, Reaped, Note, NoteFault}
use Rattle.relay_model.specs.Places.{same_place}
use Rattle.relay_model.specs.Choices.{each_below, one_more}
use Rattle.relay_model.specs.Configs.{input, output, things, way_from, way_to, is_program_door, program_door, has_fork, medium_of, is_program, keeps_borders, how}
use Rattle.relay_model.specs.History.{turns, held, got, put, sent, stop_said, memory_said, accept_failed, was_closed, was_reaped, same_why}
use Rattle.relay_model.specs.Arming.{armed_to_read, armed_to_write, asked_to_read, asked_to_write, asked_to_accept}
use Rattle.relay_model.specs.Sessions.{holds, numbers}
use Rattle.relay_model.specs.Transfers.{due, due_pieces, over, backlog, greatest_read, is_spent}
use Rattle.relay_model.specs.Moments.{passed}
use Rattle.relay_model.specs.declared.calls.Call.{Call}
use Rattle.relay_model.specs.declared.calls.Call.TheVariants.{Open, Settle, Listen, Accept, Refuse, Serve}
use Rattle.relay_model.specs.Cause.{cause, closed_why}
use Rattle.relay_model.specs.Calls.{called_at, call, door_call, door_cut}
use Rattle.relay_model.specs.Outcome.{outcome}
use Rattle.relay_model.specs.Rest.{owed, is_going, owes_read, owes_write, must_pass, presses, until_of}

-- the second test holds, or the first doesn't
abbrev pub implies : Bool → Bool → Bool
implies true b = b
implies false b = true

-- where a call is for an accepting, that was tried at its door since the last turn
abbrev pub accept_tried : Config → List Act → Call → Bool
accept_tried c past (Accept door place) = asked_to_accept c past door
accept_tried c past other = true

-- what is armed and worth asking of a direction was asked since the last turn, and an end that is due was passed
abbrev pub way_rests : Config → List Act → ℕ → Way → Bool
way_rests c past s w =
    implies (owes_read c past s w) (asked_to_read past (input c s w))
    && implies (owes_write c past s w) (asked_to_write past (input c s w) (output c s w))
    && not (must_pass c past s w)

-- a session with a cause holds nothing, nothing is called for at once, and its directions rest
abbrev pub session_rests : Config → List Act → ℕ → Bool
session_rests c past s =
    implies (is_some (cause c past s)) (not (holds c past s))
    && not (presses (call c past s))
    && way_rests c past s LeftToRight
    && way_rests c past s RightToLeft
    && accept_tried c past (call c past s)

-- a program door that is cut is closed, it calls for nothing at once, and an accepting was tried
abbrev pub door_rests : Config → List Act → Bool
door_rests c past =
    implies (has_fork c && door_cut past) (not (held past program_door))
    && not (presses (door_call c past))
    && accept_tried c past (door_call c past)

-- a wait is in order, as a test
abbrev pub rests : Config → List Act → Bool
rests c past = is_none (outcome c past) && is_none (owed c past) && door_rests c past && each_below (session_rests c past) (suc (numbers c past))

-- whether two moments are the same, or both none
abbrev pub same_number : Option ℕ → Option ℕ → Bool
same_number None None = true
same_number (Some m) (Some n) = m == n
same_number one other = false

-- whether two lists of numbers are the same
abbrev pub same_list : List ℕ → List ℕ → Bool
same_list [] [] = true
same_list (x ∷ xs) (y ∷ ys) = x == y && same_list xs ys
same_list one other = false

-- whether a text that may be owed is this one
abbrev pub same_text : Option (List ℕ) → List ℕ → Bool
same_text None text = false
same_text (Some one) other = same_list one other

-- whether the first list is the beginning of the second
abbrev pub begins : List ℕ → List ℕ → Bool
begins [] list = true
begins (x ∷ xs) [] = false
begins (x ∷ xs) (y ∷ ys) = x == y && begins xs ys

-- whether the first list of pieces is the beginning of the second
abbrev pub begins_pieces : List (List ℕ) → List (List ℕ) → Bool
begins_pieces [] list = true
begins_pieces (x ∷ xs) [] = false
begins_pieces (x ∷ xs) (y ∷ ys) = same_list x y && begins_pieces xs ys

-- whether two ways of passing an end are the same
abbrev pub same_shut : Shutting → Shutting → Bool
same_shut shuts.Nothing shuts.Nothing = true
same_shut shuts.Down shuts.Down = true
same_shut shuts.Close shuts.Close = true
same_shut shuts.Null shuts.Null = true
same_shut one other = false

-- the call is for opening or settling this place
abbrev pub opens : Call → Place → Bool
opens (Open p) q = same_place p q
opens (Settle p) q = same_place p q
opens other q = false

-- the call is for listening at this door
abbrev pub listens_to : Call → Place → Bool
listens_to (Listen d) q = same_place d q
listens_to other q = false

-- the call is for accepting a peer at this place
abbrev pub accepts_for : Call → Place → Bool
accepts_for (Accept d p) q = same_place p q
accepts_for other q = false

-- the call is for accepting at this door
abbrev pub accepts_at : Call → Place → Bool
accepts_at (Accept d p) q = same_place d q
accepts_at other q = false

-- the call is for closing this thing for this reason: a peer that is refused, or a door that has served
abbrev pub closes : Call → Place → Why → Bool
closes (Refuse p) q whys.Refused = same_place p q
closes (Serve d) q whys.Served = same_place d q
closes other q why = false

-- whether a place can be read at
abbrev pub may_ask : Config → List Act → Place → Bool
may_ask c past p =
    same_place p (input c p.session (way_from p.side))
    && is_going c past p.session (way_from p.side)
    && not (passed c past p.session (way_from p.side))
    && not (over c past p)
    && armed_to_read past p

-- whether so many bytes can come of a place
abbrev pub may_take : Config → List Act → Place → ℕ → Bool
may_take c past p n = may_ask c past p && nat_le 1 n && nat_le n (greatest_read c past p.session (way_from p.side))

-- whether a place can be written at
abbrev pub may_offer : Config → List Act → Place → Bool
may_offer c past p =
    same_place p (output c p.session (way_to p.side))
    && is_going c past p.session (way_to p.side)
    && not (passed c past p.session (way_to p.side))
    && armed_to_write past p

-- whether these bytes can be taken at a place
abbrev pub may_put : Config → List Act → Place → List ℕ → Bool
may_put c past p bytes =
    may_offer c past p
    && nat_le 1 (length bytes)
    && begins (put past p ++ bytes) (due c (way_to p.side) (got past (input c p.session (way_to p.side))))
    && implies (keeps_borders c (way_to p.side)) (begins_pieces (sent past p ++ bytes ∷ []) (due_pieces c past p.session (way_to p.side)))

-- whether an end may be passed on at a place in this way
abbrev pub may_shut : Config → List Act → Place → Shutting → Bool
may_shut c past p way =
    same_place p (output c p.session (way_to p.side))
    && is_going c past p.session (way_to p.side)
    && is_spent c past p.session (way_to p.side)
    && not (passed c past p.session (way_to p.side))
    && same_shut way (how c p)

-- whether the program door ends for this reason
abbrev pub door_ends : List Act → Why → Bool
door_ends past whys.Memory = memory_said past
door_ends past whys.Stopped = stop_said past
door_ends past whys.AcceptFailed = accept_failed past program_door
door_ends past why = false

-- whether this is the reason that a session has, if it has one
abbrev pub is_cause : Option Why → Why → Bool
is_cause None why = false
is_cause (Some one) why = same_why one why

-- whether a thing may be closed for this reason
abbrev pub may_close : Config → ℕ → List Act → Place → Why → Bool
may_close c n past q why =
    held past q
    && (not (is_program_door c q) && is_cause (cause c past q.session) why
    || closes (called_at c past q) q why
    || is_program_door c q && door_ends past why
    || same_why why whys.Memory && (is_program_door c q || is_none (closed_why c past q.session))
    || same_why why whys.Stopped && turns past == n && rests c past)
    && (is_none (owed c past) || same_why why whys.Memory)

-- a test that counts only while no dump is owed
abbrev pub timely : Config → List Act → Bool → Bool
timely c past test = is_none (owed c past) && test

-- whether an act may come after a list
abbrev pub may_come : Config → ℕ → List Act → Act → Bool
may_come c n past (Turn until at ready stop) = timely c past (nat_lt (turns past) n && rests c past && same_number until (until_of c past))
may_come c n past (Opened p) = timely c past (opens (called_at c past p) p)
may_come c n past (OpenLater p) = timely c past (opens (called_at c past p) p)
may_come c n past (OpenFailed p) = timely c past (opens (called_at c past p) p)
may_come c n past (Listening d) = timely c past (listens_to (called_at c past d) d)
may_come c n past (ListenFailed d) = timely c past (listens_to (called_at c past d) d)
may_come c n past (Accepted p peer) = timely c past (accepts_for (called_at c past p) p)
may_come c n past (NoPeer d) = timely c past (accepts_at (called_at c past d) d)
may_come c n past (AcceptFailed d) = timely c past (accepts_at (called_at c past d) d)
may_come c n past (Read p bytes) = timely c past (may_take c past p (length bytes))
may_come c n past (ReadEmpty p) = timely c past (may_take c past p 1)
may_come c n past (ReadEnd p) = timely c past (may_take c past p 1)
may_come c n past (ReadNotYet p) = timely c past (may_take c past p 1)
may_come c n past (ReadFault p) = timely c past (may_take c past p 1)
may_come c n past (Wrote p bytes) = timely c past (may_put c past p bytes)
may_come c n past (WriteNotYet p) = timely c past (may_offer c past p && nat_le 1 (backlog c past p.session (way_to p.side)))
may_come c n past (WriteFault p) = timely c past (may_offer c past p && nat_le 1 (backlog c past p.session (way_to p.side)))
may_come c n past (Shut p way) = timely c past (may_shut c past p way)
may_come c n past (ShutFault p way) = timely c past (may_shut c past p way)
may_come c n past (Closed q why) = may_close c n past q why
may_come c n past (Reaped p end) = timely c past (is_program (medium_of c p) && was_closed past p && not (was_reaped past p))
may_come c n past (Note text) = same_text (owed c past) text
may_come c n past (NoteFault text) = same_text (owed c past) text

-- the act that was found among the older ones, else this one where its test fails
abbrev pub first_of_two : ℕ → Bool → ℕ → ℕ
first_of_two (suc k) test here = suc k
first_of_two zero true here = 0
first_of_two zero false here = here

-- the place, from 1, of the first act that may not come, and 0 where each may
abbrev pub first_illegal : Config → ℕ → List Act → ℕ
first_illegal c n [] = 0
first_illegal c n (act ∷ past) = first_of_two (first_illegal c n past) (may_come c n past act) (suc (length past))

-- how many things are held
abbrev pub held_count : Config → List Act → ℕ
held_count c past = sum_below (suc (numbers c past)) + one_more (has_fork c && held past program_door) 0
  where
    sum_below : ℕ → ℕ
    sum_below zero = 0
    sum_below (suc k) = count_by (held past) (things c k) + sum_below k
