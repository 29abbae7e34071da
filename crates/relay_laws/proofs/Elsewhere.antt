-- What each kind of act leaves, and what it changes; an act elsewhere changes nothing that is said of a place or door.
use Rattle.std.proofs.Common.{◌≡◌, refl, ap, ◌∙◌, ℕ, true, false, not, cond, ◌&&◌, ◌||◌, List, [], ◌∷◌, Option, Some, None}
use Rattle.std.proofs.lemmas.Bool.{true≢false, and_right, or_from, or_parts}
use Rattle.relay_model.specs.declared.places.Half.TheVariants.{ToRead, ToWrite}
use Rattle.relay_model.specs.declared.places.Way.{Way}
use Rattle.relay_model.specs.declared.places.Place.{Place}
use Rattle.relay_model.specs.declared.commands.Config.{Config}
use Rattle.relay_model.specs.declared.acts.Act.{Act}
use Rattle.relay_model.specs.declared.acts.Act.TheVariants.{Turn, Opened, OpenLater, OpenFailed, Listening, ListenFailed, Accepted, NoPeer, AcceptFailed, Read, ReadEmpty, ReadEnd, ReadNotYet, ReadFault, Wrote, WriteNotYet, WriteFault, Shut, ShutFault, Closed, Reaped}
use Rattle.relay_model.specs.Places.{same_place}
use Rattle.relay_model.specs.Choices.{joined, noted, only_if, or_else}
use Rattle.relay_model.specs.Holding.{Free, Settling, Open, ShutDown, standing}
use Rattle.relay_model.specs.Configs.{input, places, things}
use Rattle.relay_model.specs.History.{now, turns, stop_said, memory_said, stage, failures, woken, accept_failed, was_closed, was_reaped, reaped_since, got, put, sent, met_end, met_empty, shut_at, read_fault_at, write_fault_at}
use Rattle.relay_model.specs.declared.stages.Stage.TheVariants.{Usable, Unsettled, Failed, Met, Waiting, Gone}
use Rattle.relay_model.specs.Arming.{read_arming, armed_to_write, armed_to_accept, asked_to_read, asked_to_write, asked_to_accept}
use Rattle.relay_model.specs.declared.armings.Arming.TheVariants.{Disarmed, Armed, AtEnd}
use Rattle.relay_model.specs.Sessions.{admitted}
use Rattle.relay_model.specs.Transfers.{due_part, due_pieces, is_empty}
use Rattle.relay_model.specs.Moments.{moved_at}
use Rattle.relay_model.specs.Cause.{closed_why, is_end}
use Rattle.relay_model.specs.Outcome.{first_fault}
use Rattle.relay_model.specs.declared.outcomes.RunOutcome.{RunOutcome}
use Rattle.relay_model.specs.declared.outcomes.RunOutcome.TheVariants.{Faulted}
use Rattle.relay_model.specs.Frames.{is_at, is_turn, is_among, names_or_is_at, SameAt, Leaves, opens_or_closes, opens_shuts_or_closes, fails_to_open, fails_to_accept, fails_to_transfer, is_closing, reaps, closes_or_reaps, reads_bytes, writes_bytes, meets_end, meets_empty, passes_end, fails_to_read, fails_to_write, wakes_or_unsettles, turns_or_closes, arms_to_read, arms_to_write, arms_to_accept, asks_to_read, asks_to_write, asks_to_accept, moves_session, meets_peer}

impossible : {P : Type 0} → true ≡ false → P
impossible e = absurd (true≢false e)

-- ---- what is left

now_left : (act : Act) (past : List Act) → is_turn act ≡ false → now (act ∷ past) ≡ now past
now_left (Turn until at ready stop) past e = impossible e
now_left act past e = refl

turns_left : (act : Act) (past : List Act) → is_turn act ≡ false → turns (act ∷ past) ≡ turns past
turns_left (Turn until at ready stop) past e = impossible e
turns_left act past e = refl

stop_said_left : (act : Act) (past : List Act) → turns_or_closes act ≡ false → stop_said (act ∷ past) ≡ stop_said past
stop_said_left (Turn until at ready stop) past e = impossible e
stop_said_left (Closed q why) past e = impossible e
stop_said_left act past e = refl

memory_said_left : (act : Act) (past : List Act) → is_closing act ≡ false → memory_said (act ∷ past) ≡ memory_said past
memory_said_left (Closed q why) past e = impossible e
memory_said_left act past e = refl

stage_left : (act : Act) (past : List Act) (p : Place) → (opens_or_closes act && is_at act p) ≡ false → stage (act ∷ past) p ≡ stage past p
stage_left (Opened q) past p e = ap (λ b. cond b Usable (stage past p)) e
stage_left (OpenLater q) past p e = ap (λ b. cond b Unsettled (stage past p)) e
stage_left (OpenFailed q) past p e = ap (λ b. cond b Failed (stage past p)) e
stage_left (Listening q) past p e = ap (λ b. cond b Waiting (stage past p)) e
stage_left (ListenFailed q) past p e = ap (λ b. cond b Failed (stage past p)) e
stage_left (Accepted q peer) past p e = ap (λ b. cond b (Met peer) (stage past p)) e
stage_left (Closed q why) past p e = ap (λ b. cond b (Gone why) (stage past p)) e
stage_left act past p e = refl

standing_left : (act : Act) (past : List Act) (p : Place) → (opens_shuts_or_closes act && is_at act p) ≡ false → standing (act ∷ past) p ≡ standing past p
standing_left (Opened q) past p e = ap (λ b. cond b Open (standing past p)) e
standing_left (OpenLater q) past p e = ap (λ b. cond b Settling (standing past p)) e
standing_left (OpenFailed q) past p e = ap (λ b. cond b Free (standing past p)) e
standing_left (Listening q) past p e = ap (λ b. cond b Open (standing past p)) e
standing_left (ListenFailed q) past p e = ap (λ b. cond b Free (standing past p)) e
standing_left (Accepted q peer) past p e = ap (λ b. cond b Open (standing past p)) e
standing_left (Shut q way) past p e = ap (λ b. cond b ShutDown (standing past p)) e
standing_left (ShutFault q way) past p e = ap (λ b. cond b ShutDown (standing past p)) e
standing_left (Closed q why) past p e = ap (λ b. cond b Free (standing past p)) e
standing_left act past p e = refl

failures_left : (act : Act) (past : List Act) (p : Place) → (fails_to_open act && is_at act p) ≡ false → failures (act ∷ past) p ≡ failures past p
failures_left (OpenFailed q) past p e = ap (λ b. noted b (now past) (failures past p)) e
failures_left (ListenFailed q) past p e = ap (λ b. noted b (now past) (failures past p)) e
failures_left act past p e = refl

woken_left : (act : Act) (past : List Act) (p : Place) → (wakes_or_unsettles act && names_or_is_at act p) ≡ false → woken (act ∷ past) p ≡ woken past p
woken_left (Turn until at ready stop) past p e = impossible e
woken_left (OpenLater q) past p e = ap (λ b. not b && woken past p) e
woken_left act past p e = refl

accept_failed_left : (act : Act) (past : List Act) (p : Place) → (fails_to_accept act && is_at act p) ≡ false → accept_failed (act ∷ past) p ≡ accept_failed past p
accept_failed_left (AcceptFailed q) past p e = ap (λ b. b || accept_failed past p) e
accept_failed_left act past p e = refl

was_closed_left : (act : Act) (past : List Act) (p : Place) → (is_closing act && is_at act p) ≡ false → was_closed (act ∷ past) p ≡ was_closed past p
was_closed_left (Closed q why) past p e = ap (λ b. b || was_closed past p) e
was_closed_left act past p e = refl

was_reaped_left : (act : Act) (past : List Act) (p : Place) → (reaps act && is_at act p) ≡ false → was_reaped (act ∷ past) p ≡ was_reaped past p
was_reaped_left (Reaped q end) past p e = ap (λ b. b || was_reaped past p) e
was_reaped_left act past p e = refl

reaped_since_left : (act : Act) (past : List Act) (p : Place) → (closes_or_reaps act && is_at act p) ≡ false → reaped_since (act ∷ past) p ≡ reaped_since past p
reaped_since_left (Closed q why) past p e = ap (λ b. not b && reaped_since past p) e
reaped_since_left (Reaped q end) past p e = ap (λ b. b || reaped_since past p) e
reaped_since_left act past p e = refl

got_left : (act : Act) (past : List Act) (p : Place) → (reads_bytes act && is_at act p) ≡ false → got (act ∷ past) p ≡ got past p
got_left (Read q bytes) past p e = ap (λ b. joined b (got past p) bytes) e
got_left act past p e = refl

put_left : (act : Act) (past : List Act) (p : Place) → (writes_bytes act && is_at act p) ≡ false → put (act ∷ past) p ≡ put past p
put_left (Wrote q bytes) past p e = ap (λ b. joined b (put past p) bytes) e
put_left act past p e = refl

sent_left : (act : Act) (past : List Act) (p : Place) → (writes_bytes act && is_at act p) ≡ false → sent (act ∷ past) p ≡ sent past p
sent_left (Wrote q bytes) past p e = ap (λ b. joined b (sent past p) (bytes ∷ [])) e
sent_left act past p e = refl

met_end_left : (act : Act) (past : List Act) (p : Place) → (meets_end act && is_at act p) ≡ false → met_end (act ∷ past) p ≡ met_end past p
met_end_left (ReadEnd q) past p e = ap (λ b. b || met_end past p) e
met_end_left act past p e = refl

met_empty_left : (act : Act) (past : List Act) (p : Place) → (meets_empty act && is_at act p) ≡ false → met_empty (act ∷ past) p ≡ met_empty past p
met_empty_left (ReadEmpty q) past p e = ap (λ b. b || met_empty past p) e
met_empty_left act past p e = refl

shut_at_left : (act : Act) (past : List Act) (p : Place) → (passes_end act && is_at act p) ≡ false → shut_at (act ∷ past) p ≡ shut_at past p
shut_at_left (Shut q way) past p e = ap (λ b. cond b (Some (now past)) (shut_at past p)) e
shut_at_left (ShutFault q way) past p e = ap (λ b. cond b (Some (now past)) (shut_at past p)) e
shut_at_left act past p e = refl

read_fault_at_left : (act : Act) (past : List Act) (p : Place) → (fails_to_read act && is_at act p) ≡ false → read_fault_at (act ∷ past) p ≡ read_fault_at past p
read_fault_at_left (ReadFault q) past p e = ap (λ b. cond b (Some (now past)) (read_fault_at past p)) e
read_fault_at_left act past p e = refl

write_fault_at_left : (act : Act) (past : List Act) (p : Place) → (fails_to_write act && is_at act p) ≡ false → write_fault_at (act ∷ past) p ≡ write_fault_at past p
write_fault_at_left (WriteFault q) past p e = ap (λ b. cond b (Some (now past)) (write_fault_at past p)) e
write_fault_at_left act past p e = refl

read_arming_left : (act : Act) (past : List Act) (p : Place) → (arms_to_read act && names_or_is_at act p) ≡ false → read_arming (act ∷ past) p ≡ read_arming past p
read_arming_left (Turn until at ready stop) past p e = impossible e
read_arming_left (Opened q) past p e = ap (λ b. cond b Armed (read_arming past p)) e
read_arming_left (Accepted q peer) past p e = ap (λ b. cond b Armed (read_arming past p)) e
read_arming_left (ReadNotYet q) past p e = ap (λ b. cond b Disarmed (read_arming past p)) e
read_arming_left (ReadEnd q) past p e = ap (λ b. cond b (AtEnd (now past)) (read_arming past p)) e
read_arming_left act past p e = refl

armed_to_write_left : (act : Act) (past : List Act) (p : Place) → (arms_to_write act && names_or_is_at act p) ≡ false → armed_to_write (act ∷ past) p ≡ armed_to_write past p
armed_to_write_left (Turn until at ready stop) past p e = impossible e
armed_to_write_left (Opened q) past p e = ap (λ b. b || armed_to_write past p) e
armed_to_write_left (Accepted q peer) past p e = ap (λ b. b || armed_to_write past p) e
armed_to_write_left (WriteNotYet q) past p e = ap (λ b. not b && armed_to_write past p) e
armed_to_write_left act past p e = refl

armed_to_accept_left : (act : Act) (past : List Act) (p : Place) → (arms_to_accept act && names_or_is_at act p) ≡ false → armed_to_accept (act ∷ past) p ≡ armed_to_accept past p
armed_to_accept_left (Turn until at ready stop) past p e = impossible e
armed_to_accept_left (Listening q) past p e = ap (λ b. b || armed_to_accept past p) e
armed_to_accept_left (NoPeer q) past p e = ap (λ b. not b && armed_to_accept past p) e
armed_to_accept_left act past p e = refl

asked_to_read_left : (act : Act) (past : List Act) (p : Place) → (asks_to_read act && names_or_is_at act p) ≡ false → asked_to_read (act ∷ past) p ≡ asked_to_read past p
asked_to_read_left (Turn until at ready stop) past p e = impossible e
asked_to_read_left (Read q bytes) past p e = ap (λ b. b || asked_to_read past p) e
asked_to_read_left (ReadEmpty q) past p e = ap (λ b. b || asked_to_read past p) e
asked_to_read_left (ReadEnd q) past p e = ap (λ b. b || asked_to_read past p) e
asked_to_read_left (ReadNotYet q) past p e = ap (λ b. b || asked_to_read past p) e
asked_to_read_left (ReadFault q) past p e = ap (λ b. b || asked_to_read past p) e
asked_to_read_left act past p e = refl

asked_to_write_left : (act : Act) (past : List Act) (i o : Place) → (asks_to_write act && (is_turn act || is_at act i || is_at act o)) ≡ false → asked_to_write (act ∷ past) i o ≡ asked_to_write past i o
asked_to_write_left (Turn until at ready stop) past i o e = impossible e
asked_to_write_left (Read q bytes) past i o e = ap (λ b. not b && asked_to_write past i o) (or_parts (same_place q i) (same_place q o) e).0
asked_to_write_left (Wrote q bytes) past i o e = ap (λ b. b || asked_to_write past i o) (or_parts (same_place q i) (same_place q o) e).1
asked_to_write_left (WriteNotYet q) past i o e = ap (λ b. b || asked_to_write past i o) (or_parts (same_place q i) (same_place q o) e).1
asked_to_write_left (WriteFault q) past i o e = ap (λ b. b || asked_to_write past i o) (or_parts (same_place q i) (same_place q o) e).1
asked_to_write_left act past i o e = refl

asked_to_accept_left : (act : Act) (past : List Act) (c : Config) (d : Place) → asks_to_accept act ≡ false → asked_to_accept c (act ∷ past) d ≡ asked_to_accept c past d
asked_to_accept_left (Turn until at ready stop) past c d e = impossible e
asked_to_accept_left (Accepted q peer) past c d e = impossible e
asked_to_accept_left (NoPeer q) past c d e = impossible e
asked_to_accept_left (AcceptFailed q) past c d e = impossible e
asked_to_accept_left act past c d e = refl

pub due_pieces_left : (act : Act) (past : List Act) (c : Config) (s : ℕ) (w : Way) → (reads_bytes act && is_at act (input c s w)) ≡ false → due_pieces c (act ∷ past) s w ≡ due_pieces c past s w
due_pieces_left (Read q bytes) past c s w e = λ i. joined (e i && not (is_empty (due_part c w (got past (input c s w)) bytes))) (due_pieces c past s w) (due_part c w (got past (input c s w)) bytes ∷ [])
due_pieces_left act past c s w e = refl

moved_left : (act : Act) (past : List Act) (c : Config) (s : ℕ) → (moves_session act && is_among act (places c s)) ≡ false → moved_at c (act ∷ past) s ≡ moved_at c past s
moved_left (Opened q) past c s e = λ i. cond (e i) (now past) (moved_at c past s)
moved_left (Accepted q peer) past c s e = λ i. cond (e i) (now past) (moved_at c past s)
moved_left (Read q bytes) past c s e = λ i. cond (e i) (now past) (moved_at c past s)
moved_left (Wrote q bytes) past c s e = λ i. cond (e i) (now past) (moved_at c past s)
moved_left act past c s e = refl

closed_why_left : (act : Act) (past : List Act) (c : Config) (s : ℕ) → (is_closing act && is_among act (things c s)) ≡ false → closed_why c (act ∷ past) s ≡ closed_why c past s
closed_why_left (Closed q why) past c s e = λ i. cond (e i && is_end q why) (Some why) (closed_why c past s)
closed_why_left act past c s e = refl

or_none : (answer : Option RunOutcome) → or_else answer None ≡ answer
or_none None = refl
or_none (Some x) = refl

first_fault_left : (act : Act) (past : List Act) (c : Config) (s : ℕ) → (fails_to_transfer act && is_among act (places c s)) ≡ false → first_fault c (act ∷ past) s ≡ first_fault c past s
first_fault_left (ReadFault q) past c s e = ap (λ b. or_else (first_fault c past s) (only_if b (Faulted q ToRead))) e ∙ or_none (first_fault c past s)
first_fault_left (WriteFault q) past c s e = ap (λ b. or_else (first_fault c past s) (only_if b (Faulted q ToWrite))) e ∙ or_none (first_fault c past s)
first_fault_left act past c s e = refl

admitted_left : (act : Act) (past : List Act) (c : Config) → meets_peer act ≡ false → admitted c (act ∷ past) ≡ admitted c past
admitted_left (Accepted q peer) past c e = impossible e
admitted_left act past c e = refl

pub steps_leave : (act : Act) (past : List Act) → Leaves act past
steps_leave act past = record {
  now_same = now_left act past;
  turns_same = turns_left act past;
  stop_said_same = stop_said_left act past;
  memory_said_same = memory_said_left act past;
  stage_same = stage_left act past;
  standing_same = standing_left act past;
  failures_same = failures_left act past;
  woken_same = woken_left act past;
  accept_failed_same = accept_failed_left act past;
  was_closed_same = was_closed_left act past;
  was_reaped_same = was_reaped_left act past;
  reaped_since_same = reaped_since_left act past;
  got_same = got_left act past;
  put_same = put_left act past;
  sent_same = sent_left act past;
  met_end_same = met_end_left act past;
  met_empty_same = met_empty_left act past;
  shut_at_same = shut_at_left act past;
  read_fault_at_same = read_fault_at_left act past;
  write_fault_at_same = write_fault_at_left act past;
  read_arming_same = read_arming_left act past;
  armed_to_write_same = armed_to_write_left act past;
  armed_to_accept_same = armed_to_accept_left act past;
  asked_to_read_same = asked_to_read_left act past;
  asked_to_write_same = asked_to_write_left act past;
  asked_to_accept_same = asked_to_accept_left act past;
  due_pieces_same = due_pieces_left act past;
  moved_same = moved_left act past;
  closed_why_same = closed_why_left act past;
  first_fault_same = first_fault_left act past;
  admitted_same = admitted_left act past;
}

-- ---- an act elsewhere

pub elsewhere : (act : Act) (past : List Act) (p : Place) → is_turn act ≡ false → is_at act p ≡ false → SameAt p (act ∷ past) past
elsewhere act past p t e =
    let left = steps_leave act past in
    let away = or_from (is_turn act) (is_at act p) t e in
    record {
      stage_same = left.stage_same p (and_right (opens_or_closes act) (is_at act p) e);
      failures_same = left.failures_same p (and_right (fails_to_open act) (is_at act p) e);
      woken_same = left.woken_same p (and_right (wakes_or_unsettles act) (names_or_is_at act p) away);
      accept_failed_same = left.accept_failed_same p (and_right (fails_to_accept act) (is_at act p) e);
      was_closed_same = left.was_closed_same p (and_right (is_closing act) (is_at act p) e);
      was_reaped_same = left.was_reaped_same p (and_right (reaps act) (is_at act p) e);
      reaped_since_same = left.reaped_since_same p (and_right (closes_or_reaps act) (is_at act p) e);
      got_same = left.got_same p (and_right (reads_bytes act) (is_at act p) e);
      put_same = left.put_same p (and_right (writes_bytes act) (is_at act p) e);
      sent_same = left.sent_same p (and_right (writes_bytes act) (is_at act p) e);
      met_end_same = left.met_end_same p (and_right (meets_end act) (is_at act p) e);
      met_empty_same = left.met_empty_same p (and_right (meets_empty act) (is_at act p) e);
      shut_at_same = left.shut_at_same p (and_right (passes_end act) (is_at act p) e);
      read_fault_at_same = left.read_fault_at_same p (and_right (fails_to_read act) (is_at act p) e);
      write_fault_at_same = left.write_fault_at_same p (and_right (fails_to_write act) (is_at act p) e);
      read_arming_same = left.read_arming_same p (and_right (arms_to_read act) (names_or_is_at act p) away);
      armed_to_write_same = left.armed_to_write_same p (and_right (arms_to_write act) (names_or_is_at act p) away);
      armed_to_accept_same = left.armed_to_accept_same p (and_right (arms_to_accept act) (names_or_is_at act p) away);
      asked_to_read_same = left.asked_to_read_same p (and_right (asks_to_read act) (names_or_is_at act p) away);
    }
