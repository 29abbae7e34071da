-- Lists of acts that say the same of a session's own go on doing so, where the same reaches the session.
use Rattle.std.proofs.Common.{◌≡◌, refl, sym, ap, ◌∙◌, ℕ, Bool, true, false, not, cond, ◌&&◌, ◌||◌, ◌==◌, List, [], ◌∷◌, Some, None}
use Rattle.std.proofs.lemmas.Bool.{true≢false, and_parts, and_from, not-true, not_from_false, eqb-true, eq-eqb, false_from_ne_true}
use Rattle.relay_model.specs.declared.places.Half.{Half}
use Rattle.relay_model.specs.declared.places.Half.TheVariants.{ToRead, ToWrite}
use Rattle.relay_model.specs.declared.places.Way.{Way}
use Rattle.relay_model.specs.declared.places.Place.{Place}
use Rattle.relay_model.specs.declared.readiness.ReadyAt.{ReadyAt}
use Rattle.relay_model.specs.declared.commands.Config.{Config}
use Rattle.relay_model.specs.declared.acts.Why.TheVariants as whys
use Rattle.relay_model.specs.declared.acts.Act.{Act}
use Rattle.relay_model.specs.declared.acts.Act.TheVariants.{Turn, Opened, OpenLater, OpenFailed, Listening, ListenFailed, Accepted, NoPeer, AcceptFailed, Read, ReadEmpty, ReadEnd, ReadNotYet, ReadFault, Wrote, WriteNotYet, WriteFault, Shut, ShutFault, Closed, Reaped}
use Rattle.relay_model.specs.Places.{same_place, same_half}
use Rattle.relay_model.specs.Readiness.{names}
use Rattle.relay_model.specs.Choices.{joined, noted}
use Rattle.relay_model.specs.Configs.{input, output, has_fork, program_door, is_program_door, is_of, is_place_of, accepting_door}
use Rattle.relay_model.specs.History.{now, stage, failures, woken, accept_failed, was_closed, was_reaped, reaped_since, got, put, sent, met_end, met_empty, shut_at, read_fault_at, write_fault_at, stop_said, memory_said, same_why}
use Rattle.relay_model.specs.declared.stages.Stage.TheVariants.{Usable, Unsettled, Failed, Met, Waiting, Gone}
use Rattle.relay_model.specs.Arming.{read_arming, armed_to_write, armed_to_accept, asked_to_read, asked_to_write, asked_to_accept}
use Rattle.relay_model.specs.declared.armings.Arming.TheVariants.{Disarmed, Armed, AtEnd}
use Rattle.relay_model.specs.Transfers.{due_part, due_pieces, is_empty}
use Rattle.relay_model.specs.Moments.{moved_at}
use Rattle.relay_model.specs.Cause.{closed_why, is_end}
use Rattle.relay_model.specs.Frames.{SameAt}
use Rattle.relay_laws.specs.Stories.{is_own_place, own_entries}
use Rattle.relay_laws.proofs.PlaceLemmas.{same_place_equal}
use Rattle.relay_laws.proofs.Apart.{Base}
use Rattle.relay_laws.proofs.OwnThings.{input_own}

-- ---- a session's own places

pub own_from : (c : Config) (s : ℕ) (p : Place) → p.session ≡ s → is_program_door c p ≡ false → is_own_place c s p ≡ true
own_from c s p e d = and_from (p.session == s) (not (is_program_door c p)) (eq-eqb p.session s e) (not_from_false (is_program_door c p) d)

pub own_is : (c : Config) (s : ℕ) (p : Place) → is_own_place c s p ≡ true → (p.session ≡ s) × (is_program_door c p ≡ false)
own_is c s p o = let a = and_parts (p.session == s) (not (is_program_door c p)) o in (eqb-true p.session s a.0, not-true (is_program_door c p) a.1)

pub apart_from : (c : Config) (s : ℕ) (q p : Place) → is_own_place c s q ≡ false → is_own_place c s p ≡ true → same_place q p ≡ false
apart_from c s q p k o = false_from_ne_true (same_place q p) (λ e. true≢false (sym o ∙ sym (ap (is_own_place c s) (same_place_equal q p e)) ∙ k))

named_again : (c : Config) (s : ℕ) (entries : List ReadyAt) (p : Place) (half : Half) → is_own_place c s p ≡ true → names entries p half ≡ names (own_entries c s entries) p half
named_again c s [] p half o = refl
named_again c s (e ∷ entries) p half o = go (is_own_place c s e.place) refl (named_again c s entries p half o)
  where
    go : (b : Bool) → is_own_place c s e.place ≡ b → names entries p half ≡ names (own_entries c s entries) p half → names (e ∷ entries) p half ≡ names (cond b (e ∷ own_entries c s entries) (own_entries c s entries)) p half
    go true k ih = ap (λ x. same_place e.place p && same_half e.half half || x) ih
    go false k ih = ap (λ x. x && same_half e.half half || names entries p half) (apart_from c s e.place p k o) ∙ ih

-- ---- an act, as far as the session sees it

abbrev pub seen : Config → ℕ → Act → Act
seen c s (Turn until at ready stop) = Turn None at (record { entries = own_entries c s ready.entries; room = 0 }) stop
seen c s act = act

stage_kept : (c : Config) (s : ℕ) (act : Act) (a b : List Act) (p : Place) → stage a p ≡ stage b p → stage (act ∷ a) p ≡ stage (seen c s act ∷ b) p
stage_kept c s (Opened q) a b p h = ap (cond (same_place q p) Usable) h
stage_kept c s (OpenLater q) a b p h = ap (cond (same_place q p) Unsettled) h
stage_kept c s (OpenFailed q) a b p h = ap (cond (same_place q p) Failed) h
stage_kept c s (Listening q) a b p h = ap (cond (same_place q p) Waiting) h
stage_kept c s (ListenFailed q) a b p h = ap (cond (same_place q p) Failed) h
stage_kept c s (Accepted q peer) a b p h = ap (cond (same_place q p) (Met peer)) h
stage_kept c s (Closed q why) a b p h = ap (cond (same_place q p) (Gone why)) h
stage_kept c s act a b p h = h

failures_kept : (c : Config) (s : ℕ) (act : Act) (a b : List Act) (p : Place) → now a ≡ now b → failures a p ≡ failures b p → failures (act ∷ a) p ≡ failures (seen c s act ∷ b) p
failures_kept c s (OpenFailed q) a b p n h = λ i. noted (same_place q p) (n i) (h i)
failures_kept c s (ListenFailed q) a b p n h = λ i. noted (same_place q p) (n i) (h i)
failures_kept c s act a b p n h = h

woken_kept : (c : Config) (s : ℕ) (act : Act) (a b : List Act) (p : Place) → is_own_place c s p ≡ true → woken a p ≡ woken b p → woken (act ∷ a) p ≡ woken (seen c s act ∷ b) p
woken_kept c s (Turn until at ready stop) a b p o h =
    let x = named_again c s ready.entries p ToRead o in
    let y = named_again c s ready.entries p ToWrite o in
    λ i. x i || y i || h i
woken_kept c s (OpenLater q) a b p o h = ap (λ x. not (same_place q p) && x) h
woken_kept c s act a b p o h = h

accept_failed_kept : (c : Config) (s : ℕ) (act : Act) (a b : List Act) (p : Place) → accept_failed a p ≡ accept_failed b p → accept_failed (act ∷ a) p ≡ accept_failed (seen c s act ∷ b) p
accept_failed_kept c s (AcceptFailed q) a b p h = ap (λ x. same_place q p || x) h
accept_failed_kept c s act a b p h = h

was_closed_kept : (c : Config) (s : ℕ) (act : Act) (a b : List Act) (p : Place) → was_closed a p ≡ was_closed b p → was_closed (act ∷ a) p ≡ was_closed (seen c s act ∷ b) p
was_closed_kept c s (Closed q why) a b p h = ap (λ x. same_place q p || x) h
was_closed_kept c s act a b p h = h

was_reaped_kept : (c : Config) (s : ℕ) (act : Act) (a b : List Act) (p : Place) → was_reaped a p ≡ was_reaped b p → was_reaped (act ∷ a) p ≡ was_reaped (seen c s act ∷ b) p
was_reaped_kept c s (Reaped q end) a b p h = ap (λ x. same_place q p || x) h
was_reaped_kept c s act a b p h = h

reaped_since_kept : (c : Config) (s : ℕ) (act : Act) (a b : List Act) (p : Place) → reaped_since a p ≡ reaped_since b p → reaped_since (act ∷ a) p ≡ reaped_since (seen c s act ∷ b) p
reaped_since_kept c s (Closed q why) a b p h = ap (λ x. not (same_place q p) && x) h
reaped_since_kept c s (Reaped q end) a b p h = ap (λ x. same_place q p || x) h
reaped_since_kept c s act a b p h = h

got_kept : (c : Config) (s : ℕ) (act : Act) (a b : List Act) (p : Place) → got a p ≡ got b p → got (act ∷ a) p ≡ got (seen c s act ∷ b) p
got_kept c s (Read q bytes) a b p h = ap (λ x. joined (same_place q p) x bytes) h
got_kept c s act a b p h = h

put_kept : (c : Config) (s : ℕ) (act : Act) (a b : List Act) (p : Place) → put a p ≡ put b p → put (act ∷ a) p ≡ put (seen c s act ∷ b) p
put_kept c s (Wrote q bytes) a b p h = ap (λ x. joined (same_place q p) x bytes) h
put_kept c s act a b p h = h

sent_kept : (c : Config) (s : ℕ) (act : Act) (a b : List Act) (p : Place) → sent a p ≡ sent b p → sent (act ∷ a) p ≡ sent (seen c s act ∷ b) p
sent_kept c s (Wrote q bytes) a b p h = ap (λ x. joined (same_place q p) x (bytes ∷ [])) h
sent_kept c s act a b p h = h

met_end_kept : (c : Config) (s : ℕ) (act : Act) (a b : List Act) (p : Place) → met_end a p ≡ met_end b p → met_end (act ∷ a) p ≡ met_end (seen c s act ∷ b) p
met_end_kept c s (ReadEnd q) a b p h = ap (λ x. same_place q p || x) h
met_end_kept c s act a b p h = h

met_empty_kept : (c : Config) (s : ℕ) (act : Act) (a b : List Act) (p : Place) → met_empty a p ≡ met_empty b p → met_empty (act ∷ a) p ≡ met_empty (seen c s act ∷ b) p
met_empty_kept c s (ReadEmpty q) a b p h = ap (λ x. same_place q p || x) h
met_empty_kept c s act a b p h = h

shut_at_kept : (c : Config) (s : ℕ) (act : Act) (a b : List Act) (p : Place) → now a ≡ now b → shut_at a p ≡ shut_at b p → shut_at (act ∷ a) p ≡ shut_at (seen c s act ∷ b) p
shut_at_kept c s (Shut q way) a b p n h = λ i. cond (same_place q p) (Some (n i)) (h i)
shut_at_kept c s (ShutFault q way) a b p n h = λ i. cond (same_place q p) (Some (n i)) (h i)
shut_at_kept c s act a b p n h = h

read_fault_kept : (c : Config) (s : ℕ) (act : Act) (a b : List Act) (p : Place) → now a ≡ now b → read_fault_at a p ≡ read_fault_at b p → read_fault_at (act ∷ a) p ≡ read_fault_at (seen c s act ∷ b) p
read_fault_kept c s (ReadFault q) a b p n h = λ i. cond (same_place q p) (Some (n i)) (h i)
read_fault_kept c s act a b p n h = h

write_fault_kept : (c : Config) (s : ℕ) (act : Act) (a b : List Act) (p : Place) → now a ≡ now b → write_fault_at a p ≡ write_fault_at b p → write_fault_at (act ∷ a) p ≡ write_fault_at (seen c s act ∷ b) p
write_fault_kept c s (WriteFault q) a b p n h = λ i. cond (same_place q p) (Some (n i)) (h i)
write_fault_kept c s act a b p n h = h

read_arming_kept : (c : Config) (s : ℕ) (act : Act) (a b : List Act) (p : Place) → is_own_place c s p ≡ true → now a ≡ now b → read_arming a p ≡ read_arming b p → read_arming (act ∷ a) p ≡ read_arming (seen c s act ∷ b) p
read_arming_kept c s (Turn until at ready stop) a b p o n h = let x = named_again c s ready.entries p ToRead o in λ i. cond (x i) Armed (h i)
read_arming_kept c s (Opened q) a b p o n h = ap (cond (same_place q p) Armed) h
read_arming_kept c s (Accepted q peer) a b p o n h = ap (cond (same_place q p) Armed) h
read_arming_kept c s (ReadNotYet q) a b p o n h = ap (cond (same_place q p) Disarmed) h
read_arming_kept c s (ReadEnd q) a b p o n h = λ i. cond (same_place q p) (AtEnd (n i)) (h i)
read_arming_kept c s act a b p o n h = h

armed_to_write_kept : (c : Config) (s : ℕ) (act : Act) (a b : List Act) (p : Place) → is_own_place c s p ≡ true → armed_to_write a p ≡ armed_to_write b p → armed_to_write (act ∷ a) p ≡ armed_to_write (seen c s act ∷ b) p
armed_to_write_kept c s (Turn until at ready stop) a b p o h = let x = named_again c s ready.entries p ToWrite o in λ i. x i || h i
armed_to_write_kept c s (Opened q) a b p o h = ap (λ x. same_place q p || x) h
armed_to_write_kept c s (Accepted q peer) a b p o h = ap (λ x. same_place q p || x) h
armed_to_write_kept c s (WriteNotYet q) a b p o h = ap (λ x. not (same_place q p) && x) h
armed_to_write_kept c s act a b p o h = h

armed_to_accept_kept : (c : Config) (s : ℕ) (act : Act) (a b : List Act) (p : Place) → is_own_place c s p ≡ true → armed_to_accept a p ≡ armed_to_accept b p → armed_to_accept (act ∷ a) p ≡ armed_to_accept (seen c s act ∷ b) p
armed_to_accept_kept c s (Turn until at ready stop) a b p o h = let x = named_again c s ready.entries p ToRead o in λ i. x i || h i
armed_to_accept_kept c s (Listening q) a b p o h = ap (λ x. same_place q p || x) h
armed_to_accept_kept c s (NoPeer q) a b p o h = ap (λ x. not (same_place q p) && x) h
armed_to_accept_kept c s act a b p o h = h

asked_to_read_kept : (c : Config) (s : ℕ) (act : Act) (a b : List Act) (p : Place) → asked_to_read a p ≡ asked_to_read b p → asked_to_read (act ∷ a) p ≡ asked_to_read (seen c s act ∷ b) p
asked_to_read_kept c s (Turn until at ready stop) a b p h = refl
asked_to_read_kept c s (Read q bytes) a b p h = ap (λ x. same_place q p || x) h
asked_to_read_kept c s (ReadEmpty q) a b p h = ap (λ x. same_place q p || x) h
asked_to_read_kept c s (ReadEnd q) a b p h = ap (λ x. same_place q p || x) h
asked_to_read_kept c s (ReadNotYet q) a b p h = ap (λ x. same_place q p || x) h
asked_to_read_kept c s (ReadFault q) a b p h = ap (λ x. same_place q p || x) h
asked_to_read_kept c s act a b p h = h

at_kept : (c : Config) (s : ℕ) (act : Act) (a b : List Act) (p : Place) → is_own_place c s p ≡ true → now a ≡ now b → SameAt p a b → SameAt p (act ∷ a) (seen c s act ∷ b)
at_kept c s act a b p o n h = record {
  stage_same = stage_kept c s act a b p h.stage_same;
  failures_same = failures_kept c s act a b p n h.failures_same;
  woken_same = woken_kept c s act a b p o h.woken_same;
  accept_failed_same = accept_failed_kept c s act a b p h.accept_failed_same;
  was_closed_same = was_closed_kept c s act a b p h.was_closed_same;
  was_reaped_same = was_reaped_kept c s act a b p h.was_reaped_same;
  reaped_since_same = reaped_since_kept c s act a b p h.reaped_since_same;
  got_same = got_kept c s act a b p h.got_same;
  put_same = put_kept c s act a b p h.put_same;
  sent_same = sent_kept c s act a b p h.sent_same;
  met_end_same = met_end_kept c s act a b p h.met_end_same;
  met_empty_same = met_empty_kept c s act a b p h.met_empty_same;
  shut_at_same = shut_at_kept c s act a b p n h.shut_at_same;
  read_fault_at_same = read_fault_kept c s act a b p n h.read_fault_at_same;
  write_fault_at_same = write_fault_kept c s act a b p n h.write_fault_at_same;
  read_arming_same = read_arming_kept c s act a b p o n h.read_arming_same;
  armed_to_write_same = armed_to_write_kept c s act a b p o h.armed_to_write_same;
  armed_to_accept_same = armed_to_accept_kept c s act a b p o h.armed_to_accept_same;
  asked_to_read_same = asked_to_read_kept c s act a b p h.asked_to_read_same;
}

now_kept : (c : Config) (s : ℕ) (act : Act) (a b : List Act) → now a ≡ now b → now (act ∷ a) ≡ now (seen c s act ∷ b)
now_kept c s (Turn until at ready stop) a b h = refl
now_kept c s act a b h = h

memory_kept : (c : Config) (s : ℕ) (act : Act) (a b : List Act) → memory_said a ≡ memory_said b → memory_said (act ∷ a) ≡ memory_said (seen c s act ∷ b)
memory_kept c s (Closed q why) a b h = ap (λ x. same_why why whys.Memory || x) h
memory_kept c s act a b h = h

stop_kept : (c : Config) (s : ℕ) (act : Act) (a b : List Act) → stop_said a ≡ stop_said b → stop_said (act ∷ a) ≡ stop_said (seen c s act ∷ b)
stop_kept c s (Turn until at ready stop) a b h = ap (λ x. stop || x) h
stop_kept c s (Closed q why) a b h = ap (λ x. same_why why whys.Stopped || x) h
stop_kept c s act a b h = h

both_failed : (f x y z : Bool) → (f && y) ≡ (f && z) → (f && (x || y)) ≡ (f && (x || z))
both_failed true x y z h = ap (λ t. x || t) h
both_failed false x y z h = refl

door_kept : (c : Config) (s : ℕ) (act : Act) (a b : List Act) → (has_fork c && accept_failed a program_door) ≡ (has_fork c && accept_failed b program_door) → (has_fork c && accept_failed (act ∷ a) program_door) ≡ (has_fork c && accept_failed (seen c s act ∷ b) program_door)
door_kept c s (AcceptFailed q) a b h = both_failed (has_fork c) (same_place q program_door) (accept_failed a program_door) (accept_failed b program_door) h
door_kept c s act a b h = h

closed_kept : (c : Config) (s : ℕ) (act : Act) (a b : List Act) → closed_why c a s ≡ closed_why c b s → closed_why c (act ∷ a) s ≡ closed_why c (seen c s act ∷ b) s
closed_kept c s (Closed q why) a b h = ap (cond (is_of c s q && is_end q why) (Some why)) h
closed_kept c s act a b h = h

moved_kept : (c : Config) (s : ℕ) (act : Act) (a b : List Act) → now a ≡ now b → moved_at c a s ≡ moved_at c b s → moved_at c (act ∷ a) s ≡ moved_at c (seen c s act ∷ b) s
moved_kept c s (Opened q) a b n h = λ i. cond (is_place_of c s q) (n i) (h i)
moved_kept c s (Accepted q peer) a b n h = λ i. cond (is_place_of c s q) (n i) (h i)
moved_kept c s (Read q bytes) a b n h = λ i. cond (is_place_of c s q) (n i) (h i)
moved_kept c s (Wrote q bytes) a b n h = λ i. cond (is_place_of c s q) (n i) (h i)
moved_kept c s act a b n h = h

write_kept : (c : Config) (s : ℕ) (act : Act) (a b : List Act) (i o : Place) → asked_to_write a i o ≡ asked_to_write b i o → asked_to_write (act ∷ a) i o ≡ asked_to_write (seen c s act ∷ b) i o
write_kept c s (Turn until at ready stop) a b i o h = refl
write_kept c s (Read q bytes) a b i o h = ap (λ x. not (same_place q i) && x) h
write_kept c s (Wrote q bytes) a b i o h = ap (λ x. same_place q o || x) h
write_kept c s (WriteNotYet q) a b i o h = ap (λ x. same_place q o || x) h
write_kept c s (WriteFault q) a b i o h = ap (λ x. same_place q o || x) h
write_kept c s act a b i o h = h

accept_kept : (c : Config) (s : ℕ) (act : Act) (a b : List Act) (d : Place) → asked_to_accept c a d ≡ asked_to_accept c b d → asked_to_accept c (act ∷ a) d ≡ asked_to_accept c (seen c s act ∷ b) d
accept_kept c s (Turn until at ready stop) a b d h = refl
accept_kept c s (Accepted q peer) a b d h = ap (λ x. same_place (accepting_door c q) d || x) h
accept_kept c s (NoPeer q) a b d h = ap (λ x. same_place q d || x) h
accept_kept c s (AcceptFailed q) a b d h = ap (λ x. same_place q d || x) h
accept_kept c s act a b d h = h

pieces_kept : (c : Config) (s : ℕ) (act : Act) (a b : List Act) (w : Way) → got a (input c s w) ≡ got b (input c s w) → due_pieces c a s w ≡ due_pieces c b s w → due_pieces c (act ∷ a) s w ≡ due_pieces c (seen c s act ∷ b) s w
pieces_kept c s (Read q bytes) a b w g h = λ i. joined (same_place q (input c s w) && not (is_empty (due_part c w (g i) bytes))) (h i) (due_part c w (g i) bytes ∷ [])
pieces_kept c s act a b w g h = h

-- two lists say the same of a session's own, and of what was asked and is due there
pub record Alike (c : Config) (s : ℕ) (one other : List Act) : Type 0 where
  pub base : Base c s one other
  pub written : (w : Way) → asked_to_write one (input c s w) (output c s w) ≡ asked_to_write other (input c s w) (output c s w)
  pub accepted : (d : Place) → d.session ≡ s → is_program_door c d ≡ false → asked_to_accept c one d ≡ asked_to_accept c other d
  pub pieces : (w : Way) → due_pieces c one s w ≡ due_pieces c other s w

pub alike_kept : (c : Config) (s : ℕ) (act : Act) (a b : List Act) → Alike c s a b → Alike c s (act ∷ a) (seen c s act ∷ b)
alike_kept c s act a b h = record {
  base = record {
    own = λ p e d. at_kept c s act a b p (own_from c s p e d) h.base.now_same (h.base.own p e d);
    now_same = now_kept c s act a b h.base.now_same;
    memory_same = memory_kept c s act a b h.base.memory_same;
    stop_same = stop_kept c s act a b h.base.stop_same;
    door_same = door_kept c s act a b h.base.door_same;
    closed_same = closed_kept c s act a b h.base.closed_same;
    moved_same = moved_kept c s act a b h.base.now_same h.base.moved_same;
  };
  written = λ w. write_kept c s act a b (input c s w) (output c s w) (h.written w);
  accepted = λ d e o. accept_kept c s act a b d (h.accepted d e o);
  pieces = λ w. pieces_kept c s act a b w (h.base.own (input c s w) refl (input_own c s w)).got_same (h.pieces w);
}

-- ---- saying the same is an equivalence

pub at_turned : (p : Place) (a b : List Act) → SameAt p a b → SameAt p b a
at_turned p a b h = record {
  stage_same = sym h.stage_same;
  failures_same = sym h.failures_same;
  woken_same = sym h.woken_same;
  accept_failed_same = sym h.accept_failed_same;
  was_closed_same = sym h.was_closed_same;
  was_reaped_same = sym h.was_reaped_same;
  reaped_since_same = sym h.reaped_since_same;
  got_same = sym h.got_same;
  put_same = sym h.put_same;
  sent_same = sym h.sent_same;
  met_end_same = sym h.met_end_same;
  met_empty_same = sym h.met_empty_same;
  shut_at_same = sym h.shut_at_same;
  read_fault_at_same = sym h.read_fault_at_same;
  write_fault_at_same = sym h.write_fault_at_same;
  read_arming_same = sym h.read_arming_same;
  armed_to_write_same = sym h.armed_to_write_same;
  armed_to_accept_same = sym h.armed_to_accept_same;
  asked_to_read_same = sym h.asked_to_read_same;
}

pub at_joined : (p : Place) (a b d : List Act) → SameAt p a b → SameAt p b d → SameAt p a d
at_joined p a b d h k = record {
  stage_same = h.stage_same ∙ k.stage_same;
  failures_same = h.failures_same ∙ k.failures_same;
  woken_same = h.woken_same ∙ k.woken_same;
  accept_failed_same = h.accept_failed_same ∙ k.accept_failed_same;
  was_closed_same = h.was_closed_same ∙ k.was_closed_same;
  was_reaped_same = h.was_reaped_same ∙ k.was_reaped_same;
  reaped_since_same = h.reaped_since_same ∙ k.reaped_since_same;
  got_same = h.got_same ∙ k.got_same;
  put_same = h.put_same ∙ k.put_same;
  sent_same = h.sent_same ∙ k.sent_same;
  met_end_same = h.met_end_same ∙ k.met_end_same;
  met_empty_same = h.met_empty_same ∙ k.met_empty_same;
  shut_at_same = h.shut_at_same ∙ k.shut_at_same;
  read_fault_at_same = h.read_fault_at_same ∙ k.read_fault_at_same;
  write_fault_at_same = h.write_fault_at_same ∙ k.write_fault_at_same;
  read_arming_same = h.read_arming_same ∙ k.read_arming_same;
  armed_to_write_same = h.armed_to_write_same ∙ k.armed_to_write_same;
  armed_to_accept_same = h.armed_to_accept_same ∙ k.armed_to_accept_same;
  asked_to_read_same = h.asked_to_read_same ∙ k.asked_to_read_same;
}

at_itself : (p : Place) (a : List Act) → SameAt p a a
at_itself p a = record {
  stage_same = refl;
  failures_same = refl;
  woken_same = refl;
  accept_failed_same = refl;
  was_closed_same = refl;
  was_reaped_same = refl;
  reaped_since_same = refl;
  got_same = refl;
  put_same = refl;
  sent_same = refl;
  met_end_same = refl;
  met_empty_same = refl;
  shut_at_same = refl;
  read_fault_at_same = refl;
  write_fault_at_same = refl;
  read_arming_same = refl;
  armed_to_write_same = refl;
  armed_to_accept_same = refl;
  asked_to_read_same = refl;
}

pub alike_itself : (c : Config) (s : ℕ) (a : List Act) → Alike c s a a
alike_itself c s a = record {
  base = record { own = λ p e d. at_itself p a; now_same = refl; memory_same = refl; stop_same = refl; door_same = refl; closed_same = refl; moved_same = refl };
  written = λ w. refl;
  accepted = λ d e o. refl;
  pieces = λ w. refl;
}

pub alike_turned : (c : Config) (s : ℕ) (a b : List Act) → Alike c s a b → Alike c s b a
alike_turned c s a b h = record {
  base = record {
    own = λ p e d. at_turned p a b (h.base.own p e d);
    now_same = sym h.base.now_same;
    memory_same = sym h.base.memory_same;
    stop_same = sym h.base.stop_same;
    door_same = sym h.base.door_same;
    closed_same = sym h.base.closed_same;
    moved_same = sym h.base.moved_same;
  };
  written = λ w. sym (h.written w);
  accepted = λ d e o. sym (h.accepted d e o);
  pieces = λ w. sym (h.pieces w);
}

pub alike_joined : (c : Config) (s : ℕ) (a b d : List Act) → Alike c s a b → Alike c s b d → Alike c s a d
alike_joined c s a b d h k = record {
  base = record {
    own = λ p e o. at_joined p a b d (h.base.own p e o) (k.base.own p e o);
    now_same = h.base.now_same ∙ k.base.now_same;
    memory_same = h.base.memory_same ∙ k.base.memory_same;
    stop_same = h.base.stop_same ∙ k.base.stop_same;
    door_same = h.base.door_same ∙ k.base.door_same;
    closed_same = h.base.closed_same ∙ k.base.closed_same;
    moved_same = h.base.moved_same ∙ k.base.moved_same;
  };
  written = λ w. h.written w ∙ k.written w;
  accepted = λ p e o. h.accepted p e o ∙ k.accepted p e o;
  pieces = λ w. h.pieces w ∙ k.pieces w;
}
