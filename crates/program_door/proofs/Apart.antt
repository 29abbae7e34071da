-- What leaves the program door as it is.
use Rattle.std.proofs.Common.{◌≡◌, refl, sym, ap, subst, ◌∙◌, ℕ, Bool, true, false, cond, ◌&&◌, ◌||◌, ◌==◌, nat_lt, List, [], ◌∷◌, Option, Some, None, is_none, arith}
use Rattle.std.proofs.lemmas.Bool.{false≢true, or_parts, false_from_ne_true, ltb-true}
use Rattle.relay_model.specs.declared.places.Side.TheVariants.{Left}
use Rattle.relay_model.specs.declared.places.Place.{Place}
use Rattle.relay_model.specs.declared.places.Half.TheVariants.{ToRead}
use Rattle.relay_model.specs.declared.commands.Config.{Config}
use Rattle.relay_model.specs.declared.acts.Why.{Why}
use Rattle.relay_model.specs.declared.acts.Why.TheVariants as whys
use Rattle.relay_model.specs.declared.acts.Act.{Act}
use Rattle.relay_model.specs.declared.acts.Act.TheVariants.{Turn, Accepted, NoPeer, AcceptFailed, Closed}
use Rattle.relay_model.specs.Places.{same_place, door_of}
use Rattle.relay_model.specs.Readiness.{Listed, names}
use Rattle.relay_model.specs.Choices.{only_if, first_some, one_more}
use Rattle.relay_model.specs.Configs.{has_fork, is_left, program_door, place_at, parts}
use Rattle.relay_model.specs.History.{holds_at, held, same_why, memory_said, stop_said, accept_failed}
use Rattle.relay_model.specs.Arming.{armed_to_accept, asked_to_accept}
use Rattle.relay_model.specs.Sessions.{admitted, holds, next_place, first_part, permits}
use Rattle.relay_model.specs.declared.calls.Call.TheVariants.{Accept}
use Rattle.relay_model.specs.Cause.{closed_why}
use Rattle.relay_model.specs.Calls.{called_at}
use Rattle.relay_model.specs.May.{Legal}
use Rattle.relay_model.specs.Laws.{DoorTells}
use Rattle.relay_model.specs.Frames.{is_at, is_turn, is_common, IsForeign}
use Rattle.relay_model.specs.Rest.{SessionRests}
use Rattle.relay_laws.proofs.PlaceLemmas.{same_place_equal, same_place_self}
use Rattle.relay_laws.proofs.Elsewhere.{elsewhere, steps_leave}
use Rattle.relay_laws.proofs.Admissions.{door_says, door_called}
use Rattle.relay_laws.proofs.OwnThings.{place_own}
use Rattle.relay_laws.proofs.Apart.{closed_step}
use Rattle.relay_laws.proofs.RestLemmas.{silent}
use Rattle.program_door.specs.declared.doors.Door.{Door}
use Rattle.program_door.specs.Causes.{door_cause, cut_after}
use Rattle.program_door.specs.Stands.{DoorStands}
use Rattle.program_door.specs.Steps.{meets_left, Passes}
use Rattle.program_door.specs.Turns.{ClosesElsewhere}

-- ---- acts that are none of the door's

no_turn : (c : Config) (act : Act) → is_common c act ≡ false → is_turn act ≡ false
no_turn c (Turn until at ready stop) e = absurd (false≢true (sym e))
no_turn c act e = refl

said_same : (a b : Bool) → a ≡ false → (a || b) ≡ b
said_same true b e = cc
said_same false b e = refl

stop_same : (c : Config) (act : Act) (past : List Act) → is_common c act ≡ false → stop_said (act ∷ past) ≡ stop_said past
stop_same c (Turn until at ready stop) past e = absurd (false≢true (sym e))
stop_same c (Closed q why) past e = said_same (same_why why whys.Stopped) (stop_said past) (or_parts (same_why why whys.Stopped) (same_why why whys.Memory) e).0
stop_same c act past e = refl

memory_same : (c : Config) (act : Act) (past : List Act) → is_common c act ≡ false → memory_said (act ∷ past) ≡ memory_said past
memory_same c (Turn until at ready stop) past e = absurd (false≢true (sym e))
memory_same c (Closed q why) past e = said_same (same_why why whys.Memory) (memory_said past) (or_parts (same_why why whys.Stopped) (same_why why whys.Memory) e).1
memory_same c act past e = refl

not_admitted : (left fork permitted : Bool) (n : ℕ) → left ≡ false → one_more (left && fork && permitted) n ≡ n
not_admitted true fork permitted n e = cc
not_admitted false fork permitted n e = refl

admitted_same : (c : Config) (act : Act) (past : List Act) → meets_left act ≡ false → admitted c (act ∷ past) ≡ admitted c past
admitted_same c (Accepted q peer) past e = not_admitted (is_left q) (has_fork c) (permits c q peer) (admitted c past) e
admitted_same c act past e = refl

-- the peer of a place that isn't left wasn't met at the program door
other_door : (left fork b : Bool) (q : Place) → is_left q ≡ left → left ≡ false → (same_place (cond (left && fork) program_door (door_of q)) program_door || b) ≡ b
other_door true fork b q e f = cc
other_door false fork b q e f = said_same (same_place (door_of q) program_door) b (false_from_ne_true (same_place (door_of q) program_door) (λ t. let x : door_of q ≡ program_door = same_place_equal (door_of q) program_door t in let y : is_left q ≡ true = ap is_left x in false≢true (sym e ∙ y)))

asked_same : (c : Config) (act : Act) (past : List Act) → is_common c act ≡ false → is_at act program_door ≡ false → meets_left act ≡ false → asked_to_accept c (act ∷ past) program_door ≡ asked_to_accept c past program_door
asked_same c (Turn until at ready stop) past e apart none = absurd (false≢true (sym e))
asked_same c (Accepted q peer) past e apart none = other_door (is_left q) (has_fork c) (asked_to_accept c past program_door) q refl none
asked_same c (NoPeer q) past e apart none = said_same (same_place q program_door) (asked_to_accept c past program_door) apart
asked_same c (AcceptFailed q) past e apart none = said_same (same_place q program_door) (asked_to_accept c past program_door) apart
asked_same c act past e apart none = refl

causes_same : (one other : List Act) → memory_said one ≡ memory_said other → stop_said one ≡ stop_said other → accept_failed one program_door ≡ accept_failed other program_door → door_cause one ≡ door_cause other
causes_same one other m s a = rw (m, s, a) refl

pub apart : (c : Config) (act : Act) (past : List Act) (door : Door) → DoorStands c past door → Passes c past act → DoorStands c (act ∷ past) door
apart c act past door s p =
    let turn = no_turn c act p.uncommon in
    let there = elsewhere act past program_door turn p.no_door in
    let next = elsewhere act past (next_place c past) turn (p.no_next (next_place c past) refl (place_own c (admitted c past) Left (first_part (parts c Left)))) in
    let number = admitted_same c act past p.no_peer in
    let asked = asked_same c act past p.uncommon p.no_door p.no_peer in
    record {
      fork = s.fork;
      part_is = s.part_is;
      filter_is = s.filter_is;
      max_children_is = s.max_children_is;
      stop_after_is = s.stop_after_is;
      stage_is = s.stage_is ∙ sym there.stage_same;
      armed_is = s.armed_is ∙ sym there.armed_to_accept_same;
      unasked = λ h. asked ∙ s.unasked h;
      asked_is = rw (there.armed_to_accept_same, asked) s.asked_is;
      tries_are = rw there.failures_same s.tries_are;
      tried_is = λ h. rw there.failures_same (s.tried_is h ∙ ap Some (sym ((steps_leave act past).now_same turn)));
      admitted_is = s.admitted_is ∙ sym number;
      refused_is = s.refused_is ∙ sym (ap (λ k. held (act ∷ past) (place_at k Left (first_part (parts c Left)))) number ∙ ap holds_at next.stage_same);
      cut_is = s.cut_is ∙ sym (causes_same (act ∷ past) past (memory_same c act past p.uncommon) (stop_same c act past p.uncommon) there.accept_failed_same);
      unended = λ h. ap (closed_why c (act ∷ past)) number ∙ closed_step c act past (admitted c past) p.no_next ∙ s.unended h;
    }

-- ---- legal acts elsewhere

left_door : (left fork : Bool) → left ≡ true → fork ≡ true → (left && fork) ≡ true
left_door true true x y = refl
left_door true false x y = cc
left_door false fork x y = cc

-- a peer is accepted at a left place by the program door alone, for the next session
meets_next : (c : Config) (past : List Act) (q : Place) → ((d : Place) × (called_at c past q ≡ Accept d q)) → has_fork c ≡ true → is_left q ≡ true → q ≡ next_place c past
meets_next c past q (d, e) fork left =
    let k = door_called c past q (Accept d q) (left_door (is_left q) (has_fork c) left fork) e in
    let t = subst (DoorTells c past) k (door_says c past) in
    t.1

no_left : (c : Config) (n : ℕ) (act : Act) (past : List Act) → Legal c n (act ∷ past) → has_fork c ≡ true → IsForeign c (admitted c past) act → meets_left act ≡ false
no_left c n (Accepted q peer) past legal fork foreign = false_from_ne_true (is_left q) (λ left.
    let e = meets_next c past q legal.0.1 fork left in
    let f = foreign (next_place c past) refl (place_own c (admitted c past) Left (first_part (parts c Left))) in
    false≢true (sym f ∙ ap (λ x. same_place x (next_place c past)) e ∙ same_place_self (next_place c past)))
no_left c n act past legal fork foreign = refl

pub passes : (c : Config) (n : ℕ) (act : Act) (past : List Act) → Legal c n (act ∷ past) → has_fork c ≡ true → is_at act program_door ≡ false → IsForeign c (admitted c past) act → is_common c act ≡ false → Passes c past act
passes c n act past legal fork there foreign uncommon = record { no_door = there; no_next = foreign; no_peer = no_left c n act past legal fork foreign; uncommon = uncommon }

-- ---- turns

pub and_false : (a : Bool) → false ≡ (a && false)
and_false true = refl
and_false false = refl

pub quiet : (c : Config) (past : List Act) (until : Option ℕ) (at : ℕ) (ready : Listed) (door : Door) → DoorStands c past door → door.asked ≡ false → door.tried ≡ false → names ready.entries program_door ToRead ≡ false → DoorStands c (Turn until at ready false ∷ past) door
quiet c past until at ready door s unasked untried unnamed = record {
  fork = s.fork;
  part_is = s.part_is;
  filter_is = s.filter_is;
  max_children_is = s.max_children_is;
  stop_after_is = s.stop_after_is;
  stage_is = s.stage_is;
  armed_is = s.armed_is ∙ sym (said_same (names ready.entries program_door ToRead) (armed_to_accept past program_door) unnamed);
  unasked = λ _. refl;
  asked_is = unasked ∙ and_false (armed_to_accept (Turn until at ready false ∷ past) program_door);
  tries_are = s.tries_are;
  tried_is = λ h. absurd (false≢true (sym untried ∙ h));
  admitted_is = s.admitted_is;
  refused_is = s.refused_is;
  cut_is = s.cut_is;
  unended = s.unended;
}

-- ---- closings that are every session's

after : (m s a : Bool) (why : Why) → first_some (only_if (same_why why whys.Memory || m) whys.Memory ∷ only_if (same_why why whys.Stopped || s) whys.Stopped ∷ only_if a whys.AcceptFailed ∷ []) ≡ cut_after (first_some (only_if m whys.Memory ∷ only_if s whys.Stopped ∷ only_if a whys.AcceptFailed ∷ [])) why
after true s a whys.Memory = refl
after true s a whys.Stopped = refl
after true s a why = refl
after false true a whys.Memory = refl
after false true a whys.Stopped = refl
after false true a why = refl
after false false true whys.Memory = refl
after false false true whys.Stopped = refl
after false false true why = refl
after false false false whys.Memory = refl
after false false false whys.Stopped = refl
after false false false why = refl

pub cause_after : (past : List Act) (q : Place) (why : Why) → door_cause (Closed q why ∷ past) ≡ cut_after (door_cause past) why
cause_after past q why = after (memory_said past) (stop_said past) (accept_failed past program_door) why

stays_cut : (w why : Why) → is_none (cut_after (Some w) why) ≡ false
stays_cut whys.Memory why = refl
stays_cut w whys.Memory = refl
stays_cut w whys.Stopped = refl
stays_cut w why = refl

pub uncut_before : (a : Bool) (cut : Option Why) (why : Why) → (a || is_none (cut_after cut why)) ≡ true → (a || is_none cut) ≡ true
uncut_before true cut why e = refl
uncut_before false None why e = refl
uncut_before false (Some w) why e = absurd (false≢true (sym (stays_cut w why) ∙ e))

-- a closing elsewhere may end the calls
pub closes : (c : Config) (past : List Act) (q : Place) (why : Why) (door : Door) → DoorStands c past door → ClosesElsewhere c past q why → DoorStands c (Closed q why ∷ past) (record door { cut = cut_after door.cut why })
closes c past q why door s p =
    let there = elsewhere (Closed q why) past program_door refl p.no_door in
    let next = elsewhere (Closed q why) past (next_place c past) refl (p.no_next (next_place c past) refl (place_own c (admitted c past) Left (first_part (parts c Left)))) in
    record {
      fork = s.fork;
      part_is = s.part_is;
      filter_is = s.filter_is;
      max_children_is = s.max_children_is;
      stop_after_is = s.stop_after_is;
      stage_is = s.stage_is ∙ sym there.stage_same;
      armed_is = s.armed_is;
      unasked = s.unasked;
      asked_is = s.asked_is;
      tries_are = s.tries_are;
      tried_is = s.tried_is;
      admitted_is = s.admitted_is;
      refused_is = s.refused_is ∙ sym (ap holds_at next.stage_same);
      cut_is = ap (λ o. cut_after o why) s.cut_is ∙ sym (cause_after past q why);
      unended = λ h. closed_step c (Closed q why) past (admitted c past) p.no_next ∙ s.unended (uncut_before door.refused door.cut why h);
    }

-- ---- the next session

not_below : (n : ℕ) → nat_lt n n ≡ false
not_below n = false_from_ne_true (nat_lt n n) (λ e. let h = ltb-true n n e in let x : ⊥ = omega (arith, h) in x)

pending_session : (fork b : Bool) (n : ℕ) → fork ≡ true → cond fork (nat_lt n n && b) (n == 0) ≡ false
pending_session true b n e = ap (λ x. x && b) (not_below n)
pending_session false b n e = cc

pub next_rests : (c : Config) (past : List Act) → has_fork c ≡ true → holds c past (admitted c past) ≡ false → SessionRests c past (admitted c past)
next_rests c past fork none = silent c past (admitted c past) (pending_session (has_fork c) (holds c past (admitted c past)) (admitted c past) fork) none
