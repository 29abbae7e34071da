-- What the closings of one session make of the run that is ended.
use Rattle.std.proofs.Common.{◌≡◌, refl, sym, ap, subst, ◌∙◌, ℕ, ◌<◌, ◌⊎◌, inl, inr, Bool, true, false, ◌&&◌, nat_lt, List, ◌∷◌, Option, Some, None, is_some, arith}
use Rattle.std.proofs.lemmas.Bool.{false≢true, true≢false, or_parts, or_from, or_right, false_from_ne_true}
use Rattle.relay_model.specs.declared.commands.Config.{Config}
use Rattle.relay_model.specs.declared.places.Place.{Place}
use Rattle.relay_model.specs.declared.acts.Act.{Act}
use Rattle.relay_model.specs.declared.acts.Act.TheVariants as acts
use Rattle.relay_model.specs.declared.acts.Why.{Why}
use Rattle.relay_model.specs.declared.acts.Why.TheVariants as whys
use Rattle.relay_model.specs.Places.{same_place}
use Rattle.relay_model.specs.Configs.{has_fork, is_of, program_door}
use Rattle.relay_model.specs.History.{turns, memory_said, stop_said, same_why}
use Rattle.relay_model.specs.Journals.{Asking}
use Rattle.relay_model.specs.Sessions.{admitted, holds}
use Rattle.relay_model.specs.Cause.{closed_why}
use Rattle.relay_model.specs.Rest.{owed}
use Rattle.relay_model.specs.May.{May}
use Rattle.relay_model.specs.Frames.{is_at, is_common, is_closing, reads_bytes}
use Rattle.relay_session.specs.declared.sessions.Session.{Session}
use Rattle.relay_session.specs.declared.wishes.Wish.{Wish}
use Rattle.relay_session.specs.declared.wishes.Wish.TheVariants as wishes
use Rattle.relay_session.specs.States.{Allowed, ClosesFor}
use Rattle.relay_session.specs.Sessions.{Stands, wish_of, ending_of, has_ended}
use Rattle.relay_session.specs.Told.{stop_turned}
use Rattle.relay_session.proofs.Homes.{lives_at_home}
use Rattle.relay_session.proofs.Possible.{child_over}
use Rattle.program_door.specs.declared.doors.Door.{Door}
use Rattle.program_door.specs.Stands.{DoorStands}
use Rattle.program_door.specs.Turns.{ClosesElsewhere}
use Rattle.program_door.proofs.Apart.{apart as left_apart}
use Rattle.program_door.proofs.Held.{of_session}
use Rattle.program_door.proofs.Moves.{numbers_are}
use Rattle.world_trait.specs.Seen.{Seen}
use Rattle.session_driver.specs.Steps.{Acts, ClosesAsWished, Idles, IsActOf, OwnAsking, ReadsAsWished}
use Rattle.session_laws.specs.SessionSets.{IsSaid, MaySay}
use Rattle.session_loop.specs.Runs.{Run}
use Rattle.session_driver.proofs.Counting.{unread_owes}
use Rattle.session_loop.proofs.DrainGoing.{AllCommands, acted_run, idle_run, uncommon}
use Rattle.event_loop.specs.Closings.{IsLeaving, SomeLeaves, LeftBy, stayed, closed, acted, LeftTo, LeavesOn, closes}
use Rattle.event_loop.specs.Waited.{OwesAtExit, StopsAt}

-- ---- what is said stays said

memory_kept : (c : Config) (act : Act) (past : List Act) → is_common c act ≡ false → memory_said past ≡ false → memory_said (act ∷ past) ≡ false
memory_kept c (acts.Closed q why) past k m = or_from (same_why why whys.Memory) (memory_said past) (or_parts (same_why why whys.Stopped) (same_why why whys.Memory) k).1 m
memory_kept c act past k m = m

memory_stays : (act : Act) (past : List Act) → memory_said past ≡ true → memory_said (act ∷ past) ≡ true
memory_stays (acts.Closed q why) past m = or_right (same_why why whys.Memory) (memory_said past) m
memory_stays act past m = m

stop_stays : (act : Act) (past : List Act) → stop_said past ≡ true → stop_said (act ∷ past) ≡ true
stop_stays (acts.Turn until at ready stop) past t = or_right stop (stop_said past) t
stop_stays (acts.Closed q why) past t = or_right (same_why why whys.Stopped) (stop_said past) t
stop_stays act past t = t

pub said_on : (c : Config) (act : Act) (past : List Act) (why : Why) → is_common c act ≡ false → IsSaid why past → IsSaid why (act ∷ past)
said_on c act past whys.Memory k m = memory_stays act past m
said_on c act past whys.Stopped k m = (stop_stays act past m.0, memory_kept c act past k m.1)
said_on c act past why k m = absurd m

pub may_on : (c : Config) (act : Act) (past : List Act) (why : Why) → is_common c act ≡ false → MaySay why past → MaySay why (act ∷ past)
may_on c act past whys.Memory k m = tt
may_on c act past whys.Stopped k m = memory_kept c act past k m
may_on c act past why k m = absurd m

-- a closing for the reason says it
pub now_said : (past : List Act) (q : Place) (why : Why) → MaySay why past → IsSaid why (acts.Closed q why ∷ past)
now_said past q whys.Memory m = refl
now_said past q whys.Stopped m = (refl, m)
now_said past q why m = absurd m

pub may_still : (past : List Act) (q : Place) (why : Why) → MaySay why past → MaySay why (acts.Closed q why ∷ past)
may_still past q whys.Memory m = tt
may_still past q whys.Stopped m = m
may_still past q why m = absurd m

-- ---- a session that was cut wishes for closings, its children and its end alone

ended_of : (x : Session) (why : Why) → ending_of x ≡ Some why → has_ended x ≡ true
ended_of x why e = ap is_some e

pub still_going : {P : Type 0} (x : Session) (why : Why) → ending_of x ≡ Some why → has_ended x ≡ false → P
still_going x why e g = absurd (true≢false (sym (ended_of x why e) ∙ g))

uncut : {P : Type 0} (end : Option Why) (why : Why) → end ≡ Some why → end ≡ None → P
uncut end why e k = let x : ⊥ = cc in absurd x

second : (a b : Bool) → (a && b) ≡ true → b ≡ true
second true b e = e
second false b e = absurd (false≢true e)

pub unclosed_holds : (c : Config) (n : ℕ) (past : List Act) (s : ℕ) (x : Session) → has_fork c ≡ true → Stands c n past s x → closed_why c past s ≡ None → holds c past s ≡ true
unclosed_holds c n past s x fork st u = let g = st.fields.ground in second (nat_lt s (admitted c past)) (holds c past s) (rw fork at (lives_at_home c past s g.begun (λ f. g.home_held f u)))

closed_by_child : (c : Config) (past : List Act) (p : Place) (s : ℕ) → p.session ≡ s → is_some (closed_why c past p.session) ≡ true → closed_why c past s ≡ None → ⊥
closed_by_child c past p s e h u = let k : is_some (closed_why c past s) ≡ true = subst (λ (t : ℕ). is_some (closed_why c past t) ≡ true) e h in false≢true (ap is_some (sym u) ∙ k)

-- where the next call is no closing, one was made before
wishes_no_closing : (c : Config) (n : ℕ) (start now : Seen) (past : List Act) (s : ℕ) (why : Why) (x : Session) (door : Door) → IsLeaving c n start now past s why x door → closed_why c past s ≡ None → (wish : Wish) → closes wish ≡ false → Allowed c n past s x.state wish → ⊥
wishes_no_closing c n start now past s why x door l u (wishes.Close q w) k a = true≢false k
wishes_no_closing c n start now past s why x door l u (wishes.Reap p) k a =
    let r = a.0 in
    let over = child_over c n past p l.stands.fields.ground.fit (subst (λ (t : ℕ). is_of c t p ≡ true) (sym r.own) r.among) r.may.is_child l.exit.run.legal r.may.closed in
    closed_by_child c past p s r.own over.closed u
wishes_no_closing c n start now past s why x door l u (wishes.Done w) k a = true≢false (sym (unclosed_holds c n past s x l.exit.fork l.stands u) ∙ a.0.nothing_held)
wishes_no_closing c n start now past s why x door l u (wishes.Open p) k a = uncut x.state.ending why l.ending a.1
wishes_no_closing c n start now past s why x door l u (wishes.Settle p) k a = uncut x.state.ending why l.ending a.1
wishes_no_closing c n start now past s why x door l u (wishes.Listen d) k a = uncut x.state.ending why l.ending a.1
wishes_no_closing c n start now past s why x door l u (wishes.Accept d p) k a = uncut x.state.ending why l.ending a.1
wishes_no_closing c n start now past s why x door l u (wishes.Read p m) k a = uncut x.state.ending why l.ending a.1.0
wishes_no_closing c n start now past s why x door l u (wishes.Write p) k a = uncut x.state.ending why l.ending a.1.0
wishes_no_closing c n start now past s why x door l u (wishes.Send p) k a = uncut x.state.ending why l.ending a.1.0
wishes_no_closing c n start now past s why x door l u (wishes.Shut p how) k a = uncut x.state.ending why l.ending a.1
wishes_no_closing c n start now past s why x door l u (wishes.Sleep until) k a = uncut x.state.ending why l.ending a.1

said_by : (c : Config) (n : ℕ) (start now : Seen) (past : List Act) (s : ℕ) (why : Why) (x : Session) (door : Door) → IsLeaving c n start now past s why x door → closes (wish_of x) ≡ false → IsSaid why past
said_by c n start now past s why x door l k = go l.said
  where
    go : (closed_why c past s ≡ None) ⊎ IsSaid why past → IsSaid why past
    go (inl u) = absurd (wishes_no_closing c n start now past s why x door l u (wish_of x) k l.stands.allowed)
    go (inr m) = m

-- a closing that it wishes for is one for the reason
closes_for : (c : Config) (past : List Act) (s : ℕ) (end : Option Why) (q : Place) (w why : Why) → end ≡ Some why → ClosesFor c past s end q w → w ≡ why
closes_for c past s None q w why e k = let x : ⊥ = cc in absurd x
closes_for c past s (Some v) q w why e k = let x : v ≡ why = cc in sym k ∙ x

wished_closing : (wish : Wish) → closes wish ≡ true → (q : Place) × (w : Why) × (wish ≡ wishes.Close q w)
wished_closing (wishes.Close q w) e = (q, w, refl)
wished_closing wish e = absurd (false≢true e)

-- ---- where its acts are

has_begun : (c : Config) (n : ℕ) (past : List Act) (s : ℕ) (x : Session) → has_fork c ≡ true → Stands c n past s x → s < admitted c past
has_begun c n past s x fork st = let b = st.fields.ground.begun in let e = numbers_are c past fork in omega (arith, b, e)

elsewhere_for : (c : Config) (past : List Act) (s : ℕ) (q : Place) (why : Why) → has_fork c ≡ true → s < admitted c past → IsActOf c s (acts.Closed q why) → ClosesElsewhere c past q why
elsewhere_for c past s q why fork begun here = record {
  no_door = false_from_ne_true (same_place q program_door) (λ e. let o = here.own program_door e in false≢true (sym o.1 ∙ fork));
  no_next = λ p e d. false_from_ne_true (is_at (acts.Closed q why) p) (λ at. let o = (here.own p at).0 in let x : ⊥ = omega (arith, o, e, begun) in x);
}

asked_own : (c : Config) (s : ℕ) (asked : Option Asking) → OwnAsking c s asked → AllCommands c asked
asked_own c s None own = tt
asked_own c s (Some asking) own = (inl (s, own.0), own.1)

-- ---- what is owed

-- a closing for the reason may come where a dump is owed
may_by : (c : Config) (n : ℕ) (past : List Act) (s : ℕ) (x : Session) (q : Place) (why : Why) → OwesAtExit c past why → Allowed c n past s x.state (wishes.Close q why) → May c n past (acts.Closed q why)
may_by c n past s x q why owes a = record { is_held = a.0.is_held; licensed = a.0.licensed; timely = timely owes }
  where
    timely : OwesAtExit c past why → (owed c past ≡ None) ⊎ (why ≡ whys.Memory)
    timely (inl e) = inl e
    timely (inr k) = inr k.0

-- once one came nothing is owed
unowed_said : (c : Config) (past : List Act) (why : Why) → OwesAtExit c past why → IsSaid why past → owed c past ≡ None
unowed_said c past why (inl e) said = e
unowed_said c past why (inr k) said = let m : memory_said past ≡ true = subst (λ (w : Why). IsSaid w past) k.0 said in absurd (true≢false (sym m ∙ k.1))

-- a session that was cut reads no more
unread_by : (c : Config) (n : ℕ) (past : List Act) (s : ℕ) (x : Session) (why : Why) (act : Act) → ending_of x ≡ Some why → (wish : Wish) → Allowed c n past s x.state wish → ReadsAsWished wish act → reads_bytes act ≡ false
unread_by c n past s x why act end (wishes.Read p m) a e = uncut x.state.ending why end a.1.0
unread_by c n past s x why act end wish a e = e

-- ---- the run goes on

run_next : (c : Config) (n : ℕ) (start old new : Seen) (past : List Act) (s : ℕ) (why : Why) (x y : Session) (door : Door) (act : Act) → IsLeaving c n start old past s why x door → Acts c old new x y act → May c n past act → Run c n start new (act ∷ past)
run_next c n start old new past s why x y door act l a may =
    acted_run c n start old new past act a.asked a.failed l.exit.run a.did (asked_own c s a.asked (a.own n past s l.stands)) may (a.here n past s l.stands).untimed a.no_turn a.rose (λ e. a.blameless e past) a.waitless

stops_on : (n : ℕ) (why : Why) (act : Act) (past : List Act) → turns (act ∷ past) ≡ turns past → stop_turned (act ∷ past) ≡ stop_turned past → StopsAt n why past → StopsAt n why (act ∷ past)
stops_on n why act past t m h e = go (h e)
  where
    go : (stop_turned past ≡ true) ⊎ (turns past ≡ n) → (stop_turned (act ∷ past) ≡ true) ⊎ (turns (act ∷ past) ≡ n)
    go (inl k) = inl (m ∙ k)
    go (inr k) = inr (t ∙ k)

-- a closing for the reason, of which the door heard
closed_for : (c : Config) (n : ℕ) (start old new : Seen) (past : List Act) (s : ℕ) (why : Why) (x y : Session) (door after : Door) (q : Place) → IsLeaving c n start old past s why x door → Acts c old new x y (acts.Closed q why) → May c n past (acts.Closed q why) → (DoorStands c past door → ClosesElsewhere c past q why → DoorStands c (acts.Closed q why ∷ past) after) → LeftTo c n start new past s why y after
closed_for c n start old new past s why x y door after q l a may hears =
    let o = l.exit in
    let h = a.heard n past s l.stands in
    let here = a.here n past s l.stands in
    record {
      since = acts.Closed q why ∷ past;
      left = closed q past here stayed;
      leaves = record {
        exit = record {
          fork = o.fork;
          run = run_next c n start old new past s why x y door (acts.Closed q why) l a may;
          stands = hears o.stands (elsewhere_for c past s q why o.fork (has_begun c n past s x o.fork l.stands) here);
          may = may_still past q why o.may;
          ends = inl (now_said past q why o.may);
          stops = stops_on n why (acts.Closed q why) past refl refl o.stops;
          owes = inl refl;
        };
        stands = h.stands;
        ending = a.ending n past s l.stands (ended_of x why l.ending) ∙ l.ending;
        said = inr (now_said past q why o.may);
      };
    }

pub closing_on : (c : Config) (n : ℕ) (start old new : Seen) (past : List Act) (s : ℕ) (why : Why) (x y : Session) (door after : Door) (act : Act) → IsLeaving c n start old past s why x door → Acts c old new x y act → closes (wish_of x) ≡ true → ((q : Place) → DoorStands c past door → ClosesElsewhere c past q why → DoorStands c (acts.Closed q why ∷ past) after) → LeftTo c n start new past s why y after
closing_on c n start old new past s why x y door after act l a k hears =
    let w = wished_closing (wish_of x) k in
    let allowed : Allowed c n past s x.state (wishes.Close w.0 w.1) = subst (Allowed c n past s x.state) w.2 l.stands.allowed in
    let for = closes_for c past s x.state.ending w.0 w.1 why l.ending allowed.1 in
    let is : act ≡ acts.Closed w.0 why = subst (λ (v : Wish). ClosesAsWished v act) w.2 a.closes ∙ ap (acts.Closed w.0) for in
    closed_for c n start old new past s why x y door after w.0 l (subst (Acts c old new x y) is a) (may_by c n past s x w.0 why l.exit.owes (subst (λ (v : Why). Allowed c n past s x.state (wishes.Close w.0 v)) for allowed)) (hears w.0)

no_closing : (wish : Wish) (act : Act) → closes wish ≡ false → ClosesAsWished wish act → is_closing act ≡ false
no_closing (wishes.Close q w) act k e = absurd (true≢false k)
no_closing wish act k e = e

-- any other act
pub other_on : (c : Config) (n : ℕ) (start old new : Seen) (past : List Act) (s : ℕ) (why : Why) (x y : Session) (door : Door) (act : Act) → IsLeaving c n start old past s why x door → Acts c old new x y act → closes (wish_of x) ≡ false → LeftTo c n start new past s why y door
other_on c n start old new past s why x y door act l a k =
    let o = l.exit in
    let h = a.heard n past s l.stands in
    let here = a.here n past s l.stands in
    let said = said_by c n start old past s why x door l k in
    let none = uncommon c s (wishes.Done why) act here (no_closing (wish_of x) act k a.closes) tt in
    let run = run_next c n start old new past s why x y door act l a (h.may (unowed_said c past why o.owes said)) in
    record {
      since = act ∷ past;
      left = acted act past here none said stayed;
      leaves = record {
        exit = record {
          fork = o.fork;
          run = run;
          stands = left_apart c act past door o.stands (of_session c n act past s run.legal o.fork (has_begun c n past s x o.fork l.stands) here.own none);
          may = may_on c act past why none o.may;
          ends = inl (said_on c act past why none said);
          stops = stops_on n why act past (a.no_turn.turns_same past) (a.no_turn.stops_same past) o.stops;
          owes = inl (unread_owes c act past (unread_by c n past s x why act l.ending (wish_of x) l.stands.allowed a.reads));
        };
        stands = h.stands;
        ending = a.ending n past s l.stands (ended_of x why l.ending) ∙ l.ending;
        said = inr (said_on c act past why none said);
      };
    }

-- an act that is no closing comes where none was wished for
pub not_closes : (wish : Wish) (act : Act) → is_closing act ≡ false → ClosesAsWished wish act → closes wish ≡ false
not_closes (wishes.Close q w) act k e = absurd (true≢false (ap is_closing (sym e) ∙ k))
not_closes (wishes.Open p) act k e = refl
not_closes wish act k e = refl

-- nothing was done
pub idle_on : (c : Config) (n : ℕ) (start old new : Seen) (past : List Act) (s : ℕ) (why : Why) (x y : Session) (door : Door) → IsLeaving c n start old past s why x door → Idles c old new x y → LeftTo c n start new past s why y door
idle_on c n start old new past s why x y door l a =
    let o = l.exit in
    record {
      since = past;
      left = stayed;
      leaves = record {
        exit = record { fork = o.fork; run = idle_run c n start old new past o.run a.did a.rose a.waitless; stands = o.stands; may = o.may; ends = o.ends; stops = o.stops; owes = o.owes };
        stands = a.stands n past s l.stands;
        ending = a.ending n past s l.stands (ended_of x why l.ending) ∙ l.ending;
        said = l.said;
      };
    }

pub unmoved_on : (c : Config) (n : ℕ) (start old new : Seen) (past : List Act) (s : ℕ) (why : Why) (x y : Session) (door : Door) → IsLeaving c n start old past s why x door → new ≡ old → y ≡ x → LeftTo c n start new past s why y door
unmoved_on c n start old new past s why x y door l e f = record { since = past; left = stayed; leaves = subst (λ (z : Session). IsLeaving c n start new past s why z door) (sym f) (subst (λ (z : Seen). IsLeaving c n start z past s why x door) (sym e) l) }

-- ---- one after another

joined : (c : Config) (s : ℕ) (why : Why) (past mid since : List Act) → LeftBy c s why past mid → LeftBy c s why mid since → LeftBy c s why past since
joined c s why past mid all r stayed = r
joined c s why past mid all r (closed q since here t) = closed q since here (joined c s why past mid since r t)
joined c s why past mid all r (acted act since here k m t) = acted act since here k m (joined c s why past mid since r t)

pub leaves_then : (c : Config) (old mid new : Seen) (why : Why) (x y z : Session) (d e f : Door) → LeavesOn c old mid why x y d e → LeavesOn c mid new why y z e f → LeavesOn c old new why x z d f
leaves_then c old mid new why x y z d e f one two = λ n start past s l.
    let a = one n start past s l in
    let b = two n start a.since s a.leaves in
    record { since = b.since; left = joined c s why past a.since b.since a.left b.left; leaves = b.leaves }

pub leaves_first : (c : Config) (now : Seen) (why : Why) (x : Session) (d : Door) → LeavesOn c now now why x x d d
leaves_first c now why x d = λ n start past s l. record { since = past; left = stayed; leaves = l }

pub some_leaves_on : (c : Config) (old new : Seen) (why : Why) (x y : Session) (d e : Door) → SomeLeaves c old why x d → LeavesOn c old new why x y d e → SomeLeaves c new why y e
some_leaves_on c old new why x y d e at k = let o = k at.n at.start at.past at.s at.leaves in record { n = at.n; start = at.start; past = o.since; s = at.s; leaves = o.leaves }
