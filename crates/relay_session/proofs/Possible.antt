-- That a world can be asked for the call that is wished for.
use Rattle.std.proofs.Common.{◌≡◌, refl, sym, ap, subst, ◌∙◌, ℕ, Bool, true, false, not, cond, ◌&&◌, ◌||◌, nat_le, List, [], ◌∷◌, ◌++◌, Option, Some, None, is_some, is_none, arith, inl, inr, ◌⊎◌}
use Rattle.std.proofs.lemmas.Bool.{false≢true, true≢false, and_parts, and_right, and_from, or_parts, or_from, false_from_ne_true}
use Rattle.relay_model.specs.declared.places.Place.{Place}
use Rattle.relay_model.specs.declared.commands.Config.{Config}
use Rattle.relay_model.specs.declared.commands.Dump.TheVariants as dumps
use Rattle.relay_model.specs.declared.commands.Target.{Target}
use Rattle.relay_model.specs.declared.commands.Target.TheVariants as targets
use Rattle.relay_model.specs.declared.acts.Act.{Act}
use Rattle.relay_model.specs.declared.acts.Act.TheVariants.{Opened, OpenLater, OpenFailed, Listening, ListenFailed, Accepted, Shut, ShutFault, Closed, Reaped}
use Rattle.relay_model.specs.declared.acts.Why.{Why}
use Rattle.relay_model.specs.declared.acts.Why.TheVariants as whys
use Rattle.relay_model.specs.Places.{same_place, door_of}
use Rattle.relay_model.specs.Choices.{only_if, first_some}
use Rattle.relay_model.specs.Configs.{input, output, places, things, Fit, program_door, is_program_door, way_from, way_to, options_of, has_fork, has_own_door, is_left, is_of, is_program, listens, listens_at, medium, medium_of, single}
use Rattle.relay_model.specs.Holding.{Hold, Free, Settling, Open, ShutDown, standing, is_free, is_open}
use Rattle.relay_model.specs.History.{now, stage, held, holds_at, woken, failures, shut_at, memory_said, stop_said, was_closed, was_reaped, reaped_since}
use Rattle.relay_model.specs.declared.stages.Stage.{Stage}
use Rattle.relay_model.specs.declared.stages.Stage.TheVariants.{Untried, Usable, Unsettled, Failed, Met, Waiting, Gone}
use Rattle.relay_model.specs.Arming.{armed_to_accept}
use Rattle.relay_model.specs.Sessions.{permits, holds, live}
use Rattle.relay_model.specs.Tries.{next_due}
use Rattle.relay_model.specs.Moments.{passed, closing_moment, idle_moment, reached}
use Rattle.relay_model.specs.Openings.{out_of_tries, when_due, try_again, is_ready, stands_ready, ready, opening_call, listening_call, peer_call, place_call, first_call}
use Rattle.relay_model.specs.declared.calls.Call.{Call}
use Rattle.relay_model.specs.declared.calls.Call.TheVariants.{Nothing, TryAt, Accept, Listen, Refuse, Serve}
use Rattle.relay_model.specs.declared.calls.Call.TheVariants as calls
use Rattle.relay_model.specs.Cause.{cause, closed_why, is_end, accept_failed_for, listening_failed, opening_failed, faulted, finished}
use Rattle.relay_model.specs.Calls.{call, called_at, door_call}
use Rattle.relay_model.specs.Rest.{is_going, Rest, SessionRests, until_of}
use Rattle.relay_model.specs.Laws.{Tells, DoorTells}
use Rattle.relay_laws.proofs.Admissions.{door_says}
use Rattle.relay_model.specs.May.{Legal, Licensed, by_cause, by_refusal, by_service, by_door, by_memory, by_turns, MayOpen}
use Rattle.relay_laws.proofs.PlaceLemmas.{same_place_equal}
use Rattle.relay_laws.proofs.CallLemmas.{call_tells}
use Rattle.relay_laws.proofs.Holdings.{input_passes, moves_formed, moves_running, running_ready, standing_held}
use Rattle.relay_session.specs.declared.states.State.{State}
use Rattle.relay_session.specs.declared.wishes.Wish.{Wish}
use Rattle.relay_session.specs.declared.wishes.Wish.TheVariants as wishes
use Rattle.relay_session.specs.Standings.{StandsFor}
use Rattle.relay_session.specs.Endings.{EndingIs}
use Rattle.relay_session.specs.Timers.{session_until}
use Rattle.relay_session.specs.States.{Fields, Wished, Allowed}
use Rattle.relay_session.specs.Conditions.{CanBeMade}
use Rattle.relay_session.proofs.Own.{NamesOwn}
use Rattle.relay_session.proofs.Homes.{is_called_out, unlistening_off}
use Rattle.relay_session.proofs.Conditions.{call_names}
use Rattle.relay_session.proofs.Causes.{ends_at, plain_end}
use Rattle.relay_session.proofs.Held.{among, holds_held}
use Rattle.relay_session.proofs.Waiting.{rest_of, until_alone}
use Rattle.relay_session.proofs.Standings.{standing_of, standing_at, output_ready, open_where_unshut}

-- ---- how a thing stands

free_of : (hold : Hold) → is_free hold ≡ true → hold ≡ Free
free_of Free e = refl
free_of Settling e = absurd (false≢true e)
free_of Open e = absurd (false≢true e)
free_of ShutDown e = absurd (false≢true e)

pub unheld_free : (c : Config) (n : ℕ) (past : List Act) (p : Place) → Legal c n past → held past p ≡ false → standing past p ≡ Free
unheld_free c n past p legal e = free_of (standing past p) (standing_held c n past p legal ∙ ap not e)

pub held_taken : (c : Config) (n : ℕ) (past : List Act) (p : Place) → Legal c n past → held past p ≡ true → is_free (standing past p) ≡ false
held_taken c n past p legal e = standing_held c n past p legal ∙ ap not e

ready_open : (c : Config) (past : List Act) (p : Place) (st : Stage) (hold : Hold) → stands_ready c past p st ≡ true → StandsFor st hold → is_open hold ≡ true
ready_open c past p Usable hold e h = h
ready_open c past p (Met peer) hold e h = h
ready_open c past p Untried hold e h = absurd (false≢true e)
ready_open c past p Unsettled hold e h = absurd (false≢true e)
ready_open c past p Failed hold e h = absurd (false≢true e)
ready_open c past p Waiting hold e h = absurd (false≢true e)
ready_open c past p (Gone why) hold e h = absurd (false≢true e)

open_where_ready : (c : Config) (n : ℕ) (past : List Act) (p : Place) → Legal c n past → is_ready c past p ≡ true → is_open (standing past p) ≡ true
open_where_ready c n past p legal r = ready_open c past p (stage past p) (standing past p) r (standing_of c n past p legal)

-- ---- reads and writes

input_ready : (c : Config) (past : List Act) (p : Place) → same_place p (input c p.session (way_from p.side)) ≡ true → is_going c past p.session (way_from p.side) ≡ true → is_ready c past p ≡ true
input_ready c past p same moving =
    let w = way_from p.side in
    let r = input_passes c (is_ready c past) p.session w (moves_formed c past p.session w moving) (running_ready c past p.session (moves_running c past p.session w moving)) in
    subst (λ q. is_ready c past q ≡ true) (sym (same_place_equal p (input c p.session w) same)) r

never_shut : (o : Option ℕ) → is_some o ≡ false → o ≡ None
never_shut None e = refl
never_shut (Some at) e = absurd (true≢false e)

-- the output of a direction that moves and hasn't passed its end is plainly open
output_open : (c : Config) (n : ℕ) (past : List Act) (p : Place) → Legal c n past → same_place p (output c p.session (way_to p.side)) ≡ true → is_going c past p.session (way_to p.side) ≡ true → passed c past p.session (way_to p.side) ≡ false → standing past p ≡ Open
output_open c n past p legal same moving unpassed =
    open_where_unshut past p (open_where_ready c n past p legal (output_ready c past p same moving))
    (never_shut (shut_at past p) (subst (λ q. is_some (shut_at past q) ≡ false) (sym (same_place_equal p (output c p.session (way_to p.side)) same)) unpassed))

-- ---- a door that waits for a peer

skipped : (b : Bool) (at : ℕ) (old : Option ℕ) → (b ≡ true → ⊥) → old ≡ None → cond b (Some at) old ≡ None
skipped true at old no_door e = absurd (no_door refl)
skipped false at old no_door e = e

no_output : (c : Config) (q d : Place) → d.door ≡ true → same_place q (output c q.session (way_to q.side)) ≡ true → same_place q d ≡ true → ⊥
no_output c q d door same e =
    let plain : q.door ≡ false = ap (λ x. x.door) (same_place_equal q (output c q.session (way_to q.side)) same) in
    let equal : q.door ≡ d.door = ap (λ x. x.door) (same_place_equal q d e) in
    false≢true (sym plain ∙ equal ∙ door)

-- an end is passed on at outputs alone, which are no doors
pub door_unshut : (c : Config) (n : ℕ) (past : List Act) (d : Place) → d.door ≡ true → Legal c n past → shut_at past d ≡ None
door_unshut c n [] d door legal = refl
door_unshut c n (Shut q way ∷ past) d door legal = let ih = door_unshut c n past d door legal.1 in skipped (same_place q d) (now past) (shut_at past d) (no_output c q d door legal.0.1.is_output) ih
door_unshut c n (ShutFault q way ∷ past) d door legal = let ih = door_unshut c n past d door legal.1 in skipped (same_place q d) (now past) (shut_at past d) (no_output c q d door legal.0.1.is_output) ih
door_unshut c n (act ∷ past) d door legal = door_unshut c n past d door legal.1

-- ---- what is called for where peers come

abbrev is_met : Stage → Bool
is_met (Met peer) = true
is_met st = false

-- an accepting, a refusal and a service come where the address listens, the first while no peer is there
abbrev Peered : Config → List Act → Call → Type 0
Peered c past (Accept d p) = (listens_at c p ≡ true) × (is_met (stage past p) ≡ false)
Peered c past (Refuse p) = listens_at c p ≡ true
Peered c past (Serve d) = listens_at c d ≡ true
Peered c past other = Unit {0}

choose : (c : Config) (past : List Act) (b : Bool) (one other : Call) → (b ≡ true → Peered c past one) → (b ≡ false → Peered c past other) → Peered c past (cond b one other)
choose c past true one other t f = t refl
choose c past false one other t f = f refl

due : (c : Config) (past : List Act) (at : ℕ) (o : Option ℕ) (wanted : Call) → Peered c past wanted → Peered c past (when_due at o wanted)
due c past at None wanted t = tt
due c past at (Some m) wanted t = choose c past (nat_le m at) wanted (TryAt m) (λ _. t) (λ _. tt)

again : (c : Config) (past : List Act) (p : Place) (wanted : Call) → Peered c past wanted → Peered c past (try_again c past p wanted)
again c past p wanted t =
    choose c past (out_of_tries c past p) Nothing (when_due (now past) (next_due (options_of c p).tries.interval (failures past p)) wanted) (λ _. tt)
    (λ _. due c past (now past) (next_due (options_of c p).tries.interval (failures past p)) wanted t)

opening : (c : Config) (past : List Act) (p : Place) (st : Stage) → Peered c past (opening_call c past p st)
opening c past p Untried = tt
opening c past p Unsettled = choose c past (woken past p) (calls.Settle p) Nothing (λ _. tt) (λ _. tt)
opening c past p Failed = again c past p (calls.Open p) tt
opening c past p st = tt

listening : (c : Config) (past : List Act) (d p : Place) (st : Stage) → listens_at c p ≡ true → is_met (stage past p) ≡ false → Peered c past (listening_call c past d p st)
listening c past d p Untried l m = tt
listening c past d p Failed l m = again c past d (Listen d) tt
listening c past d p Waiting l m = choose c past (armed_to_accept past d) (Accept d p) Nothing (λ _. (l, m)) (λ _. tt)
listening c past d p st l m = tt

peer : (c : Config) (past : List Act) (p : Place) (st : Stage) → stage past p ≡ st → listens_at c p ≡ true → Peered c past (peer_call c past p st)
peer c past p (Met met) e l =
    choose c past (permits c p met) (cond (held past (door_of p)) (Serve (door_of p)) Nothing) (Refuse p)
    (λ _. choose c past (held past (door_of p)) (Serve (door_of p)) Nothing (λ _. l) (λ _. tt))
    (λ _. l)
peer c past p st e l = listening c past (door_of p) p (stage past (door_of p)) l (ap is_met e)

at_place : (c : Config) (past : List Act) (p : Place) → Peered c past (place_call c past p)
at_place c past p =
    choose c past (has_own_door c p) (peer_call c past p (stage past p)) (cond (listens_at c p) Nothing (opening_call c past p (stage past p)))
    (λ e. peer c past p (stage past p) refl (and_parts (listens_at c p) (not (is_left p && has_fork c)) e).0)
    (λ _. choose c past (listens_at c p) Nothing (opening_call c past p (stage past p)) (λ _. tt) (λ _. opening c past p (stage past p)))

first : (c : Config) (past : List Act) (ps : List Place) → Peered c past (first_call c past ps)
first c past [] = tt
first c past (p ∷ ps) = let ih = first c past ps in choose c past (is_ready c past p) (first_call c past ps) (place_call c past p) (λ _. ih) (λ _. at_place c past p)

call_peered : (c : Config) (past : List Act) (s : ℕ) → Peered c past (call c past s)
call_peered c past s = choose c past (live c past s && is_none (cause c past s)) (first_call c past (places c s)) Nothing (λ _. first c past (places c s)) (λ _. tt)

-- ---- a place that listens is held by its peer alone

abbrev by_peer : Stage → Bool
by_peer Usable = false
by_peer Unsettled = false
by_peer Waiting = false
by_peer st = true

step : (b : Bool) (st old : Stage) → (b ≡ true → by_peer st ≡ true) → by_peer old ≡ true → by_peer (cond b st old) ≡ true
step true st old now_so before = now_so refl
step false st old now_so before = before

opened_silent : (c : Config) (past : List Act) (q : Place) → MayOpen c past q → listens_at c q ≡ false
opened_silent c past q (inl e) = go (is_called_out c q) e
  where
    go : (b : Bool) → cond b (door_call c past) (call c past q.session) ≡ calls.Open q → listens_at c q ≡ false
    go true x = absurd (subst (DoorTells c past) x (door_says c past))
    go false x = (subst (NamesOwn c q.session) x (call_names c past q.session)).1
opened_silent c past q (inr e) = go (is_called_out c q) e
  where
    go : (b : Bool) → cond b (door_call c past) (call c past q.session) ≡ calls.Settle q → listens_at c q ≡ false
    go true x = absurd (subst (DoorTells c past) x (door_says c past))
    go false x = (subst (NamesOwn c q.session) x (call_names c past q.session)).1

opened_elsewhere : (c : Config) (past : List Act) (q p : Place) → listens_at c p ≡ true → MayOpen c past q → same_place q p ≡ true → ⊥
opened_elsewhere c past q p l may e = false≢true (sym (opened_silent c past q may) ∙ ap (listens_at c) (same_place_equal q p e) ∙ l)

listened_door : (c : Config) (past : List Act) (d : Place) → called_at c past d ≡ Listen d → d.door ≡ true
listened_door c past d e = go (is_called_out c d) e
  where
    go : (b : Bool) → cond b (door_call c past) (call c past d.session) ≡ Listen d → d.door ≡ true
    go true x = ap (λ (y : Place). y.door) (subst (DoorTells c past) x (door_says c past))
    go false x = (subst (NamesOwn c d.session) x (call_names c past d.session)).door

listened_elsewhere : (c : Config) (past : List Act) (d p : Place) → p.door ≡ false → called_at c past d ≡ Listen d → same_place d p ≡ true → ⊥
listened_elsewhere c past d p plain called e =
    let equal : d.door ≡ p.door = ap (λ x. x.door) (same_place_equal d p e) in
    false≢true (sym plain ∙ sym equal ∙ listened_door c past d called)

listener : (c : Config) (n : ℕ) (past : List Act) (p : Place) → listens_at c p ≡ true → p.door ≡ false → Legal c n past → by_peer (stage past p) ≡ true
listener c n [] p l plain legal = refl
listener c n (Opened q ∷ past) p l plain legal = let ih = listener c n past p l plain legal.1 in step (same_place q p) Usable (stage past p) (λ e. absurd (opened_elsewhere c past q p l legal.0.1 e)) ih
listener c n (OpenLater q ∷ past) p l plain legal = let ih = listener c n past p l plain legal.1 in step (same_place q p) Unsettled (stage past p) (λ e. absurd (opened_elsewhere c past q p l legal.0.1 e)) ih
listener c n (OpenFailed q ∷ past) p l plain legal = let ih = listener c n past p l plain legal.1 in step (same_place q p) Failed (stage past p) (λ e. refl) ih
listener c n (Listening q ∷ past) p l plain legal = let ih = listener c n past p l plain legal.1 in step (same_place q p) Waiting (stage past p) (λ e. absurd (listened_elsewhere c past q p plain legal.0.1 e)) ih
listener c n (ListenFailed q ∷ past) p l plain legal = let ih = listener c n past p l plain legal.1 in step (same_place q p) Failed (stage past p) (λ e. refl) ih
listener c n (Accepted q visitor ∷ past) p l plain legal = let ih = listener c n past p l plain legal.1 in step (same_place q p) (Met visitor) (stage past p) (λ e. refl) ih
listener c n (Closed q why ∷ past) p l plain legal = let ih = listener c n past p l plain legal.1 in step (same_place q p) (Gone why) (stage past p) (λ e. refl) ih
listener c n (act ∷ past) p l plain legal = listener c n past p l plain legal.1

unmet : (st : Stage) → by_peer st ≡ true → is_met st ≡ false → holds_at st ≡ false
unmet Untried b m = refl
unmet Usable b m = absurd (false≢true b)
unmet Unsettled b m = absurd (false≢true b)
unmet Failed b m = refl
unmet (Met visitor) b m = absurd (true≢false m)
unmet Waiting b m = absurd (false≢true b)
unmet (Gone why) b m = refl

-- where an accepting is called for, the door is open and the place is free
accept_stands : (c : Config) (n : ℕ) (past : List Act) (s : ℕ) (d p : Place) → Legal c n past → call c past s ≡ Accept d p → (standing past d ≡ Open) × (standing past p ≡ Free)
accept_stands c n past s d p legal e =
    let own = subst (NamesOwn c s) e (call_names c past s) in
    let told = subst (Tells past) e (call_tells c past s) in
    let peered = subst (Peered c past) e (call_peered c past s) in (
      open_where_unshut past d (standing_at c n past d Waiting legal told.0) (door_unshut c n past d own.0.door legal),
      unheld_free c n past p legal (unmet (stage past p) (listener c n past p peered.0 own.1.plain legal) peered.1),
    )

-- ---- a closed child

no_listener : (target : Target) → is_program (medium target) ≡ true → listens target ≡ false
no_listener (targets.Exec words) e = refl
no_listener (targets.System command) e = refl
no_listener target e = absurd (false≢true e)

-- its session was closed for a reason that ends it, and the place isn't held
pub record Over (c : Config) (past : List Act) (p : Place) : Type 0 where
  pub closed : is_some (closed_why c past p.session) ≡ true
  pub free : held past p ≡ false

some_first : (k : Option Why) (others : List (Option Why)) → is_some k ≡ true → is_none (first_some (k ∷ others)) ≡ false
some_first None others e = absurd (false≢true e)
some_first (Some why) others e = refl

-- what is called for at a place of a program is the session's to call for
called_inside : (c : Config) (past : List Act) (p : Place) → Fit c → is_program (medium_of c p) ≡ true → called_at c past p ≡ call c past p.session
called_inside c past p fit program = ap (λ b. cond b (door_call c past) (call c past p.session)) (unlistening_off c p fit (no_listener (single c p).target program))

silent : (c : Config) (past : List Act) (p : Place) → Fit c → is_program (medium_of c p) ≡ true → is_some (closed_why c past p.session) ≡ true → called_at c past p ≡ Nothing
silent c past p fit program e =
    let s = p.session in
    let n : is_none (cause c past s) ≡ false = some_first (closed_why c past s) (only_if (memory_said past) whys.Memory ∷ only_if (stop_said past) whys.Stopped ∷ only_if (accept_failed_for c past s) whys.AcceptFailed ∷ only_if (listening_failed c past s) whys.ListenFailed ∷ only_if (opening_failed c past s) whys.OpenFailed ∷ only_if (faulted c past s) whys.Faulted ∷ only_if (finished c past s) whys.Finished ∷ only_if (ready c past s && reached (closing_moment c past s) (now past)) whys.ClosingTime ∷ only_if (ready c past s && reached (idle_moment c past s) (now past)) whys.Idle ∷ []) e in
    called_inside c past p fit program ∙ ap (λ b. cond b (first_call c past (places c s)) Nothing) (and_right (live c past s) (is_none (cause c past s)) n)

opens_not : (c : Config) (past : List Act) (q : Place) → called_at c past q ≡ Nothing → MayOpen c past q → ⊥
opens_not c past q none (inl e) = let x : Nothing ≡ calls.Open q = sym none ∙ e in cc
opens_not c past q none (inr e) = let x : Nothing ≡ calls.Settle q = sym none ∙ e in cc

listens_not : (c : Config) (past : List Act) (q : Place) → called_at c past q ≡ Nothing → called_at c past q ≡ Listen q → ⊥
listens_not c past q none e = let x : Nothing ≡ Listen q = sym none ∙ e in cc

accepts_not : (c : Config) (past : List Act) (q d : Place) → called_at c past q ≡ Nothing → called_at c past q ≡ Accept d q → ⊥
accepts_not c past q d none e = let x : Nothing ≡ Accept d q = sym none ∙ e in cc

-- the program door is no program
child_inside : (c : Config) (p : Place) → Fit c → is_program (medium_of c p) ≡ true → is_program_door c p ≡ false
child_inside c p fit program =
    false_from_ne_true (is_program_door c p)
    (λ d. let a = and_parts (same_place p program_door) (has_fork c) d in
    let here : is_called_out c p ≡ true = and_from (is_left p) (has_fork c) (ap is_left (same_place_equal p program_door a.0)) a.1 in
    true≢false (sym here ∙ unlistening_off c p fit (no_listener (single c p).target program)))

-- a closing of a program ends its session, or this was closed before
ends_session : (c : Config) (n : ℕ) (past : List Act) (q : Place) (why : Why) → Fit c → is_program (medium_of c q) ≡ true → Licensed c n past q why → (is_end q why ≡ true) ⊎ (is_some (closed_why c past q.session) ≡ true)
ends_session c n past q why fit program (by_cause d e) = go (closed_why c past q.session) refl e
  where
    go : (k : Option Why) → closed_why c past q.session ≡ k → cause c past q.session ≡ Some why → (is_end q why ≡ true) ⊎ (is_some (closed_why c past q.session) ≡ true)
    go (Some other) f caused = inr (ap is_some f)
    go None f caused = inl (ends_at q (listening_failed c past q.session) (opening_failed c past q.session) (faulted c past q.session) (finished c past q.session) (ready c past q.session && reached (closing_moment c past q.session) (now past)) (ready c past q.session && reached (idle_moment c past q.session) (now past)) (memory_said past) (stop_said past) (accept_failed_for c past q.session) why (rw f at caused))
ends_session c n past q why fit program (by_refusal e k) = absurd (false≢true (sym (no_listener (single c q).target program) ∙ subst (Peered c past) (sym (called_inside c past q fit program) ∙ k) (call_peered c past q.session)))
ends_session c n past q why fit program (by_service e k) = absurd (false≢true (sym (no_listener (single c q).target program) ∙ subst (Peered c past) (sym (called_inside c past q fit program) ∙ k) (call_peered c past q.session)))
ends_session c n past q why fit program (by_door d e) = absurd (false≢true (sym (child_inside c q fit program) ∙ d))
ends_session c n past q why fit program (by_memory e k) = inl (rw e (plain_end q.door))
ends_session c n past q why fit program (by_turns e t r) = inl (rw e (plain_end q.door))

closed_here : (own ends : Bool) (why : Why) (before : Option Why) → own ≡ true → (ends ≡ true) ⊎ (is_some before ≡ true) → is_some (cond (own && ends) (Some why) before) ≡ true
closed_here true true why before o h = refl
closed_here true false why before o (inl e) = absurd (false≢true e)
closed_here true false why before o (inr e) = e
closed_here false ends why before o h = absurd (false≢true o)

closed_before : (b : Bool) (why : Why) (before : Option Why) → is_some before ≡ true → is_some (cond b (Some why) before) ≡ true
closed_before true why before e = refl
closed_before false why before e = e

-- an act that opens something is elsewhere
spared : (b : Bool) (st old : Stage) → (b ≡ true → ⊥) → holds_at old ≡ false → holds_at (cond b st old) ≡ false
spared true st old never e = absurd (never refl)
spared false st old never e = e

failed : (b : Bool) (old : Stage) → holds_at old ≡ false → holds_at (cond b Failed old) ≡ false
failed true old e = refl
failed false old e = e

-- once a program was closed, it is held no more and its session is over
pub child_over : (c : Config) (n : ℕ) (past : List Act) (p : Place) → Fit c → is_of c p.session p ≡ true → is_program (medium_of c p) ≡ true → Legal c n past → was_closed past p ≡ true → Over c past p
child_over c n [] p fit own program legal e = absurd (false≢true e)
child_over c n (Opened q ∷ past) p fit own program legal e =
    let ih = child_over c n past p fit own program legal.1 e in
    record { closed = ih.closed; free = spared (same_place q p) Usable (stage past p) (λ s. opens_not c past p (silent c past p fit program ih.closed) (subst (MayOpen c past) (same_place_equal q p s) legal.0.1)) ih.free }
child_over c n (OpenLater q ∷ past) p fit own program legal e =
    let ih = child_over c n past p fit own program legal.1 e in
    record { closed = ih.closed; free = spared (same_place q p) Unsettled (stage past p) (λ s. opens_not c past p (silent c past p fit program ih.closed) (subst (MayOpen c past) (same_place_equal q p s) legal.0.1)) ih.free }
child_over c n (OpenFailed q ∷ past) p fit own program legal e =
    let ih = child_over c n past p fit own program legal.1 e in
    record { closed = ih.closed; free = failed (same_place q p) (stage past p) ih.free }
child_over c n (Listening q ∷ past) p fit own program legal e =
    let ih = child_over c n past p fit own program legal.1 e in
    record { closed = ih.closed; free = spared (same_place q p) Waiting (stage past p) (λ s. listens_not c past p (silent c past p fit program ih.closed) (subst (λ (x : Place). called_at c past x ≡ Listen x) (same_place_equal q p s) legal.0.1)) ih.free }
child_over c n (ListenFailed q ∷ past) p fit own program legal e =
    let ih = child_over c n past p fit own program legal.1 e in
    record { closed = ih.closed; free = failed (same_place q p) (stage past p) ih.free }
child_over c n (Accepted q visitor ∷ past) p fit own program legal e =
    let ih = child_over c n past p fit own program legal.1 e in
    record { closed = ih.closed; free = spared (same_place q p) (Met visitor) (stage past p) (λ s. accepts_not c past p legal.0.1.0 (silent c past p fit program ih.closed) (subst (λ (x : Place). called_at c past x ≡ Accept legal.0.1.0 x) (same_place_equal q p s) legal.0.1.1)) ih.free }
child_over c n (Closed q why ∷ past) p fit own program legal e =
    go (same_place q p) refl e (child_over c n past p fit own program legal.1)
  where
    go : (b : Bool) → same_place q p ≡ b → (b || was_closed past p) ≡ true → (was_closed past p ≡ true → Over c past p) → Over c (Closed q why ∷ past) p
    go true s w ih =
        let same = same_place_equal q p s in
        let child : is_program (medium_of c q) ≡ true = subst (λ x. is_program (medium_of c x) ≡ true) (sym same) program in
        let mine : is_of c p.session q ≡ true = subst (λ x. is_of c p.session x ≡ true) (sym same) own in
        let ends : (is_end q why ≡ true) ⊎ (is_some (closed_why c past p.session) ≡ true) = subst (λ (x : Place). (is_end q why ≡ true) ⊎ (is_some (closed_why c past x.session) ≡ true)) same (ends_session c n past q why fit child legal.0.licensed) in
        record {
          closed = closed_here (is_of c p.session q) (is_end q why) why (closed_why c past p.session) mine ends;
          free = subst (λ b. holds_at (cond b (Gone why) (stage past p)) ≡ false) (sym s) refl;
        }
    go false s w ih =
        let over = ih w in
        record {
          closed = closed_before (is_of c p.session q && is_end q why) why (closed_why c past p.session) over.closed;
          free = subst (λ b. holds_at (cond b (Gone why) (stage past p)) ≡ false) (sym s) over.free;
        }
child_over c n (act ∷ past) p fit own program legal e =
    let over = child_over c n past p fit own program legal.1 e in
    record { closed = over.closed; free = over.free }

closing : (same closed since : Bool) → (same || closed) ≡ true → (closed ≡ true → since ≡ false) → (not same && since) ≡ false
closing true closed since e ih = refl
closing false closed since e ih = ih e

-- what was closed and never reaped wasn't reaped since then
unreaped : (past older : List Act) (p : Place) → was_closed past p ≡ true → was_reaped past p ≡ false → reaped_since (past ++ older) p ≡ false
unreaped [] older p closed reaped = absurd (false≢true closed)
unreaped (Closed q why ∷ past) older p closed reaped = let ih = unreaped past older p in closing (same_place q p) (was_closed past p) (reaped_since (past ++ older) p) closed (λ e. ih e reaped)
unreaped (Reaped q end ∷ past) older p closed reaped =
    let parts = or_parts (same_place q p) (was_reaped past p) reaped in
    or_from (same_place q p) (reaped_since (past ++ older) p) parts.0 (unreaped past older p closed parts.1)
unreaped (act ∷ past) older p closed reaped = unreaped past older p closed reaped

-- ---- all calls

own_free : (c : Config) (n : ℕ) (past : List Act) (s : ℕ) (p : Place) → Legal c n past → holds c past s ≡ false → is_of c s p ≡ true → standing past p ≡ Free
own_free c n past s p legal e own = unheld_free c n past p legal (false_from_ne_true (held past p) (λ h. false≢true (sym e ∙ among (held past) p (things c s) own h)))

-- a world can be asked for what is wished for
pub can_be_made : (c : Config) (n : ℕ) (past : List Act) (s : ℕ) (wish : Wish) → Fit c → Legal c n past → Wished c n past s wish → CanBeMade c s past wish
can_be_made c n past s (wishes.Open p) fit legal h = unheld_free c n past p legal (subst (Tells past) h (call_tells c past s))
can_be_made c n past s (wishes.Settle p) fit legal h = standing_at c n past p Unsettled legal (subst (Tells past) h (call_tells c past s)).0
can_be_made c n past s (wishes.Listen d) fit legal h = unheld_free c n past d legal (subst (Tells past) h (call_tells c past s))
can_be_made c n past s (wishes.Accept d p) fit legal h = accept_stands c n past s d p legal h.0
can_be_made c n past s (wishes.Read p at_most) fit legal h = (open_where_ready c n past p legal (input_ready c past p h.may.asks.is_input h.may.asks.moving), let some = h.may.some_bytes in omega (arith, some))
can_be_made c n past s (wishes.Write p) fit legal h = output_open c n past p legal h.may.offers.is_output h.may.offers.moving h.may.offers.not_passed
can_be_made c n past s (wishes.Send p) fit legal h = output_open c n past p legal h.may.offers.is_output h.may.offers.moving h.may.offers.not_passed
can_be_made c n past s (wishes.Shut p how) fit legal h = output_open c n past p legal h.may.is_output h.may.moving h.may.not_passed
can_be_made c n past s (wishes.Close q why) fit legal h = held_taken c n past q legal h.is_held
can_be_made c n past s (wishes.Reap p) fit legal h =
    (unheld_free c n past p legal (child_over c n past p fit (subst (λ (x : ℕ). is_of c x p ≡ true) (sym h.own) h.among) h.may.is_child legal h.may.closed).free, λ older. unreaped past older p h.may.closed h.may.first)
can_be_made c n past s (wishes.Sleep until) fit legal h = tt
can_be_made c n past s (wishes.Done why) fit legal h = λ p own. own_free c n past s p legal h.nothing_held own

-- without fork nothing at all is held where the one session is done
pub free_when_done : (c : Config) (n : ℕ) (past : List Act) (s : ℕ) (wish : Wish) (why : Why) → has_fork c ≡ false → s ≡ 0 → Legal c n past → Wished c n past s wish → wish ≡ wishes.Done why → (p : Place) → standing past p ≡ Free
free_when_done c n past s wish why alone first legal wished e p =
    let none_held : holds c past 0 ≡ false = subst (λ x. holds c past x ≡ false) first (subst (Wished c n past s) e wished).nothing_held in
    unheld_free c n past p legal (false_from_ne_true (held past p) (λ h. false≢true (sym none_held ∙ holds_held c n past p alone legal h)))

-- ---- rest

-- a session without dump that sleeps does so at rest, and until the moment of the whole
pub rests_asleep : (c : Config) (n : ℕ) (past : List Act) (s : ℕ) (st : State) (wish : Wish) (until : Option ℕ) → has_fork c ≡ false → s ≡ 0 → Fields c n past s st → Allowed c n past s st wish → Legal c n past → c.dump ≡ dumps.Off → wish ≡ wishes.Sleep until → Rest c past × (until ≡ until_of c past)
rests_asleep c n past s st wish until alone first f allowed legal silent_dump e =
    let a = subst (Allowed c n past s st) e allowed in
    let quiet = (subst (EndingIs c n past s) a.1 f.ending_is).1 in
    let ground = f.ground in (
      rest_of c n past alone silent_dump legal (subst (λ x. cause c past x ≡ None) first quiet) (subst (SessionRests c past) first a.0.rests),
      a.0.until_is ∙ ap (session_until c past) first ∙ sym (until_alone c past alone),
    )
