-- The program door of `fork`: how many peers it admits, and how many sessions live.
use Rattle.std.proofs.Common.{is_some, ◌≡◌, refl, sym, ap, subst, ◌∙◌, ℕ, zero, suc, ◌<◌, ◌≤◌, Bool, true, false, not, cond, ◌&&◌, ◌||◌, ◌==◌, nat_le, nat_lt, is_none, List, [], ◌∷◌, Option, Some, None, arith, inl, inr, ◌⊎◌, le_trans}
use Rattle.std.specs.List.{list_any}
use Rattle.std.proofs.lemmas.Bool.{and_right, false≢true, true≢false, and_parts, and_from, or_parts, or_from, leb-false, lt-ltb, false_from_ne_true, cases_Bool}
use Rattle.relay_model.specs.declared.places.Place.{Place}
use Rattle.relay_model.specs.declared.commands.Config.{Config}
use Rattle.relay_model.specs.declared.acts.Peer.{Peer}
use Rattle.relay_model.specs.declared.acts.Act.{Act}
use Rattle.relay_model.specs.declared.acts.Act.TheVariants.{Turn, Opened, OpenLater, OpenFailed, Listening, ListenFailed, Accepted, NoPeer, AcceptFailed, Read, ReadEmpty, ReadEnd, ReadNotYet, ReadFault, Wrote, WriteNotYet, WriteFault, Shut, ShutFault, Closed, Reaped, Note, NoteFault}
use Rattle.relay_model.specs.Places.{same_place}
use Rattle.relay_model.specs.Choices.{one_more, count}
use Rattle.relay_model.specs.Configs.{places, things, options_of, has_fork, is_left, program_door, is_program_door}
use Rattle.relay_model.specs.History.{now, stage, held, failures}
use Rattle.relay_model.specs.declared.stages.Stage.{Stage}
use Rattle.relay_model.specs.declared.stages.Stage.TheVariants.{Untried, Failed, Waiting}
use Rattle.relay_model.specs.Arming.{armed_to_accept}
use Rattle.relay_model.specs.Sessions.{numbers, permits, live, live_count, holds, admitted, is_admission, next_place, door_options}
use Rattle.relay_model.specs.Tries.{next_due}
use Rattle.relay_model.specs.Openings.{out_of_tries, when_due, try_again, listening_call, first_call}
use Rattle.relay_model.specs.declared.calls.Call.{Call}
use Rattle.relay_model.specs.declared.calls.Call.TheVariants.{Nothing, TryAt, Open, Settle, Listen, Accept, Refuse, Serve}
use Rattle.relay_model.specs.Cause.{cause}
use Rattle.relay_model.specs.Calls.{call, door_cut, enough, full, program_door_call, door_call, called_at}
use Rattle.relay_model.specs.May.{Legal}
use Rattle.relay_model.specs.Laws.{DoorTells, begins_holding}
use Rattle.relay_laws.proofs.PlaceLemmas.{same_place_equal}
use Rattle.relay_laws.proofs.Holdings.{stays_over}
use Rattle.relay_laws.proofs.OwnThings.{EachOwn, each_thing}

-- ---- what the door's call says

choice : (c : Config) (past : List Act) (b : Bool) (one other : Call) → (b ≡ true → DoorTells c past one) → (b ≡ false → DoorTells c past other) → DoorTells c past (cond b one other)
choice c past true one other t f = t refl
choice c past false one other t f = f refl

listen_due : (c : Config) (past : List Act) (o : Option ℕ) → DoorTells c past (when_due (now past) o (Listen program_door))
listen_due c past None = tt
listen_due c past (Some m) = choice c past (nat_le m (now past)) (Listen program_door) (TryAt m) (λ _. refl) (λ _. tt)

listen_again : (c : Config) (past : List Act) → DoorTells c past (try_again c past program_door (Listen program_door))
listen_again c past = choice c past (out_of_tries c past program_door) Nothing (when_due (now past) (next_due (options_of c program_door).tries.interval (failures past program_door)) (Listen program_door)) (λ _. tt) (λ _. listen_due c past (next_due (options_of c program_door).tries.interval (failures past program_door)))

stage_tells : (c : Config) (past : List Act) (st : Stage) → DoorTells c past (program_door_call c past st)
stage_tells c past Untried = refl
stage_tells c past Failed = listen_again c past
stage_tells c past Waiting =
    choice c past (enough c past) (Serve program_door) (cond (full c past) Nothing (listening_call c past program_door (next_place c past) Waiting))
    (λ e. (refl, e))
    (λ e. choice c past (full c past) Nothing (listening_call c past program_door (next_place c past) Waiting)
    (λ _. tt)
    (λ f. choice c past (armed_to_accept past program_door) (Accept program_door (next_place c past)) Nothing (λ _. (refl, refl, e, f)) (λ _. tt)))
stage_tells c past st = tt

pub door_says : (c : Config) (past : List Act) → DoorTells c past (door_call c past)
door_says c past =
    choice c past (not (has_fork c) || door_cut past) Nothing (cond (held past (next_place c past)) (Refuse (next_place c past)) (program_door_call c past (stage past program_door)))
    (λ _. tt)
    (λ _. choice c past (held past (next_place c past)) (Refuse (next_place c past)) (program_door_call c past (stage past program_door)) (λ _. refl) (λ _. stage_tells c past (stage past program_door)))

-- ---- how many are admitted

-- at a left place of a command with `fork` the door calls
pub door_called : (c : Config) (past : List Act) (p : Place) (k : Call) → (is_left p && has_fork c) ≡ true → called_at c past p ≡ k → door_call c past ≡ k
door_called c past p k left e = sym (ap (λ b. cond b (door_call c past) (call c past p.session)) left) ∙ e

pub admission_tells : (c : Config) (past : List Act) (p : Place) (peer : Peer) → ((d : Place) × (called_at c past p ≡ Accept d p)) → is_admission c p peer ≡ true → (p ≡ next_place c past) × (enough c past ≡ false) × (full c past ≡ false)
admission_tells c past p peer (d, e) a =
    let left = (and_parts (is_left p && has_fork c) (permits c p peer) a).0 in
    let t = subst (DoorTells c past) (door_called c past p (Accept d p) left e) (door_says c past) in
    (t.1, t.2, t.3)

pub admitted_bound : (c : Config) (n : ℕ) (past : List Act) → Legal c n past → admitted c past ≤ (door_options c).sessions.stop_after
admitted_bound c n [] legal = let r : 0 ≤ (door_options c).sessions.stop_after = omega arith in r
admitted_bound c n (Accepted p peer ∷ past) legal = go (is_admission c p peer) refl (admitted_bound c n past legal.1)
  where
    go : (b : Bool) → is_admission c p peer ≡ b → admitted c past ≤ (door_options c).sessions.stop_after → one_more b (admitted c past) ≤ (door_options c).sessions.stop_after
    go true e ih = let t = leb-false (door_options c).sessions.stop_after (admitted c past) (admission_tells c past p peer legal.0.1 e).1 in omega (arith, t)
    go false e ih = ih
admitted_bound c n (act ∷ past) legal = admitted_bound c n past legal.1

-- ---- a session that has ended

-- the session of a call that isn't nothing lives
pub call_of_dead : (c : Config) (past : List Act) (s : ℕ) → live c past s ≡ false → call c past s ≡ Nothing
call_of_dead c past s dead = ap (λ l. cond (l && is_none (cause c past s)) (first_call c past (places c s)) Nothing) dead

dead_of : (fork : Bool) (c : Config) (past : List Act) (s : ℕ) → fork ≡ true → holds c past s ≡ false → cond fork (nat_lt s (admitted c past) && holds c past s) (s == 0) ≡ false
dead_of true c past s f h = go (nat_lt s (admitted c past))
  where
    go : (b : Bool) → (b && holds c past s) ≡ false
    go true = h
    go false = refl
dead_of false c past s f h = absurd (false≢true f)

-- where the session calls for nothing, nothing is opened at a place of its own
pub no_open : (c : Config) (past : List Act) (q : Place) → call c past q.session ≡ Nothing → (called_at c past q ≡ Open q) ⊎ (called_at c past q ≡ Settle q) → ⊥
no_open c past q nothing e = go (is_left q && has_fork c) e
  where
    go : (b : Bool) → (cond b (door_call c past) (call c past q.session) ≡ Open q) ⊎ (cond b (door_call c past) (call c past q.session) ≡ Settle q) → ⊥
    go true (inl k) = subst (DoorTells c past) k (door_says c past)
    go true (inr k) = subst (DoorTells c past) k (door_says c past)
    go false (inl k) = let x : Nothing ≡ Open q = sym nothing ∙ k in cc
    go false (inr k) = let x : Nothing ≡ Settle q = sym nothing ∙ k in cc

pub no_listen : (c : Config) (past : List Act) (q : Place) → call c past q.session ≡ Nothing → is_program_door c q ≡ false → called_at c past q ≡ Listen q → ⊥
no_listen c past q nothing own e = go (is_left q && has_fork c) refl e
  where
    go : (b : Bool) → (is_left q && has_fork c) ≡ b → cond b (door_call c past) (call c past q.session) ≡ Listen q → ⊥
    go true left k =
        let d : q ≡ program_door = subst (DoorTells c past) k (door_says c past) in
        let t : is_program_door c q ≡ true = and_from (same_place q program_door) (has_fork c) (ap (λ x. same_place x program_door) d) (and_parts (is_left q) (has_fork c) left).1 in
        true≢false (sym t ∙ own)
    go false left k = let x : Nothing ≡ Listen q = sym nothing ∙ k in cc

begun_of : (fork : Bool) (s m : ℕ) → fork ≡ true → s < cond fork m 1 → s < m
begun_of true s m f h = h
begun_of false s m f h = absurd (false≢true f)

no_accept : (c : Config) (past : List Act) (q : Place) → call c past q.session ≡ Nothing → q.session < numbers c past → ((d : Place) × (called_at c past q ≡ Accept d q)) → ⊥
no_accept c past q nothing begun (d, e) = go (is_left q && has_fork c) refl e
  where
    go : (b : Bool) → (is_left q && has_fork c) ≡ b → cond b (door_call c past) (call c past q.session) ≡ Accept d q → ⊥
    go true left k =
        let t = subst (DoorTells c past) k (door_says c past) in
        let m : q.session ≡ admitted c past = ap (λ x. x.session) t.1 in
        let b = begun_of (has_fork c) q.session (admitted c past) (and_parts (is_left q) (has_fork c) left).1 begun in
        omega (arith, m, b)
    go false left k = let x : Nothing ≡ Accept d q = sym nothing ∙ k in cc

-- an act begins no holding of a place of a session that calls for nothing
pub no_beginning : (c : Config) (n : ℕ) (act : Act) (past : List Act) (s : ℕ) → Legal c n (act ∷ past) → s < numbers c past → call c past s ≡ Nothing → (p : Place) → p.session ≡ s → is_program_door c p ≡ false → begins_holding act p ≡ false
no_beginning c n act past s legal begun nothing p same own = false_from_ne_true (begins_holding act p) (λ b. refute act legal b)
  where
    none : call c past p.session ≡ Nothing
    none = ap (call c past) same ∙ nothing

    early : p.session < numbers c past
    early = subst (λ m. m < numbers c past) (sym same) begun

    refute : (a : Act) → Legal c n (a ∷ past) → begins_holding a p ≡ true → ⊥
    refute (Opened q) l b = no_open c past p none (subst (λ x. (called_at c past x ≡ Open x) ⊎ (called_at c past x ≡ Settle x)) (same_place_equal q p b) l.0.1)
    refute (OpenLater q) l b = no_open c past p none (subst (λ x. (called_at c past x ≡ Open x) ⊎ (called_at c past x ≡ Settle x)) (same_place_equal q p b) l.0.1)
    refute (Listening q) l b = no_listen c past p none own (subst (λ x. called_at c past x ≡ Listen x) (same_place_equal q p b) l.0.1)
    refute (Accepted q peer) l b = no_accept c past p none early (subst (λ x. (d : Place) × (called_at c past x ≡ Accept d x)) (same_place_equal q p b) l.0.1)
    refute a l b = false≢true b

-- a session that has a cause calls for nothing
pub call_of_ended : (c : Config) (past : List Act) (s : ℕ) → is_some (cause c past s) ≡ true → call c past s ≡ Nothing
call_of_ended c past s e = ap (λ b. cond b (first_call c past (places c s)) Nothing) (and_right (live c past s) (is_none (cause c past s)) (ap not e))

pub ended_begins : (c : Config) (n : ℕ) (act : Act) (past : List Act) (s : ℕ) → Legal c n (act ∷ past) → s < numbers c past → is_some (cause c past s) ≡ true → (p : Place) → p.session ≡ s → is_program_door c p ≡ false → begins_holding act p ≡ false
ended_begins c n act past s legal begun e p same own = no_beginning c n act past s legal begun (call_of_ended c past s e) p same own

begun_in : (fork : Bool) (s m : ℕ) → fork ≡ true → s < m → s < cond fork m 1
begun_in true s m f h = h
begun_in false s m f h = absurd (false≢true f)

still_empty : (c : Config) (s : ℕ) (act : Act) (past : List Act) → ((p : Place) → p.session ≡ s → is_program_door c p ≡ false → begins_holding act p ≡ false) → (ps : List Place) → EachOwn c s ps → list_any (held past) ps ≡ false → list_any (held (act ∷ past)) ps ≡ false
still_empty c s act past none [] own e = refl
still_empty c s act past none (p ∷ ps) own e =
    let a = or_parts (held past p) (list_any (held past) ps) e in
    or_from (held (act ∷ past) p) (list_any (held (act ∷ past)) ps) (stays_over act past p (none p own.0 own.1) a.0) (still_empty c s act past none ps own.2 a.1)

pub ended_stays : (c : Config) (n : ℕ) (act : Act) (past : List Act) (s : ℕ) → Legal c n (act ∷ past) → has_fork c ≡ true → s < admitted c past → holds c past s ≡ false → holds c (act ∷ past) s ≡ false
ended_stays c n act past s legal fork begun empty = still_empty c s act past (no_beginning c n act past s legal (begun_in (has_fork c) s (admitted c past) fork begun) (call_of_dead c past s (dead_of (has_fork c) c past s fork empty))) (things c s) (each_thing c s) empty

-- ---- how many live

count_least : (f g : ℕ → Bool) (k : ℕ) → ((s : ℕ) → s < k → f s ≡ true → g s ≡ true) → count f k ≤ count g k
count_least f g zero h = omega arith
count_least f g (suc k) h = go (f k) (g k) (h k (omega arith)) (count_least f g k (λ s b. h s (omega (arith, b))))
  where
    go : (x y : Bool) → (x ≡ true → y ≡ true) → count f k ≤ count g k → one_more x (count f k) ≤ one_more y (count g k)
    go true true i l = omega (arith, l)
    go true false i l = absurd (false≢true (i refl))
    go false true i l = omega (arith, l)
    go false false i l = l

one_more_bound : (b : Bool) (m n : ℕ) → m ≤ n → one_more b m ≤ suc n
one_more_bound true m n h = omega (arith, h)
one_more_bound false m n h = omega (arith, h)

-- a session that has begun lives after an act only where it lived before
lived : (c : Config) (n : ℕ) (act : Act) (past : List Act) (s : ℕ) → Legal c n (act ∷ past) → has_fork c ≡ true → s < admitted c past → live c (act ∷ past) s ≡ true → live c past s ≡ true
lived c n act past s legal fork begun l = go (has_fork c) fork l
  where
    go : (f : Bool) → f ≡ true → cond f (nat_lt s (admitted c (act ∷ past)) && holds c (act ∷ past) s) (s == 0) ≡ true → cond f (nat_lt s (admitted c past) && holds c past s) (s == 0) ≡ true
    go true e k = and_from (nat_lt s (admitted c past)) (holds c past s) (lt-ltb s (admitted c past) begun) (held_before (cases_Bool (holds c past s)))
      where
        held_before : (holds c past s ≡ true) ⊎ (holds c past s ≡ false) → holds c past s ≡ true
        held_before (inl h) = h
        held_before (inr h) = absurd (true≢false (sym (and_parts (nat_lt s (admitted c (act ∷ past))) (holds c (act ∷ past) s) k).1 ∙ ended_stays c n act past s legal fork begun h))
    go false e k = absurd (false≢true e)

fewer_live : (c : Config) (n : ℕ) (act : Act) (past : List Act) → Legal c n (act ∷ past) → has_fork c ≡ true → count (live c (act ∷ past)) (admitted c past) ≤ live_count c past
fewer_live c n act past legal fork = count_least (live c (act ∷ past)) (live c past) (admitted c past) (λ s b l. lived c n act past s legal fork b l)

pub live_bound : (c : Config) (n : ℕ) (past : List Act) → Legal c n past → has_fork c ≡ true → live_count c past ≤ (door_options c).sessions.max_children
live_bound c n [] legal fork = let r : 0 ≤ (door_options c).sessions.max_children = omega arith in r
live_bound c n (Accepted p peer ∷ past) legal fork = go (is_admission c p peer) refl (live_bound c n past legal.1 fork)
  where
    fewer : count (live c (Accepted p peer ∷ past)) (admitted c past) ≤ live_count c past
    fewer = fewer_live c n (Accepted p peer) past legal fork

    go : (b : Bool) → is_admission c p peer ≡ b → live_count c past ≤ (door_options c).sessions.max_children → count (live c (Accepted p peer ∷ past)) (one_more b (admitted c past)) ≤ (door_options c).sessions.max_children
    go true e ih =
        let t = leb-false (door_options c).sessions.max_children (live_count c past) (admission_tells c past p peer legal.0.1 e).2 in
        let m = one_more_bound (live c (Accepted p peer ∷ past) (admitted c past)) (count (live c (Accepted p peer ∷ past)) (admitted c past)) (live_count c past) fewer in
        let r : one_more (live c (Accepted p peer ∷ past) (admitted c past)) (count (live c (Accepted p peer ∷ past)) (admitted c past)) ≤ (door_options c).sessions.max_children = omega (arith, t, m) in
        r
    go false e ih = le_trans fewer ih
live_bound c n (Turn until at ready stop ∷ past) legal fork = le_trans (fewer_live c n (Turn until at ready stop) past legal fork) (live_bound c n past legal.1 fork)
live_bound c n (Opened q ∷ past) legal fork = le_trans (fewer_live c n (Opened q) past legal fork) (live_bound c n past legal.1 fork)
live_bound c n (OpenLater q ∷ past) legal fork = le_trans (fewer_live c n (OpenLater q) past legal fork) (live_bound c n past legal.1 fork)
live_bound c n (OpenFailed q ∷ past) legal fork = le_trans (fewer_live c n (OpenFailed q) past legal fork) (live_bound c n past legal.1 fork)
live_bound c n (Listening q ∷ past) legal fork = le_trans (fewer_live c n (Listening q) past legal fork) (live_bound c n past legal.1 fork)
live_bound c n (ListenFailed q ∷ past) legal fork = le_trans (fewer_live c n (ListenFailed q) past legal fork) (live_bound c n past legal.1 fork)
live_bound c n (NoPeer q ∷ past) legal fork = le_trans (fewer_live c n (NoPeer q) past legal fork) (live_bound c n past legal.1 fork)
live_bound c n (AcceptFailed q ∷ past) legal fork = le_trans (fewer_live c n (AcceptFailed q) past legal fork) (live_bound c n past legal.1 fork)
live_bound c n (Read q bytes ∷ past) legal fork = le_trans (fewer_live c n (Read q bytes) past legal fork) (live_bound c n past legal.1 fork)
live_bound c n (ReadEmpty q ∷ past) legal fork = le_trans (fewer_live c n (ReadEmpty q) past legal fork) (live_bound c n past legal.1 fork)
live_bound c n (ReadEnd q ∷ past) legal fork = le_trans (fewer_live c n (ReadEnd q) past legal fork) (live_bound c n past legal.1 fork)
live_bound c n (ReadNotYet q ∷ past) legal fork = le_trans (fewer_live c n (ReadNotYet q) past legal fork) (live_bound c n past legal.1 fork)
live_bound c n (ReadFault q ∷ past) legal fork = le_trans (fewer_live c n (ReadFault q) past legal fork) (live_bound c n past legal.1 fork)
live_bound c n (Wrote q bytes ∷ past) legal fork = le_trans (fewer_live c n (Wrote q bytes) past legal fork) (live_bound c n past legal.1 fork)
live_bound c n (WriteNotYet q ∷ past) legal fork = le_trans (fewer_live c n (WriteNotYet q) past legal fork) (live_bound c n past legal.1 fork)
live_bound c n (WriteFault q ∷ past) legal fork = le_trans (fewer_live c n (WriteFault q) past legal fork) (live_bound c n past legal.1 fork)
live_bound c n (Shut q way ∷ past) legal fork = le_trans (fewer_live c n (Shut q way) past legal fork) (live_bound c n past legal.1 fork)
live_bound c n (ShutFault q way ∷ past) legal fork = le_trans (fewer_live c n (ShutFault q way) past legal fork) (live_bound c n past legal.1 fork)
live_bound c n (Closed q why ∷ past) legal fork = le_trans (fewer_live c n (Closed q why) past legal fork) (live_bound c n past legal.1 fork)
live_bound c n (Reaped q end ∷ past) legal fork = le_trans (fewer_live c n (Reaped q end) past legal fork) (live_bound c n past legal.1 fork)
live_bound c n (Note text ∷ past) legal fork = le_trans (fewer_live c n (Note text) past legal fork) (live_bound c n past legal.1 fork)
live_bound c n (NoteFault text ∷ past) legal fork = le_trans (fewer_live c n (NoteFault text) past legal fork) (live_bound c n past legal.1 fork)
