-- What was closed for another reason than a refusal is closed for good.
use Rattle.std.proofs.Common.{◌≡◌, refl, sym, ap, subst, ◌∙◌, ℕ, suc, ◌-◌, ◌^◌, ◌≤◌, le_trans, Bool, true, false, not, cond, ◌&&◌, ◌||◌, ◌==◌, nat_le, nat_lt, is_some, is_none, List, [], ◌∷◌, ◌++◌, map, Option, Some, None, arith, inl, inr, ◌⊎◌}
use Rattle.std.specs.List.{list_all, list_any}
use Rattle.std.proofs.lemmas.Bool.{false≢true, true≢false, and_parts, and_from, and_left, and_right, or_parts, or_from, or_left, or_right, ltb-true, false_from_ne_true, cases_Bool}
use Rattle.std.proofs.lemmas.List.Folds.{list_any-append}
use Rattle.relay_model.specs.declared.places.Side.TheVariants.{Left, Right}
use Rattle.relay_model.specs.declared.places.Part.{Part}
use Rattle.relay_model.specs.declared.places.Part.TheVariants.{Reading, Writing}
use Rattle.relay_model.specs.declared.places.Way.{Way}
use Rattle.relay_model.specs.declared.places.Place.{Place}
use Rattle.relay_model.specs.declared.commands.Config.{Config}
use Rattle.relay_model.specs.declared.commands.Ways.{Ways}
use Rattle.relay_model.specs.declared.commands.Ways.TheVariants as ways
use Rattle.relay_model.specs.declared.commands.Address.{Address}
use Rattle.relay_model.specs.declared.commands.Address.TheVariants as addresses
use Rattle.relay_model.specs.declared.acts.Peer.{Peer}
use Rattle.relay_model.specs.declared.acts.Why.{Why}
use Rattle.relay_model.specs.declared.acts.Why.TheVariants as whys
use Rattle.relay_model.specs.declared.acts.Act.{Act}
use Rattle.relay_model.specs.declared.acts.Act.TheVariants.{Turn, Opened, OpenLater, OpenFailed, Listening, ListenFailed, Accepted, NoPeer, AcceptFailed, Read, ReadEmpty, ReadEnd, ReadNotYet, ReadFault, Wrote, WriteNotYet, WriteFault, Shut, ShutFault, Closed, Reaped, Note, NoteFault}
use Rattle.relay_model.specs.Places.{same_place, door_of}
use Rattle.relay_model.specs.Choices.{only_if, first_some, one_more}
use Rattle.relay_model.specs.Configs.{places, parts, parts_of, offered, place_at, things, own_doors, options_of, has_own_door, listens_at, has_fork, is_left, program_door, is_program_door, is_of, way_from, way_to}
use Rattle.relay_model.specs.History.{now, same_why, memory_said, stop_said, stage, held, served, woken, failures, accept_failed, read_fault_at, write_fault_at}
use Rattle.relay_model.specs.declared.stages.Stage.{Stage}
use Rattle.relay_model.specs.declared.stages.Stage.TheVariants.{Untried, Usable, Unsettled, Failed, Met, Waiting, Gone}
use Rattle.relay_model.specs.Arming.{armed_to_accept}
use Rattle.relay_model.specs.Sessions.{permits, is_admission, admitted, holds, live, next_place}
use Rattle.relay_model.specs.Tries.{is_out_of_tries, next_due}
use Rattle.relay_model.specs.Moments.{passed, done, broken, closing_moment, idle_moment, reached}
use Rattle.relay_model.specs.Openings.{out_of_tries, when_due, try_again, stands_ready, is_ready, ready, opening_call, listening_call, peer_call, place_call, first_call}
use Rattle.relay_model.specs.declared.calls.Call.{Call}
use Rattle.relay_model.specs.declared.calls.Call.TheVariants.{Nothing, TryAt, Open, Settle, Listen, Accept, Refuse, Serve}
use Rattle.relay_model.specs.Cause.{is_end, closed_why, accept_failed_for, listening_failed, opening_failed, fault_at, fault_stands, each_formed, some_formed, faulted, finished, cause}
use Rattle.relay_model.specs.Calls.{call, door_cut, program_door_call, door_call, called_at}
use Rattle.relay_model.specs.Rest.{is_going}
use Rattle.relay_model.specs.May.{Legal, Licensed, by_cause, by_refusal, by_service, by_door, by_memory, by_turns}
use Rattle.relay_model.specs.Laws.{uses, DoorTells}
use Rattle.relay_model.specs.Frames.{is_at, reaps, fails_to_open, fails_to_accept, fails_to_read, fails_to_write}
use Rattle.relay_laws.proofs.PlaceLemmas.{same_place_equal, same_place_self}
use Rattle.relay_laws.proofs.Elsewhere.{steps_leave}
use Rattle.relay_laws.proofs.Holdings.{used_held, moves_running}
use Rattle.relay_laws.proofs.Served.{is_gone, gone_free, called_unserved, Unserved, not_opened, refused}
use Rattle.relay_laws.proofs.OwnThings.{EachOwn, each_place, each_door, each_thing, among_own, place_own}
use Rattle.relay_laws.proofs.Admissions.{door_says, door_called, admission_tells, call_of_dead, call_of_ended, no_open, no_listen}

-- ---- acts at what is gone

unused : (c : Config) (n : ℕ) (act : Act) (past : List Act) (p : Place) → Legal c n (act ∷ past) → is_gone (stage past p) ≡ true → uses act p ≡ true → ⊥
unused c n act past p legal g u = false≢true (sym (gone_free (stage past p) g) ∙ used_held c n act past p legal u)

-- where no peer is accepted at it, nothing but the end of its child follows
after_gone :
    (c : Config) (n : ℕ) (act : Act) (past : List Act) (p : Place) → Legal c n (act ∷ past) → is_gone (stage past p) ≡ true →
    ((d : Place) → called_at c past p ≡ Accept d p → ⊥) → is_at act p ≡ true → reaps act ≡ true
after_gone c n (Turn until at ready stop) past p legal g none e = absurd (false≢true e)
after_gone c n (Opened q) past p legal g none e = absurd (not_opened c past q p legal.0.1 g e)
after_gone c n (OpenLater q) past p legal g none e = absurd (not_opened c past q p legal.0.1 g e)
after_gone c n (OpenFailed q) past p legal g none e = absurd (not_opened c past q p legal.0.1 g e)
after_gone c n (Listening q) past p legal g none e = absurd (refused c past q p legal.0.1 g e)
after_gone c n (ListenFailed q) past p legal g none e = absurd (refused c past q p legal.0.1 g e)
after_gone c n (Accepted q peer) past p legal g none e =
    let met : (d : Place) × (called_at c past p ≡ Accept d p) = subst (λ x. (d : Place) × (called_at c past x ≡ Accept d x)) (same_place_equal q p e) legal.0.1 in
    absurd (none met.0 met.1)
after_gone c n (NoPeer q) past p legal g none e = absurd (unused c n (NoPeer q) past p legal g e)
after_gone c n (AcceptFailed q) past p legal g none e = absurd (unused c n (AcceptFailed q) past p legal g e)
after_gone c n (Read q bytes) past p legal g none e = absurd (unused c n (Read q bytes) past p legal g e)
after_gone c n (ReadEmpty q) past p legal g none e = absurd (unused c n (ReadEmpty q) past p legal g e)
after_gone c n (ReadEnd q) past p legal g none e = absurd (unused c n (ReadEnd q) past p legal g e)
after_gone c n (ReadNotYet q) past p legal g none e = absurd (unused c n (ReadNotYet q) past p legal g e)
after_gone c n (ReadFault q) past p legal g none e = absurd (unused c n (ReadFault q) past p legal g e)
after_gone c n (Wrote q bytes) past p legal g none e = absurd (unused c n (Wrote q bytes) past p legal g e)
after_gone c n (WriteNotYet q) past p legal g none e = absurd (unused c n (WriteNotYet q) past p legal g e)
after_gone c n (WriteFault q) past p legal g none e = absurd (unused c n (WriteFault q) past p legal g e)
after_gone c n (Shut q way) past p legal g none e = absurd (unused c n (Shut q way) past p legal g e)
after_gone c n (ShutFault q way) past p legal g none e = absurd (unused c n (ShutFault q way) past p legal g e)
after_gone c n (Closed q why) past p legal g none e = absurd (unused c n (Closed q why) past p legal g e)
after_gone c n (Reaped q end) past p legal g none e = refl
after_gone c n (Note text) past p legal g none e = absurd (false≢true e)
after_gone c n (NoteFault text) past p legal g none e = absurd (false≢true e)

kept_gone : (b : Bool) (st old : Stage) → (b ≡ true → false ≡ true) → is_gone old ≡ true → is_gone (cond b st old) ≡ true
kept_gone true st old h g = absurd (false≢true (h refl))
kept_gone false st old h g = g

stays_gone : (act : Act) (past : List Act) (p : Place) → (is_at act p ≡ true → reaps act ≡ true) → is_gone (stage past p) ≡ true → is_gone (stage (act ∷ past) p) ≡ true
stays_gone (Opened q) past p h g = kept_gone (same_place q p) Usable (stage past p) h g
stays_gone (OpenLater q) past p h g = kept_gone (same_place q p) Unsettled (stage past p) h g
stays_gone (OpenFailed q) past p h g = kept_gone (same_place q p) Failed (stage past p) h g
stays_gone (Listening q) past p h g = kept_gone (same_place q p) Waiting (stage past p) h g
stays_gone (ListenFailed q) past p h g = kept_gone (same_place q p) Failed (stage past p) h g
stays_gone (Accepted q peer) past p h g = kept_gone (same_place q p) (Met peer) (stage past p) h g
stays_gone (Closed q why) past p h g = kept_gone (same_place q p) (Gone why) (stage past p) h g
stays_gone act past p h g = g

-- ---- a program door that is cut

more : (m s a x y z : Bool) → (m ≡ true → x ≡ true) → (s ≡ true → y ≡ true) → (a ≡ true → z ≡ true) → (m || s || a) ≡ true → (x || y || z) ≡ true
more m s a true y z f g h e = refl
more m s a false true z f g h e = refl
more m s a false false true f g h e = refl
more true s a false false false f g h e = absurd (false≢true (f refl))
more false true a false false false f g h e = absurd (false≢true (g refl))
more false false true false false false f g h e = absurd (false≢true (h refl))
more false false false false false false f g h e = e

unsaid : (m s a : Bool) → (m || s || a) ≡ false → (m ≡ false) × (s ≡ false) × (a ≡ false)
unsaid true s a e = absurd (true≢false e)
unsaid false true a e = absurd (true≢false e)
unsaid false false true e = absurd (true≢false e)
unsaid false false false e = (refl, refl, refl)

cut_stays : (act : Act) (past : List Act) → door_cut past ≡ true → door_cut (act ∷ past) ≡ true
cut_stays (Turn until at ready stop) past e = more (memory_said past) (stop_said past) (accept_failed past program_door) (memory_said past) (stop || stop_said past) (accept_failed past program_door) (λ h. h) (or_right stop (stop_said past)) (λ h. h) e
cut_stays (AcceptFailed q) past e = more (memory_said past) (stop_said past) (accept_failed past program_door) (memory_said past) (stop_said past) (same_place q program_door || accept_failed past program_door) (λ h. h) (λ h. h) (or_right (same_place q program_door) (accept_failed past program_door)) e
cut_stays (Closed q why) past e = more (memory_said past) (stop_said past) (accept_failed past program_door) (same_why why whys.Memory || memory_said past) (same_why why whys.Stopped || stop_said past) (accept_failed past program_door) (or_right (same_why why whys.Memory) (memory_said past)) (or_right (same_why why whys.Stopped) (stop_said past)) (λ h. h) e
cut_stays act past e = e

cut_lasts : (later past : List Act) → door_cut past ≡ true → door_cut (later ++ past) ≡ true
cut_lasts [] past e = e
cut_lasts (act ∷ later) past e = cut_stays act (later ++ past) (cut_lasts later past e)

-- a door that is cut accepts no peer
cut_accepts : (c : Config) (past : List Act) (d p : Place) → door_call c past ≡ Accept d p → door_cut past ≡ true → ⊥
cut_accepts c past d p k cut =
    let quiet = or_right (not (has_fork c)) (door_cut past) cut in
    let x : Nothing ≡ Accept d p = sym (ap (λ b. cond b Nothing (cond (held past (next_place c past)) (Refuse (next_place c past)) (program_door_call c past (stage past program_door)))) quiet) ∙ k in
    cc

-- ---- sessions that haven't begun do nothing

admitted_after : (c : Config) (act : Act) (past : List Act) → admitted c past ≤ admitted c (act ∷ past)
admitted_after c (Accepted p peer) past = go (is_admission c p peer)
  where
    go : (b : Bool) → admitted c past ≤ one_more b (admitted c past)
    go true = omega arith
    go false = omega arith
admitted_after c act past = let r : admitted c past ≤ admitted c past = omega arith in r

admitted_lasts : (c : Config) (later past : List Act) → admitted c past ≤ admitted c (later ++ past)
admitted_lasts c [] past = let r : admitted c past ≤ admitted c past = omega arith in r
admitted_lasts c (act ∷ later) past = le_trans (admitted_lasts c later past) (admitted_after c act (later ++ past))

pending_session : (c : Config) (past : List Act) (s : ℕ) → has_fork c ≡ true → admitted c past ≤ s → live c past s ≡ false
pending_session c past s fork below =
    let early : nat_lt s (admitted c past) ≡ false = false_from_ne_true (nat_lt s (admitted c past)) (λ e. let l = ltb-true s (admitted c past) e in omega (arith, l, below)) in
    ap (λ f. cond f (nat_lt s (admitted c past) && holds c past s) (s == 0)) fork ∙ and_left (nat_lt s (admitted c past)) (holds c past s) early

no_motion : (c : Config) (past : List Act) (q p : Place) (w : Way) → has_fork c ≡ true → admitted c past ≤ p.session → same_place q p ≡ true → is_going c past q.session w ≡ true → ⊥
no_motion c past q p w fork below e m =
    let there : admitted c past ≤ q.session = subst (λ (x : Place). admitted c past ≤ x.session) (sym (same_place_equal q p e)) below in
    let r = moves_running c past q.session w m in
    let alive = (and_parts (live c past q.session) (ready c past q.session) (and_parts (live c past q.session && ready c past q.session) (is_none (cause c past q.session)) r).0).0 in
    true≢false (sym alive ∙ pending_session c past q.session fork there)

no_wait : (c : Config) (past : List Act) (q : Place) → call c past q.session ≡ Nothing → is_program_door c q ≡ false → ((p : Place) × (called_at c past q ≡ Accept q p)) → ⊥
no_wait c past q nothing own (p, e) = go (is_left q && has_fork c) refl e
  where
    go : (b : Bool) → (is_left q && has_fork c) ≡ b → cond b (door_call c past) (call c past q.session) ≡ Accept q p → ⊥
    go true left k =
        let t = subst (DoorTells c past) k (door_says c past) in
        let x : is_program_door c q ≡ true = and_from (same_place q program_door) (has_fork c) (ap (λ y. same_place y program_door) t.0) (and_parts (is_left q) (has_fork c) left).1 in
        true≢false (sym x ∙ own)
    go false left k = let x : Nothing ≡ Accept q p = sym nothing ∙ k in cc

no_service : (c : Config) (past : List Act) (q : Place) → call c past q.session ≡ Nothing → is_program_door c q ≡ false → called_at c past q ≡ Serve q → ⊥
no_service c past q nothing own e = go (is_left q && has_fork c) refl e
  where
    go : (b : Bool) → (is_left q && has_fork c) ≡ b → cond b (door_call c past) (call c past q.session) ≡ Serve q → ⊥
    go true left k =
        let t = subst (DoorTells c past) k (door_says c past) in
        let x : is_program_door c q ≡ true = and_from (same_place q program_door) (has_fork c) (ap (λ y. same_place y program_door) t.0) (and_parts (is_left q) (has_fork c) left).1 in
        true≢false (sym x ∙ own)
    go false left k = let x : Nothing ≡ Serve q = sym nothing ∙ k in cc

-- the act is one that a call or a direction asks for
abbrev is_called_for : Act → Bool
is_called_for (Turn until at ready stop) = false
is_called_for (Accepted q peer) = false
is_called_for (Closed q why) = false
is_called_for (Reaped q end) = false
is_called_for (Note text) = false
is_called_for (NoteFault text) = false
is_called_for act = true

no_work :
    (c : Config) (n : ℕ) (act : Act) (past : List Act) (p : Place) → Legal c n (act ∷ past) → has_fork c ≡ true → admitted c past ≤ p.session →
    is_program_door c p ≡ false → is_at act p ≡ true → is_called_for act ≡ true → ⊥
no_work c n act past p legal fork below own at work = refute act legal at work
  where
    none : call c past p.session ≡ Nothing
    none = call_of_dead c past p.session (pending_session c past p.session fork below)

    refute : (a : Act) → Legal c n (a ∷ past) → is_at a p ≡ true → is_called_for a ≡ true → ⊥
    refute (Opened q) l e k = no_open c past p none (subst (λ x. (called_at c past x ≡ Open x) ⊎ (called_at c past x ≡ Settle x)) (same_place_equal q p e) l.0.1)
    refute (OpenLater q) l e k = no_open c past p none (subst (λ x. (called_at c past x ≡ Open x) ⊎ (called_at c past x ≡ Settle x)) (same_place_equal q p e) l.0.1)
    refute (OpenFailed q) l e k = no_open c past p none (subst (λ x. (called_at c past x ≡ Open x) ⊎ (called_at c past x ≡ Settle x)) (same_place_equal q p e) l.0.1)
    refute (Listening q) l e k = no_listen c past p none own (subst (λ x. called_at c past x ≡ Listen x) (same_place_equal q p e) l.0.1)
    refute (ListenFailed q) l e k = no_listen c past p none own (subst (λ x. called_at c past x ≡ Listen x) (same_place_equal q p e) l.0.1)
    refute (NoPeer q) l e k = no_wait c past p none own (subst (λ x. (r : Place) × (called_at c past x ≡ Accept x r)) (same_place_equal q p e) l.0.1)
    refute (AcceptFailed q) l e k = no_wait c past p none own (subst (λ x. (r : Place) × (called_at c past x ≡ Accept x r)) (same_place_equal q p e) l.0.1)
    refute (Read q bytes) l e k = no_motion c past q p (way_from q.side) fork below e l.0.1.asks.moving
    refute (ReadEmpty q) l e k = no_motion c past q p (way_from q.side) fork below e l.0.1.asks.moving
    refute (ReadEnd q) l e k = no_motion c past q p (way_from q.side) fork below e l.0.1.asks.moving
    refute (ReadNotYet q) l e k = no_motion c past q p (way_from q.side) fork below e l.0.1.asks.moving
    refute (ReadFault q) l e k = no_motion c past q p (way_from q.side) fork below e l.0.1.asks.moving
    refute (Wrote q bytes) l e k = no_motion c past q p (way_to q.side) fork below e l.0.1.offers.moving
    refute (WriteNotYet q) l e k = no_motion c past q p (way_to q.side) fork below e l.0.1.offers.moving
    refute (WriteFault q) l e k = no_motion c past q p (way_to q.side) fork below e l.0.1.offers.moving
    refute (Shut q way) l e k = no_motion c past q p (way_to q.side) fork below e l.0.1.moving
    refute (ShutFault q way) l e k = no_motion c past q p (way_to q.side) fork below e l.0.1.moving
    refute a l e k = absurd (false≢true k)

-- ---- and have no cause of their own

-- its left place may be of a session that has begun
abbrev is_fit : Config → Place → Stage → Bool
is_fit c p Usable = true
is_fit c p (Met peer) = permits c p peer
is_fit c p st = false

record Fresh (c : Config) (past : List Act) (s : ℕ) : Type 0 where
  opening : (p : Place) → p.session ≡ s → is_program_door c p ≡ false → failures past p ≡ []
  accepting : (p : Place) → p.session ≡ s → is_program_door c p ≡ false → accept_failed past p ≡ false
  reading : (p : Place) → p.session ≡ s → is_program_door c p ≡ false → read_fault_at past p ≡ None
  writing : (p : Place) → p.session ≡ s → is_program_door c p ≡ false → write_fault_at past p ≡ None
  unfit : (part : Part) → is_fit c (place_at s Left part) (stage past (place_at s Left part)) ≡ false
  unclosed : closed_why c past s ≡ None

none_own : (c : Config) (s : ℕ) (test : Place → Bool) → ((p : Place) → p.session ≡ s → is_program_door c p ≡ false → test p ≡ false) → (ps : List Place) → EachOwn c s ps → list_any test ps ≡ false
none_own c s test h [] own = refl
none_own c s test h (p ∷ ps) own = or_from (test p) (list_any test ps) (h p own.0 own.1) (none_own c s test h ps own.2)

tries_left : (retry : ℕ) (forever : Bool) → is_out_of_tries retry forever [] ≡ false
tries_left retry forever = and_right (not forever && not (retry == 2 ^ 64 - 1)) (nat_lt retry 0) (false_from_ne_true (nat_lt retry 0) (λ e. let l = ltb-true retry 0 e in omega (arith, l)))

untried : (c : Config) (past : List Act) (s : ℕ) → Fresh c past s → (p : Place) → p.session ≡ s → is_program_door c p ≡ false → out_of_tries c past p ≡ false
untried c past s f p e o = ap (is_out_of_tries (options_of c p).tries.retry (options_of c p).tries.forever) (f.opening p e o) ∙ tries_left (options_of c p).tries.retry (options_of c p).tries.forever

unready : (c : Config) (past : List Act) (p : Place) (st : Stage) → is_fit c p st ≡ false → stands_ready c past p st ≡ false
unready c past p Usable e = absurd (true≢false e)
unready c past p (Met peer) e = and_left (listens_at c p && permits c p peer) (not (has_own_door c p) || served past (door_of p)) (and_right (listens_at c p) (permits c p peer) e)
unready c past p st e = refl

left_fails : (chosen : Ways) (address : Address) (test : Place → Bool) (s : ℕ) (rest : List Place) → ((part : Part) → test (place_at s Left part) ≡ false) → list_all test (map (place_at s Left) (parts_of chosen address Left) ++ rest) ≡ false
left_fails ways.Two (addresses.One single) test s rest h = ap (λ b. b && list_all test rest) (h (offered single.target single.options.file))
left_fails ways.Two (addresses.Two reading writing) test s rest h = ap (λ b. b && list_all test (place_at s Left Writing ∷ rest)) (h Reading)
left_fails ways.OnlyRight address test s rest h = ap (λ b. b && list_all test rest) (h Reading)
left_fails ways.OnlyLeft address test s rest h = ap (λ b. b && list_all test rest) (h Writing)

fresh_cause : (c : Config) (past : List Act) (s : ℕ) → door_cut past ≡ false → Fresh c past s → cause c past s ≡ None
fresh_cause c past s uncut f =
    let quiet = unsaid (memory_said past) (stop_said past) (accept_failed past program_door) uncut in
    let memory = quiet.0 in
    let stop = quiet.1 in
    let closed = f.unclosed in
    let accepting : accept_failed_for c past s ≡ false =
    or_from (has_fork c && accept_failed past program_door) (list_any (accept_failed past) (own_doors c s))
    (and_right (has_fork c) (accept_failed past program_door) quiet.2)
    (none_own c s (accept_failed past) f.accepting (own_doors c s) (each_door c s))
    in
    let listening : listening_failed c past s ≡ false = none_own c s (out_of_tries c past) (untried c past s f) (own_doors c s) (each_door c s) in
    let opening : opening_failed c past s ≡ false = none_own c s (out_of_tries c past) (untried c past s f) (places c s) (each_place c s) in
    let readiness : ready c past s ≡ false =
    left_fails c.ways c.left (is_ready c past) s (map (place_at s Right) (parts c Right))
    (λ part. unready c past (place_at s Left part) (stage past (place_at s Left part)) (f.unfit part))
    in
    let faults : fault_stands c past s ≡ false = none_own c s (fault_at past) (λ p e o. or_from (is_some (read_fault_at past p)) (is_some (write_fault_at past p)) (ap is_some (f.reading p e o)) (ap is_some (f.writing p e o))) (places c s) (each_place c s) in
    let fault : faulted c past s ≡ false = both c.sloppy (ready c past s && each_formed c (done c past s) && some_formed c (broken c past s)) (fault_stands c past s) (ap (λ b. b && each_formed c (done c past s) && some_formed c (broken c past s)) readiness) faults in
    let finish : finished c past s ≡ false = ap (λ b. b && each_formed c (passed c past s)) readiness in
    λ i. first_some (closed i
    ∷ only_if (memory i) whys.Memory
    ∷ only_if (stop i) whys.Stopped
    ∷ only_if (accepting i) whys.AcceptFailed
    ∷ only_if (listening i) whys.ListenFailed
    ∷ only_if (opening i) whys.OpenFailed
    ∷ only_if (fault i) whys.Faulted
    ∷ only_if (finish i) whys.Finished
    ∷ only_if (readiness i && reached (closing_moment c past s) (now past)) whys.ClosingTime
    ∷ only_if (readiness i && reached (idle_moment c past s) (now past)) whys.Idle
    ∷ [])
  where
    both : (b x y : Bool) → x ≡ false → y ≡ false → cond b x y ≡ false
    both true x y h k = h
    both false x y h k = k

fit_kept : (c : Config) (p : Place) (b : Bool) (st old : Stage) → (b ≡ true → is_fit c p st ≡ false) → is_fit c p old ≡ false → is_fit c p (cond b st old) ≡ false
fit_kept c p true st old h k = h refl
fit_kept c p false st old h k = k

unpermitted :
    (c : Config) (past : List Act) (q p : Place) (peer : Peer) → ((d : Place) × (called_at c past q ≡ Accept d q)) → has_fork c ≡ true → is_left p ≡ true →
    one_more (is_admission c q peer) (admitted c past) ≤ p.session → same_place q p ≡ true → permits c p peer ≡ false
unpermitted c past q p peer met fork left below e = false_from_ne_true (permits c p peer) refute
  where
    refute : permits c p peer ≡ true → ⊥
    refute k =
        let same = same_place_equal q p e in
        let admits : is_admission c p peer ≡ true = and_from (is_left p && has_fork c) (permits c p peer) (and_from (is_left p) (has_fork c) left fork) k in
        let there : (d : Place) × (called_at c past p ≡ Accept d p) = subst (λ x. (d : Place) × (called_at c past x ≡ Accept d x)) same met in
        let next : p.session ≡ admitted c past = ap (λ x. x.session) (admission_tells c past p peer there admits).0 in
        let counted : suc (admitted c past) ≤ p.session = subst (λ b. one_more b (admitted c past) ≤ p.session) (ap (λ x. is_admission c x peer) same ∙ admits) below in
        omega (arith, next, counted)

fit_stays :
    (c : Config) (n : ℕ) (act : Act) (past : List Act) (p : Place) → Legal c n (act ∷ past) → has_fork c ≡ true → is_left p ≡ true → admitted c (act ∷ past) ≤ p.session →
    (is_at act p ≡ true → is_called_for act ≡ true → ⊥) → is_fit c p (stage past p) ≡ false → is_fit c p (stage (act ∷ past) p) ≡ false
fit_stays c n (Opened q) past p legal fork left below none f = fit_kept c p (same_place q p) Usable (stage past p) (λ e. absurd (none e refl)) f
fit_stays c n (OpenLater q) past p legal fork left below none f = fit_kept c p (same_place q p) Unsettled (stage past p) (λ e. refl) f
fit_stays c n (OpenFailed q) past p legal fork left below none f = fit_kept c p (same_place q p) Failed (stage past p) (λ e. refl) f
fit_stays c n (Listening q) past p legal fork left below none f = fit_kept c p (same_place q p) Waiting (stage past p) (λ e. refl) f
fit_stays c n (ListenFailed q) past p legal fork left below none f = fit_kept c p (same_place q p) Failed (stage past p) (λ e. refl) f
fit_stays c n (Accepted q peer) past p legal fork left below none f = fit_kept c p (same_place q p) (Met peer) (stage past p) (unpermitted c past q p peer legal.0.1 fork left below) f
fit_stays c n (Closed q why) past p legal fork left below none f = fit_kept c p (same_place q p) (Gone why) (stage past p) (λ e. refl) f
fit_stays c n act past p legal fork left below none f = f

unlicensed :
    (c : Config) (n : ℕ) (past : List Act) (s : ℕ) (q : Place) (why : Why) → call c past q.session ≡ Nothing → door_cut (Closed q why ∷ past) ≡ false → cause c past s ≡ None →
    q.session ≡ s → is_program_door c q ≡ false → is_end q why ≡ true → Licensed c n past q why → ⊥
unlicensed c n past s q why none uncut uncaused same own end (by_cause o e) = let x : None ≡ Some why = sym uncaused ∙ ap (cause c past) (sym same) ∙ e in cc
unlicensed c n past s q why none uncut uncaused same own end (by_refusal w e) = false≢true (sym (ap (is_end q) w) ∙ end)
unlicensed c n past s q why none uncut uncaused same own end (by_service w e) = no_service c past q none own e
unlicensed c n past s q why none uncut uncaused same own end (by_door d e) = true≢false (sym d ∙ own)
unlicensed c n past s q why none uncut uncaused same own end (by_memory w e) =
    let x = (unsaid (same_why why whys.Memory || memory_said past) (same_why why whys.Stopped || stop_said past) (accept_failed past program_door) uncut).0 in
    true≢false (sym (ap (λ y. same_why y whys.Memory) w) ∙ (or_parts (same_why why whys.Memory) (memory_said past) x).0)
unlicensed c n past s q why none uncut uncaused same own end (by_turns w t r) =
    let x = (unsaid (same_why why whys.Memory || memory_said past) (same_why why whys.Stopped || stop_said past) (accept_failed past program_door) uncut).1 in
    true≢false (sym (ap (λ y. same_why y whys.Stopped) w) ∙ (or_parts (same_why why whys.Stopped) (stop_said past) x).0)

unclosed_stays :
    (c : Config) (n : ℕ) (act : Act) (past : List Act) (s : ℕ) → Legal c n (act ∷ past) → has_fork c ≡ true → admitted c past ≤ s → door_cut (act ∷ past) ≡ false →
    cause c past s ≡ None → closed_why c past s ≡ None → closed_why c (act ∷ past) s ≡ None
unclosed_stays c n (Closed q why) past s legal fork below uncut uncaused f = go (is_of c s q && is_end q why) refl
  where
    go : (b : Bool) → (is_of c s q && is_end q why) ≡ b → cond b (Some why) (closed_why c past s) ≡ None
    go true k =
        let a = and_parts (is_of c s q) (is_end q why) k in
        let own = among_own c s q (things c s) (each_thing c s) a.0 in
        let none : call c past q.session ≡ Nothing = ap (call c past) own.0 ∙ call_of_dead c past s (pending_session c past s fork below) in
        absurd (unlicensed c n past s q why none uncut uncaused own.0 own.1 a.1 legal.0.licensed)
    go false k = f
unclosed_stays c n act past s legal fork below uncut uncaused f = f

apart_from : (kind at : Bool) → (at ≡ true → kind ≡ true → ⊥) → (kind && at) ≡ false
apart_from kind at h = false_from_ne_true (kind && at) (λ e. let x = and_parts kind at e in h x.1 x.0)

opening_called : (act : Act) → fails_to_open act ≡ true → is_called_for act ≡ true
opening_called (OpenFailed q) e = refl
opening_called (ListenFailed q) e = refl
opening_called act e = absurd (false≢true e)

accepting_called : (act : Act) → fails_to_accept act ≡ true → is_called_for act ≡ true
accepting_called (AcceptFailed q) e = refl
accepting_called act e = absurd (false≢true e)

reading_called : (act : Act) → fails_to_read act ≡ true → is_called_for act ≡ true
reading_called (ReadFault q) e = refl
reading_called act e = absurd (false≢true e)

writing_called : (act : Act) → fails_to_write act ≡ true → is_called_for act ≡ true
writing_called (WriteFault q) e = refl
writing_called act e = absurd (false≢true e)

fresh : (c : Config) (n : ℕ) (past : List Act) (s : ℕ) → Legal c n past → has_fork c ≡ true → admitted c past ≤ s → door_cut past ≡ false → Fresh c past s
fresh c n [] s legal fork below uncut = record { opening = λ p e o. refl; accepting = λ p e o. refl; reading = λ p e o. refl; writing = λ p e o. refl; unfit = λ part. refl; unclosed = refl }
fresh c n (act ∷ past) s legal fork below uncut =
    let before : admitted c past ≤ s = le_trans (admitted_after c act past) below in
    let open_before : door_cut past ≡ false = false_from_ne_true (door_cut past) (λ e. true≢false (sym (cut_stays act past e) ∙ uncut)) in
    let f = fresh c n past s legal.1 fork before open_before in
    let left = steps_leave act past in
    let none : (p : Place) → p.session ≡ s → is_program_door c p ≡ false → is_at act p ≡ true → is_called_for act ≡ true → ⊥ =
    λ p e o. no_work c n act past p legal fork (subst (λ (x : ℕ). admitted c past ≤ x) (sym e) before) o
    in
    record {
      opening = λ p e o. left.failures_same p (apart_from (fails_to_open act) (is_at act p) (λ h k. none p e o h (opening_called act k))) ∙ f.opening p e o;
      accepting = λ p e o. left.accept_failed_same p (apart_from (fails_to_accept act) (is_at act p) (λ h k. none p e o h (accepting_called act k))) ∙ f.accepting p e o;
      reading = λ p e o. left.read_fault_at_same p (apart_from (fails_to_read act) (is_at act p) (λ h k. none p e o h (reading_called act k))) ∙ f.reading p e o;
      writing = λ p e o. left.write_fault_at_same p (apart_from (fails_to_write act) (is_at act p) (λ h k. none p e o h (writing_called act k))) ∙ f.writing p e o;
      unfit = λ part. fit_stays c n act past (place_at s Left part) legal fork refl below (none (place_at s Left part) refl (place_own c s Left part)) (f.unfit part);
      unclosed = unclosed_stays c n act past s legal fork before uncut (fresh_cause c past s open_before f) f.unclosed;
    }

-- ---- a closing of the next session's place cuts the door

mid_true : (m a : Bool) → (m || true || a) ≡ true
mid_true true a = refl
mid_true false a = refl

closing_cuts :
    (c : Config) (n : ℕ) (past : List Act) (p : Place) (why : Why) → Legal c n past → has_fork c ≡ true → is_left p ≡ true → p.door ≡ false →
    admitted c past ≤ p.session → same_why why whys.Refused ≡ false → Licensed c n past p why → door_cut (Closed p why ∷ past) ≡ true
closing_cuts c n past p why legal fork left door below other (by_cause own e) = cut_stays (Closed p why) past (go (cases_Bool (door_cut past)))
  where
    go : (door_cut past ≡ true) ⊎ (door_cut past ≡ false) → door_cut past ≡ true
    go (inl cut) = cut
    go (inr uncut) = let x : None ≡ Some why = sym (fresh_cause c past p.session uncut (fresh c n past p.session legal fork below uncut)) ∙ e in cc
closing_cuts c n past p why legal fork left door below other (by_refusal w e) = absurd (false≢true (sym other ∙ ap (λ x. same_why x whys.Refused) w))
closing_cuts c n past p why legal fork left door below other (by_service w e) =
    let t = subst (DoorTells c past) (door_called c past p (Serve p) (and_from (is_left p) (has_fork c) left fork) e) (door_says c past) in
    absurd (false≢true (sym door ∙ ap (λ x. x.door) t.0))
closing_cuts c n past p why legal fork left door below other (by_door d e) =
    let x = same_place_equal p program_door (and_parts (same_place p program_door) (has_fork c) d).0 in
    absurd (false≢true (sym door ∙ ap (λ y. y.door) x))
closing_cuts c n past p why legal fork left door below other (by_memory w e) = ap (λ x. (same_why x whys.Memory || memory_said past) || (same_why x whys.Stopped || stop_said past) || accept_failed past program_door) w
closing_cuts c n past p why legal fork left door below other (by_turns w t r) = ap (λ x. (same_why x whys.Memory || memory_said past) || (same_why x whys.Stopped || stop_said past) || accept_failed past program_door) w ∙ mid_true (memory_said past) (accept_failed past program_door)

-- ---- a place at which a peer is accepted is one of the session's

abbrev Among : List Place → Call → Type 0
Among ps (Accept d p) = list_any (same_place p) ps ≡ true
Among ps other = Unit {0}

choice : (ps : List Place) (b : Bool) (one other : Call) → Among ps one → Among ps other → Among ps (cond b one other)
choice ps true one other t f = t
choice ps false one other t f = f

due_among : (ps : List Place) (at : ℕ) (o : Option ℕ) (wanted : Call) → Among ps wanted → Among ps (when_due at o wanted)
due_among ps at None wanted t = tt
due_among ps at (Some m) wanted t = choice ps (nat_le m at) wanted (TryAt m) t tt

again_among : (c : Config) (past : List Act) (p : Place) (ps : List Place) (wanted : Call) → Among ps wanted → Among ps (try_again c past p wanted)
again_among c past p ps wanted t = choice ps (out_of_tries c past p) Nothing (when_due (now past) (next_due (options_of c p).tries.interval (failures past p)) wanted) tt (due_among ps (now past) (next_due (options_of c p).tries.interval (failures past p)) wanted t)

opening_among : (c : Config) (past : List Act) (ps : List Place) (p : Place) (st : Stage) → Among ps (opening_call c past p st)
opening_among c past ps p Untried = tt
opening_among c past ps p Unsettled = choice ps (woken past p) (Settle p) Nothing tt tt
opening_among c past ps p Failed = again_among c past p ps (Open p) tt
opening_among c past ps p st = tt

listening_among : (c : Config) (past : List Act) (ps : List Place) (d p : Place) (st : Stage) → list_any (same_place p) ps ≡ true → Among ps (listening_call c past d p st)
listening_among c past ps d p Untried h = tt
listening_among c past ps d p Failed h = again_among c past d ps (Listen d) tt
listening_among c past ps d p Waiting h = choice ps (armed_to_accept past d) (Accept d p) Nothing h tt
listening_among c past ps d p st h = tt

peer_among : (c : Config) (past : List Act) (ps : List Place) (p : Place) (st : Stage) → list_any (same_place p) ps ≡ true → Among ps (peer_call c past p st)
peer_among c past ps p (Met peer) h = choice ps (permits c p peer) (cond (held past (door_of p)) (Serve (door_of p)) Nothing) (Refuse p) (choice ps (held past (door_of p)) (Serve (door_of p)) Nothing tt tt) tt
peer_among c past ps p st h = listening_among c past ps (door_of p) p (stage past (door_of p)) h

place_among : (c : Config) (past : List Act) (ps : List Place) (p : Place) → list_any (same_place p) ps ≡ true → Among ps (place_call c past p)
place_among c past ps p h =
    choice ps (has_own_door c p) (peer_call c past p (stage past p)) (cond (listens_at c p) Nothing (opening_call c past p (stage past p)))
    (peer_among c past ps p (stage past p) h)
    (choice ps (listens_at c p) Nothing (opening_call c past p (stage past p)) tt (opening_among c past ps p (stage past p)))

among_more : (q : Place) (ps : List Place) (wanted : Call) → Among ps wanted → Among (q ∷ ps) wanted
among_more q ps (Accept d p) h = or_right (same_place p q) (list_any (same_place p) ps) h
among_more q ps wanted h = tt

first_among : (c : Config) (past : List Act) (ps : List Place) → Among ps (first_call c past ps)
first_among c past [] = tt
first_among c past (p ∷ ps) =
    choice (p ∷ ps) (is_ready c past p) (first_call c past ps) (place_call c past p)
    (among_more p ps (first_call c past ps) (first_among c past ps))
    (place_among c past (p ∷ ps) p (or_left (same_place p p) (list_any (same_place p) ps) (same_place_self p)))

call_among : (c : Config) (past : List Act) (s : ℕ) → Among (places c s) (call c past s)
call_among c past s = choice (places c s) (live c past s && is_none (cause c past s)) (first_call c past (places c s)) Nothing (first_among c past (places c s)) tt

-- ---- a session that a closing has ended

ended_by : (o : Option Why) (rest : List (Option Why)) → is_some o ≡ true → is_some (first_some (o ∷ rest)) ≡ true
ended_by None rest e = absurd (false≢true e)
ended_by (Some why) rest e = refl

closed_ends : (c : Config) (past : List Act) (s : ℕ) → is_some (closed_why c past s) ≡ true → is_some (cause c past s) ≡ true
closed_ends c past s e =
    ended_by (closed_why c past s)
    (only_if (memory_said past) whys.Memory
    ∷ only_if (stop_said past) whys.Stopped
    ∷ only_if (accept_failed_for c past s) whys.AcceptFailed
    ∷ only_if (listening_failed c past s) whys.ListenFailed
    ∷ only_if (opening_failed c past s) whys.OpenFailed
    ∷ only_if (faulted c past s) whys.Faulted
    ∷ only_if (finished c past s) whys.Finished
    ∷ only_if (ready c past s && reached (closing_moment c past s) (now past)) whys.ClosingTime
    ∷ only_if (ready c past s && reached (idle_moment c past s) (now past)) whys.Idle
    ∷ [])
    e

still_closed : (b : Bool) (why : Why) (o : Option Why) → is_some o ≡ true → is_some (cond b (Some why) o) ≡ true
still_closed true why o e = refl
still_closed false why o e = e

closed_lasts : (c : Config) (later past : List Act) (s : ℕ) → is_some (closed_why c past s) ≡ true → is_some (closed_why c (later ++ past) s) ≡ true
closed_lasts c [] past s e = e
closed_lasts c (act ∷ later) past s e = step act (closed_lasts c later past s e)
  where
    step : (a : Act) → is_some (closed_why c (later ++ past) s) ≡ true → is_some (closed_why c (a ∷ later ++ past) s) ≡ true
    step (Closed q why) ih = still_closed (is_of c s q && is_end q why) why (closed_why c (later ++ past) s) ih
    step a ih = ih

-- ---- no peer is accepted there again

rest_legal : (c : Config) (n : ℕ) (later past : List Act) → Legal c n (later ++ past) → Legal c n past
rest_legal c n [] past legal = legal
rest_legal c n (act ∷ later) past legal = rest_legal c n later past legal.1

unaccepted :
    (c : Config) (n : ℕ) (later past : List Act) (p : Place) (why : Why) → Legal c n (later ++ Closed p why ∷ past) → same_why why whys.Refused ≡ false →
    (d : Place) → called_at c (later ++ Closed p why ∷ past) p ≡ Accept d p → ⊥
unaccepted c n later past p why legal other d e = go (is_left p && has_fork c) refl e
  where
    closing : Legal c n (Closed p why ∷ past)
    closing = rest_legal c n later (Closed p why ∷ past) legal

    door : p.door ≡ false
    door = subst (Unserved (later ++ Closed p why ∷ past)) e (called_unserved c (later ++ Closed p why ∷ past) p)

    go : (b : Bool) → (is_left p && has_fork c) ≡ b → cond b (door_call c (later ++ Closed p why ∷ past)) (call c (later ++ Closed p why ∷ past) p.session) ≡ Accept d p → ⊥
    go true left k =
        let t = subst (DoorTells c (later ++ Closed p why ∷ past)) k (door_says c (later ++ Closed p why ∷ past)) in
        let sides = and_parts (is_left p) (has_fork c) left in
        let next : p.session ≡ admitted c (later ++ Closed p why ∷ past) = ap (λ x. x.session) t.1 in
        let grown : admitted c past ≤ admitted c (later ++ Closed p why ∷ past) = admitted_lasts c later (Closed p why ∷ past) in
        let below : admitted c past ≤ p.session = omega (arith, next, grown) in
        let cut = closing_cuts c n past p why closing.1 sides.1 sides.0 door below other closing.0.licensed in
        cut_accepts c (later ++ Closed p why ∷ past) d p k (cut_lasts later (Closed p why ∷ past) cut)
    go false left k =
        let among : list_any (same_place p) (places c p.session) ≡ true = subst (Among (places c p.session)) k (call_among c (later ++ Closed p why ∷ past) p.session) in
        let thing : is_of c p.session p ≡ true = list_any-append (same_place p) (places c p.session) (own_doors c p.session) ∙ or_left (list_any (same_place p) (places c p.session)) (list_any (same_place p) (own_doors c p.session)) among in
        let end : is_end p why ≡ true = λ i. not (other i) && not (door i && same_why why whys.Served) in
        let closed : is_some (closed_why c (Closed p why ∷ past) p.session) ≡ true = λ i. is_some (cond (thing i && end i) (Some why) (closed_why c past p.session)) in
        let ended = closed_ends c (later ++ Closed p why ∷ past) p.session (closed_lasts c later (Closed p why ∷ past) p.session closed) in
        let x : Nothing ≡ Accept d p = sym (call_of_ended c (later ++ Closed p why ∷ past) p.session ended) ∙ k in
        cc

-- ---- the law

gone_after : (c : Config) (n : ℕ) (later past : List Act) (p : Place) (why : Why) → Legal c n (later ++ Closed p why ∷ past) → same_why why whys.Refused ≡ false → is_gone (stage (later ++ Closed p why ∷ past) p) ≡ true
gone_after c n [] past p why legal other = subst (λ b. is_gone (cond b (Gone why) (stage past p)) ≡ true) (sym (same_place_self p)) refl
gone_after c n (act ∷ later) past p why legal other =
    let g = gone_after c n later past p why legal.1 other in
    stays_gone act (later ++ Closed p why ∷ past) p (after_gone c n act (later ++ Closed p why ∷ past) p legal g (unaccepted c n later past p why legal.1 other)) g

pub for_good :
    (c : Config) (n : ℕ) (act : Act) (later past : List Act) (p : Place) (why : Why) → Legal c n (act ∷ later ++ Closed p why ∷ past) →
    same_why why whys.Refused ≡ false → is_at act p ≡ true → reaps act ≡ true
for_good c n act later past p why legal other e = after_gone c n act (later ++ Closed p why ∷ past) p legal (gone_after c n later past p why legal.1 other) (unaccepted c n later past p why legal.1 other) e
