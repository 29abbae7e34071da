-- With `fork` a session begins where its peer is accepted: what the history says of it is what that one act says, but
-- for the clock and for the peers that were refused before under its number.
use Rattle.std.proofs.Common.{◌≡◌, refl, sym, ap, subst, ◌∙◌, ℕ, ◌<◌, ◌≤◌, Bool, true, false, not, cond, ◌&&◌, ◌||◌, ◌==◌, is_some, List, [], ◌∷◌, ◌++◌, map, filter, Option, Some, None, arith, inl, inr, ◌⊎◌}
use Rattle.std.specs.List.{list_any, list_all}
use Rattle.std.proofs.lemmas.Bool.{false≢true, true≢false, and_from, and_parts, or_parts, or_right, or_from, le-ltb, cases_Bool}
use Rattle.relay_model.specs.declared.places.Side.TheVariants.{Left, Right}
use Rattle.relay_model.specs.declared.places.Part.{Part}
use Rattle.relay_model.specs.declared.places.Part.TheVariants.{Reading, Writing}
use Rattle.relay_model.specs.declared.places.Place.{Place}
use Rattle.relay_model.specs.declared.places.Way.{Way}
use Rattle.relay_model.specs.declared.places.Way.TheVariants.{LeftToRight, RightToLeft}
use Rattle.relay_model.specs.declared.commands.Config.{Config}
use Rattle.relay_model.specs.declared.commands.Address.{Address}
use Rattle.relay_model.specs.declared.commands.Address.TheVariants as addresses
use Rattle.relay_model.specs.declared.commands.Ways.{Ways}
use Rattle.relay_model.specs.declared.commands.Ways.TheVariants as ways
use Rattle.relay_model.specs.declared.commands.Target.{Target}
use Rattle.relay_model.specs.declared.commands.Target.TheVariants as targets
use Rattle.relay_model.specs.declared.acts.Peer.{Peer}
use Rattle.relay_model.specs.declared.acts.Act.{Act}
use Rattle.relay_model.specs.declared.acts.Act.TheVariants.{Turn, AcceptFailed, Accepted, Closed}
use Rattle.relay_model.specs.declared.acts.Why.{Why}
use Rattle.relay_model.specs.declared.acts.Why.TheVariants as whys
use Rattle.relay_model.specs.Places.{same_place, same_side, same_part, door_of}
use Rattle.relay_model.specs.Choices.{only_if, or_else, one_more}
use Rattle.relay_model.specs.Configs.{Fit, offered, has_fork, is_left, is_program, listens, medium, medium_of, program_door, is_program_door, places, own_doors, accepting_door, listens_at, things, parts, parts_of, place_at, options_of, input, output, is_of, is_place_of, has_own_door}
use Rattle.relay_model.specs.History.{now, stage, holds_at, stop_said, memory_said, same_why, failures, woken, accept_failed, was_closed, was_reaped, got, put, sent, met_end, met_empty, shut_at, read_fault_at, write_fault_at}
use Rattle.relay_model.specs.declared.stages.Stage.TheVariants.{Untried, Met}
use Rattle.relay_model.specs.Arming.{read_arming, armed_to_write, armed_to_accept, asked_to_read, asked_to_write, asked_to_accept}
use Rattle.relay_model.specs.declared.armings.Arming.TheVariants.{Armed}
use Rattle.relay_model.specs.Transfers.{over, due_pieces}
use Rattle.relay_model.specs.Conversions.{is_over}
use Rattle.relay_model.specs.Moments.{moved_at, broken_at, done, broken}
use Rattle.relay_model.specs.Sessions.{admitted, numbers, permits, is_admission, next_place, first_part}
use Rattle.relay_model.specs.Tries.{is_out_of_tries}
use Rattle.relay_model.specs.Openings.{out_of_tries, ready, is_ready, stands_ready}
use Rattle.relay_model.specs.declared.calls.Call.{Call}
use Rattle.relay_model.specs.declared.calls.Call.TheVariants.{Nothing, Accept, Serve}
use Rattle.relay_model.specs.Cause.{each_formed, some_formed, cause, closed_why, is_end, fault_at, fault_stands, faulted, listening_failed, opening_failed}
use Rattle.relay_model.specs.Calls.{call, door_call, door_cut}
use Rattle.relay_model.specs.Rest.{owed}
use Rattle.relay_model.specs.May.{May, Legal, Licensed, by_cause, by_refusal, by_service, by_door, by_memory, by_turns}
use Rattle.relay_model.specs.Laws.{DoorTells}
use Rattle.relay_model.specs.Frames.{is_at, SameAt}
use Rattle.relay_laws.proofs.PlaceLemmas.{same_place_equal, same_place_self}
use Rattle.relay_laws.proofs.Admissions.{door_says, door_called}
use Rattle.relay_laws.proofs.OwnThings.{each_thing, among_own, door_own}
use Rattle.relay_laws.specs.Births.{is_named_by, works_at}
use Rattle.relay_laws.proofs.Untouched.{untouched, new, visited, unworked_there, Clean, clean, unwritten, unread, unasked_door}
use Rattle.retry_plan.specs.Plans.{PlanIs}
use Rattle.relay_buffer.specs.Flows.{IsFlow}
use Rattle.session_direction.specs.States.{DirectionState}
use Rattle.session_direction.specs.Directions.{IsDirection, terms_of, met_last, as_pieces}
use Rattle.place_openings.specs.declared.one_place.Opening.{Opening}
use Rattle.place_openings.specs.Queries.{peer_by, peer_at, peer_of_first}
use Rattle.place_openings.specs.Stands.{IsOpening, Each, AreOpenings, tried_at}
use Rattle.relay_session.specs.declared.states.State.{State}
use Rattle.relay_session.specs.declared.lanes.SessionLane.{SessionLane}
use Rattle.relay_session.specs.declared.lanes.SessionLane.TheVariants.{Unformed, Formed}
use Rattle.relay_session.specs.Lanes.{IsLane, AreLanes}
use Rattle.relay_session.specs.Endings.{Quiet, cause_when_ready}
use Rattle.relay_session.specs.States.{Ground, home}
use Rattle.relay_session.specs.Births.{IsNew, BeginsSession}
use Rattle.relay_session.specs.declared.sessions.Session.{Session}
use Rattle.relay_session.specs.Sessions.{Hears}
use Rattle.relay_session.specs.Steps.{Heeds}
use Rattle.relay_session.proofs.Homes.{left_listens}
use Rattle.relay_session.proofs.Causes.{cause_of_quiet}
use Rattle.relay_session.proofs.StepLemmas.{EndsAs, ground_again, noted, input_own, output_own}

-- ---- before it begins

-- what listens is no child
no_child : (t : Target) → listens t ≡ true → is_program (medium t) ≡ false
no_child (targets.Exec words) e = absurd (false≢true e)
no_child (targets.System command) e = absurd (false≢true e)
no_child t e = refl

home_childless : (c : Config) (s : ℕ) → Fit c → has_fork c ≡ true → is_program (medium_of c (home c s)) ≡ false
home_childless c s fit f = no_child _ (left_listens c Left (first_part (parts c Left)) s false fit refl f)

-- a session that hasn't begun, while nothing has cut the program door
record Early (c : Config) (n : ℕ) (past : List Act) (s : ℕ) : Type 0 where
  fork : has_fork c ≡ true
  fit : Fit c
  legal : Legal c n past
  beyond : admitted c past ≤ s
  unnamed : (q : Place) → is_of c s q ≡ true → list_any (is_named_by q) past ≡ false
  remembered : memory_said past ≡ false
  unstopped : stop_said past ≡ false
  unfailed : accept_failed past program_door ≡ false

memory_before : (act : Act) (past : List Act) → memory_said (act ∷ past) ≡ false → memory_said past ≡ false
memory_before (Closed q why) past e = (or_parts (same_why why whys.Memory) (memory_said past) e).1
memory_before act past e = e

stop_before : (act : Act) (past : List Act) → stop_said (act ∷ past) ≡ false → stop_said past ≡ false
stop_before (Turn until at ready stop) past e = (or_parts stop (stop_said past) e).1
stop_before (Closed q why) past e = (or_parts (same_why why whys.Stopped) (stop_said past) e).1
stop_before act past e = e

failed_before : (act : Act) (past : List Act) (d : Place) → accept_failed (act ∷ past) d ≡ false → accept_failed past d ≡ false
failed_before (AcceptFailed q) past d e = (or_parts (same_place q d) (accept_failed past d) e).1
failed_before act past d e = e

fewer : (c : Config) (act : Act) (past : List Act) (s : ℕ) → admitted c (act ∷ past) ≤ s → admitted c past ≤ s
fewer c (Accepted p peer) past s l = go (is_admission c p peer) l
  where
    go : (b : Bool) → one_more b (admitted c past) ≤ s → admitted c past ≤ s
    go true h = omega (arith, h)
    go false h = h
fewer c act past s l = l

before : (c : Config) (n : ℕ) (act : Act) (past : List Act) (s : ℕ) → Early c n (act ∷ past) s → Early c n past s
before c n act past s h = record {
  fork = h.fork;
  fit = h.fit;
  legal = h.legal.1;
  beyond = fewer c act past s h.beyond;
  unnamed = λ q o. (or_parts (is_named_by q act) (list_any (is_named_by q) past) (h.unnamed q o)).1;
  remembered = memory_before act past h.remembered;
  unstopped = stop_before act past h.unstopped;
  unfailed = failed_before act past program_door h.unfailed;
}

beyond_of : (c : Config) (n : ℕ) (past : List Act) (s : ℕ) (p : Place) → Early c n past s → p.session ≡ s → admitted c past ≤ p.session
beyond_of c n past s p h e = subst (λ (k : ℕ). admitted c past ≤ k) (sym e) h.beyond

-- a thing of a session has its number and isn't the program door
own : (c : Config) (s : ℕ) (p : Place) → is_of c s p ≡ true → (p.session ≡ s) × (is_program_door c p ≡ false)
own c s p o = among_own c s p (things c s) (each_thing c s) o

any_left : (f : Place → Bool) (xs ys : List Place) → list_any f xs ≡ true → list_any f (xs ++ ys) ≡ true
any_left f [] ys e = absurd (false≢true e)
any_left f (x ∷ xs) ys e = go (f x) e (any_left f xs ys)
  where
    go : (b : Bool) → (b || list_any f xs) ≡ true → (list_any f xs ≡ true → list_any f (xs ++ ys) ≡ true) → (b || list_any f (xs ++ ys)) ≡ true
    go true k ih = refl
    go false k ih = ih k

any_right : (f : Place → Bool) (xs ys : List Place) → list_any f ys ≡ true → list_any f (xs ++ ys) ≡ true
any_right f [] ys e = e
any_right f (x ∷ xs) ys e = or_right (f x) (list_any f (xs ++ ys)) (any_right f xs ys e)

place_is_of : (c : Config) (s : ℕ) (p : Place) → is_place_of c s p ≡ true → is_of c s p ≡ true
place_is_of c s p e = any_left (same_place p) (places c s) (own_doors c s) e

home_listed : (f : Place → Bool) (s : ℕ) (w : Ways) (a : Address) (r : List Place) → f (place_at s Left (first_part (parts_of w a Left))) ≡ true → list_any f (map (place_at s Left) (parts_of w a Left) ++ r) ≡ true
home_listed f s ways.Two (addresses.One single) r e = ap (λ b. b || list_any f r) e
home_listed f s ways.Two (addresses.Two reading writing) r e = ap (λ b. b || list_any f (place_at s Left Writing ∷ r)) e
home_listed f s ways.OnlyRight a r e = ap (λ b. b || list_any f r) e
home_listed f s ways.OnlyLeft a r e = ap (λ b. b || list_any f r) e

home_is_own : (c : Config) (s : ℕ) → is_place_of c s (home c s) ≡ true
home_is_own c s = home_listed (same_place (home c s)) s c.ways c.left (map (place_at s Right) (parts c Right)) (same_place_self (home c s))

door_among : (c : Config) (p : Place) (ps : List Place) → has_own_door c p ≡ true → list_any (same_place p) ps ≡ true → list_any (same_place (door_of p)) (map door_of (filter (has_own_door c) ps)) ≡ true
door_among c p [] o e = absurd (false≢true e)
door_among c p (x ∷ ps) o e = go (has_own_door c x) refl (cases_Bool (same_place p x)) (door_among c p ps o)
  where
    rest : same_place p x ≡ false → list_any (same_place p) ps ≡ true
    rest a = sym (ap (λ b. b || list_any (same_place p) ps) a) ∙ e

    here : same_place p x ≡ true → same_place (door_of p) (door_of x) ≡ true
    here a = sym (ap (λ y. same_place (door_of p) (door_of y)) (same_place_equal p x a)) ∙ same_place_self (door_of p)

    go : (b : Bool) → has_own_door c x ≡ b → (same_place p x ≡ true) ⊎ (same_place p x ≡ false) → (list_any (same_place p) ps ≡ true → list_any (same_place (door_of p)) (map door_of (filter (has_own_door c) ps)) ≡ true) → list_any (same_place (door_of p)) (map door_of (cond b (x ∷ filter (has_own_door c) ps) (filter (has_own_door c) ps))) ≡ true
    go true k (inl a) ih = ap (λ b. b || list_any (same_place (door_of p)) (map door_of (filter (has_own_door c) ps))) (here a)
    go true k (inr a) ih = or_right (same_place (door_of p) (door_of x)) (list_any (same_place (door_of p)) (map door_of (filter (has_own_door c) ps))) (ih (rest a))
    go false k (inl a) ih = absurd (true≢false (sym o ∙ ap (has_own_door c) (same_place_equal p x a) ∙ k))
    go false k (inr a) ih = ih (rest a)

door_is_of : (c : Config) (s : ℕ) (p : Place) → is_place_of c s p ≡ true → has_own_door c p ≡ true → is_of c s (door_of p) ≡ true
door_is_of c s p e o = any_right (same_place (door_of p)) (places c s) (own_doors c s) (door_among c p (places c s) o e)

-- no act is at its things but the home
spared : (c : Config) (n : ℕ) (past : List Act) (s : ℕ) (p : Place) → Early c n past s → is_of c s p ≡ true → same_place p (home c s) ≡ false → list_any (λ act. is_at act p) past ≡ false
spared c n past s p h o a =
    let k = own c s p o in
    untouched c n past p h.fork h.legal (beyond_of c n past s p h k.0) k.1 (ap (λ (x : ℕ). same_place p (home c x)) k.0 ∙ a)

idle_there : (c : Config) (n : ℕ) (past : List Act) (s : ℕ) (p : Place) → Early c n past s → is_of c s p ≡ true → list_any (works_at p) past ≡ false
idle_there c n past s p h o = go (cases_Bool (same_place p (home c s)))
  where
    go : (same_place p (home c s) ≡ true) ⊎ (same_place p (home c s) ≡ false) → list_any (works_at p) past ≡ false
    go (inl a) =
        let k = same_place_equal p (home c s) a in
        let x = own c s p o in
        visited c n past p h.fork h.legal (beyond_of c n past s p h x.0) x.1 (ap (λ (y : Place). is_program (medium_of c y)) k ∙ home_childless c s h.fit h.fork) (h.unnamed p o)
    go (inr a) = unworked_there past p (spared c n past s p h o a) (h.unnamed p o)

clean_there : (c : Config) (n : ℕ) (past : List Act) (s : ℕ) (p : Place) → Early c n past s → is_of c s p ≡ true → Clean past p
clean_there c n past s p h o = clean past p (idle_there c n past s p h o)

-- ---- nothing ends it

none_of_each : (f : Place → Bool) (ps : List Place) → ((p : Place) → list_any (same_place p) ps ≡ true → f p ≡ false) → list_any f ps ≡ false
none_of_each f [] h = refl
none_of_each f (p ∷ ps) h = or_from (f p) (list_any f ps) (h p (ap (λ b. b || list_any (same_place p) ps) (same_place_self p))) (none_of_each f ps (λ q e. h q (or_right (same_place q p) (list_any (same_place q) ps) e)))

none_of_places : (c : Config) (s : ℕ) (f : Place → Bool) → ((p : Place) → is_of c s p ≡ true → f p ≡ false) → list_any f (places c s) ≡ false
none_of_places c s f h = none_of_each f (places c s) (λ p e. h p (place_is_of c s p e))

none_of_doors : (c : Config) (s : ℕ) (f : Place → Bool) → ((p : Place) → is_of c s p ≡ true → f p ≡ false) → list_any f (own_doors c s) ≡ false
none_of_doors c s f h = none_of_each f (own_doors c s) (λ p e. h p (any_right (same_place p) (places c s) (own_doors c s) e))

and_none : (b : Bool) → (b && false) ≡ false
and_none true = refl
and_none false = refl

untired : (retry : ℕ) (forever : Bool) (xs : List ℕ) → xs ≡ [] → is_out_of_tries retry forever xs ≡ false
untired retry forever xs e = ap (is_out_of_tries retry forever) e ∙ rw (le-ltb retry 0 (omega arith), and_none) refl

tries_left : (c : Config) (n : ℕ) (past : List Act) (s : ℕ) → Early c n past s → (p : Place) → is_of c s p ≡ true → out_of_tries c past p ≡ false
tries_left c n past s h p o = untired (options_of c p).tries.retry (options_of c p).tries.forever (failures past p) (clean_there c n past s p h o).failures_is

faultless_at : (past : List Act) (p : Place) → Clean past p → fault_at past p ≡ false
faultless_at past p k = let x = k.read_fault_at_is in let y = k.write_fault_at_is in λ i. is_some (x i) || is_some (y i)

all_but : (f : Place → Bool) (xs : List Place) (y : Place) (ys : List Place) → f y ≡ false → list_all f (xs ++ y ∷ ys) ≡ false
all_but f [] y ys e = ap (λ b. b && list_all f ys) e
all_but f (x ∷ xs) y ys e = ap (λ b. f x && b) (all_but f xs y ys e) ∙ and_none (f x)

right_lacks : (f : Place → Bool) (s : ℕ) (w : Ways) (a : Address) (xs : List Place) → ((part : Part) → list_any (same_place (place_at s Right part)) (map (place_at s Right) (parts_of w a Right)) ≡ true → f (place_at s Right part) ≡ false) → list_all f (xs ++ map (place_at s Right) (parts_of w a Right)) ≡ false
right_lacks f s ways.Two (addresses.One single) xs h = let part = offered single.target single.options.file in all_but f xs (place_at s Right part) [] (h part (ap (λ b. b || false) (same_place_self (place_at s Right part))))
right_lacks f s ways.Two (addresses.Two reading writing) xs h = all_but f xs (place_at s Right Reading) (place_at s Right Writing ∷ []) (h Reading (ap (λ b. b || false) (same_place_self (place_at s Right Reading))))
right_lacks f s ways.OnlyRight a xs h = all_but f xs (place_at s Right Writing) [] (h Writing (ap (λ b. b || false) (same_place_self (place_at s Right Writing))))
right_lacks f s ways.OnlyLeft a xs h = all_but f xs (place_at s Right Reading) [] (h Reading (ap (λ b. b || false) (same_place_self (place_at s Right Reading))))

unready : (c : Config) (n : ℕ) (past : List Act) (s : ℕ) → Early c n past s → ready c past s ≡ false
unready c n past s h = right_lacks (is_ready c past) s c.ways c.right (map (place_at s Left) (parts c Left)) right
  where
    right : (part : Part) → list_any (same_place (place_at s Right part)) (map (place_at s Right) (parts c Right)) ≡ true → is_ready c past (place_at s Right part) ≡ false
    right part e =
        let p = place_at s Right part in
        let o = place_is_of c s p (any_right (same_place p) (map (place_at s Left) (parts c Left)) (map (place_at s Right) (parts c Right)) e) in
        ap (stands_ready c past p) (new past p (spared c n past s p h o refl) (h.unnamed p o)).stage_same

quiet_of : (c : Config) (n : ℕ) (past : List Act) (s : ℕ) → Early c n past s → closed_why c past s ≡ None → Quiet c past s
quiet_of c n past s h u = record {
  unclosed = u;
  remembered = h.remembered;
  unstopped = h.unstopped;
  accepts = or_from (has_fork c && accept_failed past program_door) (list_any (accept_failed past) (own_doors c s))
      (ap (λ b. has_fork c && b) h.unfailed ∙ and_none (has_fork c))
      (none_of_doors c s (accept_failed past) (λ p o. (clean_there c n past s p h o).accept_failed_is));
}

faultless_of : (c : Config) (n : ℕ) (past : List Act) (s : ℕ) → Early c n past s → fault_stands c past s ≡ false
faultless_of c n past s h = none_of_places c s (fault_at past) (λ p o. faultless_at past p (clean_there c n past s p h o))

unfaulted : (sloppy r x y f : Bool) → r ≡ false → f ≡ false → cond sloppy (r && x && y) f ≡ false
unfaulted true r x y f e k = ap (λ b. b && x && y) e
unfaulted false r x y f e k = k

by_itself : (l o f r : Bool) (x : Option Why) → l ≡ false → o ≡ false → f ≡ false → r ≡ false → or_else (or_else (only_if l whys.ListenFailed) (only_if o whys.OpenFailed)) (cond f (Some whys.Faulted) (cond r x None)) ≡ None
by_itself l o f r x a b d e = rw (a, b, d, e) refl

uncaused : (c : Config) (n : ℕ) (past : List Act) (s : ℕ) → Early c n past s → closed_why c past s ≡ None → cause c past s ≡ None
uncaused c n past s h u =
    cause_of_quiet c past s (quiet_of c n past s h u) ∙
    by_itself (listening_failed c past s) (opening_failed c past s) (faulted c past s) (ready c past s) (cause_when_ready c past s)
    (none_of_doors c s (out_of_tries c past) (tries_left c n past s h))
    (none_of_places c s (out_of_tries c past) (tries_left c n past s h))
    (unfaulted c.sloppy (ready c past s) (each_formed c (done c past s)) (some_formed c (broken c past s)) (fault_stands c past s) (unready c n past s h) (faultless_of c n past s h))
    (unready c n past s h)

-- a closing of its things is that of a refused peer
no_end : (c : Config) (n : ℕ) (q : Place) (why : Why) (past : List Act) (s : ℕ) → Early c n (Closed q why ∷ past) s → closed_why c past s ≡ None → is_of c s q ≡ true → is_end q why ≡ true → ⊥
no_end c n q why past s h u among end = go (cases_Bool (same_place q (home c s)))
  where
    k : (q.session ≡ s) × (is_program_door c q ≡ false)
    k = own c s q among

    door_not : is_program_door c q ≡ true → ⊥
    door_not d = true≢false (sym d ∙ k.1)

    refute : is_left q ≡ true → Licensed c n past q why → ⊥
    refute l (by_cause d e) = let x : None ≡ Some why = sym (uncaused c n past s (before c n (Closed q why) past s h) u) ∙ (sym (ap (cause c past) k.0) ∙ e) in cc
    refute l (by_refusal e d) = true≢false (sym end ∙ ap (is_end q) e)
    refute l (by_service e d) =
        let t : DoorTells c past (Serve q) = subst (DoorTells c past) (door_called c past q (Serve q) (and_from (is_left q) (has_fork c) l h.fork) d) (door_says c past) in
        let x = t.0 in
        let f = h.fork in
        door_not (λ i. same_place (x i) program_door && f i)
    refute l (by_door d e) = door_not d
    refute l (by_memory e d) = true≢false (ap (λ w. same_why w whys.Memory) (sym e) ∙ (or_parts (same_why why whys.Memory) (memory_said past) h.remembered).0)
    refute l (by_turns e d r) = true≢false (ap (λ w. same_why w whys.Stopped) (sym e) ∙ (or_parts (same_why why whys.Stopped) (stop_said past) h.unstopped).0)

    go : (same_place q (home c s) ≡ true) ⊎ (same_place q (home c s) ≡ false) → ⊥
    go (inl a) = refute (ap is_left (same_place_equal q (home c s) a)) h.legal.0.licensed
    go (inr a) = true≢false (sym (same_place_self q) ∙ (or_parts (same_place q q) (list_any (λ act. is_at act q) past) (spared c n (Closed q why ∷ past) s q h among a)).0)

unended : (c : Config) (n : ℕ) (past : List Act) (s : ℕ) → Early c n past s → closed_why c past s ≡ None
unended c n [] s h = refl
unended c n (Closed q why ∷ past) s h = go (is_of c s q && is_end q why) refl (unended c n past s (before c n (Closed q why) past s h))
  where
    go : (b : Bool) → (is_of c s q && is_end q why) ≡ b → closed_why c past s ≡ None → cond b (Some why) (closed_why c past s) ≡ None
    go true e ih = let a = and_parts (is_of c s q) (is_end q why) e in absurd (no_end c n q why past s h ih a.0 a.1)
    go false e ih = ih
unended c n (act ∷ past) s h = unended c n past s (before c n act past s h)

-- ---- what the history says once it has begun

-- two lists say the same of a place or door, but for whether it was ever closed
record BornAt (p : Place) (one other : List Act) : Type 0 where
  stage_same : stage one p ≡ stage other p
  failures_same : failures one p ≡ failures other p
  woken_same : woken one p ≡ woken other p
  was_reaped_same : was_reaped one p ≡ was_reaped other p
  got_same : got one p ≡ got other p
  put_same : put one p ≡ put other p
  sent_same : sent one p ≡ sent other p
  met_end_same : met_end one p ≡ met_end other p
  met_empty_same : met_empty one p ≡ met_empty other p
  shut_at_same : shut_at one p ≡ shut_at other p
  read_fault_at_same : read_fault_at one p ≡ read_fault_at other p
  write_fault_at_same : write_fault_at one p ≡ write_fault_at other p
  read_arming_same : read_arming one p ≡ read_arming other p
  armed_to_write_same : armed_to_write one p ≡ armed_to_write other p
  armed_to_accept_same : armed_to_accept one p ≡ armed_to_accept other p
  asked_to_read_same : asked_to_read one p ≡ asked_to_read other p

born_from : (past : List Act) (q p : Place) (peer : Peer) → Clean past p →
    stage (Accepted q peer ∷ past) p ≡ stage (Accepted q peer ∷ []) p → read_arming (Accepted q peer ∷ past) p ≡ read_arming (Accepted q peer ∷ []) p → armed_to_write (Accepted q peer ∷ past) p ≡ armed_to_write (Accepted q peer ∷ []) p →
    BornAt p (Accepted q peer ∷ past) (Accepted q peer ∷ [])
born_from past q p peer k x y z = record {
  stage_same = x;
  failures_same = k.failures_is;
  woken_same = k.woken_is;
  was_reaped_same = k.was_reaped_is;
  got_same = k.got_is;
  put_same = k.put_is;
  sent_same = k.sent_is;
  met_end_same = k.met_end_is;
  met_empty_same = k.met_empty_is;
  shut_at_same = k.shut_at_is;
  read_fault_at_same = k.read_fault_at_is;
  write_fault_at_same = k.write_fault_at_is;
  read_arming_same = y;
  armed_to_write_same = z;
  armed_to_accept_same = k.armed_to_accept_is;
  asked_to_read_same = k.asked_to_read_is;
}

-- at the place that was accepted for, and elsewhere
born_here : (past : List Act) (p : Place) (peer : Peer) → Clean past p → BornAt p (Accepted p peer ∷ past) (Accepted p peer ∷ [])
born_here past p peer k =
    let e = same_place_self p in
    born_from past p p peer k
    (ap (λ b. cond b (Met peer) (stage past p)) e ∙ sym (ap (λ b. cond b (Met peer) Untried) e))
    (ap (λ b. cond b Armed (read_arming past p)) e ∙ sym (ap (λ b. cond b Armed (read_arming [] p)) e))
    (ap (λ b. b || armed_to_write past p) e ∙ sym (ap (λ b. b || false) e))

born_away : (past : List Act) (q p : Place) (peer : Peer) → Clean past p → SameAt p past [] → BornAt p (Accepted q peer ∷ past) (Accepted q peer ∷ [])
born_away past q p peer k h =
    born_from past q p peer k
    (ap (cond (same_place q p) (Met peer)) h.stage_same)
    (ap (cond (same_place q p) Armed) h.read_arming_same)
    (ap (λ b. same_place q p || b) h.armed_to_write_same)

born_at : (c : Config) (n : ℕ) (past : List Act) (s : ℕ) (peer : Peer) (p : Place) → Early c n past s → is_of c s p ≡ true → BornAt p (Accepted (home c s) peer ∷ past) (Accepted (home c s) peer ∷ [])
born_at c n past s peer p h o = go (cases_Bool (same_place p (home c s)))
  where
    go : (same_place p (home c s) ≡ true) ⊎ (same_place p (home c s) ≡ false) → BornAt p (Accepted (home c s) peer ∷ past) (Accepted (home c s) peer ∷ [])
    go (inl a) = subst (λ (x : Place). BornAt x (Accepted (home c s) peer ∷ past) (Accepted (home c s) peer ∷ [])) (sym (same_place_equal p (home c s) a)) (born_here past (home c s) peer (clean_there c n past s (home c s) h (place_is_of c s (home c s) (home_is_own c s))))
    go (inr a) = born_away past (home c s) p peer (clean_there c n past s p h o) (new past p (spared c n past s p h o a) (h.unnamed p o))

-- a child was never closed, since it isn't the home
unclosed_child : (c : Config) (n : ℕ) (past : List Act) (s : ℕ) (p : Place) → Early c n past s → is_of c s p ≡ true → is_program (medium_of c p) ≡ true → was_closed past p ≡ false
unclosed_child c n past s p h o k = go (cases_Bool (same_place p (home c s)))
  where
    go : (same_place p (home c s) ≡ true) ⊎ (same_place p (home c s) ≡ false) → was_closed past p ≡ false
    go (inl a) = absurd (true≢false (sym k ∙ ap (λ (x : Place). is_program (medium_of c x)) (same_place_equal p (home c s) a) ∙ home_childless c s h.fit h.fork))
    go (inr a) = (new past p (spared c n past s p h o a) (h.unnamed p o)).was_closed_same

-- no own door is that of the home
own_door_away : (c : Config) (s : ℕ) (p : Place) → has_fork c ≡ true → has_own_door c p ≡ true → same_place p (home c s) ≡ false
own_door_away c s p f o = go (cases_Bool (same_place p (home c s)))
  where
    go : (same_place p (home c s) ≡ true) ⊎ (same_place p (home c s) ≡ false) → same_place p (home c s) ≡ false
    go (inr a) = a
    go (inl a) =
        let l : is_left p ≡ true = ap is_left (same_place_equal p (home c s) a) in
        let x = (and_parts (listens_at c p) (not (is_left p && has_fork c)) o).1 in
        absurd (true≢false (sym x ∙ (λ i. not (l i && f i))))

door_away : (c : Config) (s : ℕ) (p : Place) → same_place (door_of p) (home c s) ≡ false
door_away c s p = go (same_side p.side Left) (same_part p.part (home c s).part)
  where
    go : (a b : Bool) → (a && b && false && p.session == s) ≡ false
    go true true = refl
    go true false = refl
    go false b = refl

unasked_there : (c : Config) (n : ℕ) (past : List Act) (s : ℕ) (p : Place) → Early c n past s → is_place_of c s p ≡ true → p.door ≡ false → has_own_door c p ≡ true → asked_to_accept c past (door_of p) ≡ false
unasked_there c n past s p h m k o =
    unasked_door c past p h.fork (door_own c p o) k (spared c n past s p h (place_is_of c s p m) (own_door_away c s p h.fork o)) (spared c n past s (door_of p) h (door_is_of c s p m o) (door_away c s p))

-- ---- the openings

abbrev begun_by : Config → ℕ → Peer → List Act → List Act
begun_by c s peer past = Accepted (home c s) peer ∷ past

failures_born : (c : Config) (n : ℕ) (past : List Act) (s : ℕ) (p : Place) (b : Bool) → Early c n past s → is_of c s p ≡ true → (b ≡ true → is_of c s (door_of p) ≡ true) → failures past (tried_at b p) ≡ []
failures_born c n past s p true h o f = (clean_there c n past s (door_of p) h (f refl)).failures_is
failures_born c n past s p false h o f = (clean_there c n past s p h o).failures_is

opening_born : (c : Config) (n : ℕ) (past : List Act) (s : ℕ) (peer : Peer) (p : Place) (o : Opening) → Early c n past s → is_place_of c s p ≡ true → IsOpening c (begun_by c s peer []) p o → IsOpening c (begun_by c s peer past) p o
opening_born c n past s peer p o h m g =
    let k = place_is_of c s p m in
    let a = born_at c n past s peer p h k in
    let door : o.has_door ≡ true → is_of c s (door_of p) ≡ true = λ b. door_is_of c s p m (sym g.has_door_is ∙ b) in
    let there : o.has_door ≡ true → BornAt (door_of p) (begun_by c s peer past) (begun_by c s peer []) = λ b. born_at c n past s peer (door_of p) h (door b) in
    let f = failures_born c n past s p o.has_door h k door in
    record {
      no_door = g.no_door;
      place_is = g.place_is;
      listens_is = g.listens_is;
      has_door_is = g.has_door_is;
      is_child_is = g.is_child_is;
      filter_is = g.filter_is;
      stage_is = g.stage_is ∙ sym a.stage_same;
      woken_is = g.woken_is ∙ sym a.woken_same;
      door_is = λ b. g.door_is b ∙ sym (there b).stage_same;
      armed_is = λ b. g.armed_is b ∙ sym (there b).armed_to_accept_same;
      asked_is = λ b. g.asked_is b ∙ ap (λ x. same_place (accepting_door c (home c s)) (door_of p) || x) (sym (unasked_there c n past s p h m g.no_door (sym g.has_door_is ∙ b)));
      tries_are = subst (λ (x : List ℕ). PlanIs (options_of c p).tries.retry (options_of c p).tries.forever (options_of c p).tries.interval x o.plan) (sym f) g.tries_are;
      tried_is = λ b. let x : None ≡ Some 0 = g.tried_is b in absurd cc;
      untried = λ b. a.failures_same ∙ g.untried b;
      closed_is = λ b. g.closed_is b ∙ sym (unclosed_child c n past s p h k (sym g.is_child_is ∙ b));
      asked_child_is = λ b. g.asked_child_is (sym a.was_reaped_same ∙ b);
    }

each_born : (c : Config) (n : ℕ) (past : List Act) (s : ℕ) (peer : Peer) → Early c n past s → (ps : List Place) (os : List Opening) → ((p : Place) → list_any (same_place p) ps ≡ true → is_place_of c s p ≡ true) → Each c (begun_by c s peer []) ps os → Each c (begun_by c s peer past) ps os
each_born c n past s peer h [] [] own g = g
each_born c n past s peer h [] (o ∷ os) own g = g
each_born c n past s peer h (p ∷ ps) [] own g = g
each_born c n past s peer h (p ∷ ps) (o ∷ os) own g =
    (opening_born c n past s peer p o h (own p (ap (λ b. b || list_any (same_place p) ps) (same_place_self p))) g.0, each_born c n past s peer h ps os (λ q e. own q (or_right (same_place q p) (list_any (same_place q) ps) e)) g.1)

-- ---- the directions

direction_born : (c : Config) (n : ℕ) (past : List Act) (s : ℕ) (peer : Peer) (w : Way) (x : DirectionState) → Early c n past s → IsDirection c (begun_by c s peer []) s w x → IsDirection c (begun_by c s peer past) s w x
direction_born c n past s peer w x h g =
    let from = place_is_of c s (input c s w) (input_own c s w g.is_formed) in
    let to = place_is_of c s (output c s w) (output_own c s w g.is_formed) in
    let i = born_at c n past s peer (input c s w) h from in
    let o = born_at c n past s peer (output c s w) h to in
    let one = begun_by c s peer past in
    let other = begun_by c s peer [] in
    let y = i.met_end_same in
    let z = i.met_empty_same in
    let got_same = i.got_same in
    let passed = o.shut_at_same in
    let r = i.read_fault_at_same in
    let u = o.write_fault_at_same in
    let pieces : due_pieces c one s w ≡ due_pieces c other s w = unread c past s w (idle_there c n past s (input c s w) h from) in
    let written : asked_to_write one (input c s w) (output c s w) ≡ asked_to_write other (input c s w) (output c s w) = unwritten past (input c s w) (output c s w) (idle_there c n past s (output c s w) h to) in
    let met : met_last c one s w ≡ met_last c other s w = λ j. y j && not (options_of c (input c s w)).input.ignoreeof || z j && (options_of c (input c s w)).input.null_eof in
    let v : over c one (input c s w) ≡ over c other (input c s w) = λ j. y j && not (options_of c (input c s w)).input.ignoreeof || z j && (options_of c (input c s w)).input.null_eof || is_over (options_of c (input c s w)).input.readbytes (options_of c (input c s w)).input.escape (got_same j) in
    let broken : broken_at c one s w ≡ broken_at c other s w = λ j. cond c.sloppy (or_else (r j) (u j)) None in
    record {
      is_formed = g.is_formed;
      source_is = g.source_is;
      sink_is = g.sink_is;
      ignores_end_is = g.ignores_end_is;
      ends_at_empty_is = g.ends_at_empty_is;
      sloppy_is = g.sloppy_is;
      how_is = g.how_is;
      gathers_is = g.gathers_is;
      flow_is = subst (λ (a : List ℕ). IsFlow (terms_of c w) a (put one (output c s w)) x.flow) (sym i.got_same) (subst (λ (b : List ℕ). IsFlow (terms_of c w) (got other (input c s w)) b x.flow) (sym o.put_same) g.flow_is);
      arming_is = g.arming_is ∙ sym i.read_arming_same;
      armed_out_is = g.armed_out_is ∙ sym o.armed_to_write_same;
      asked_in_is = g.asked_in_is ∙ sym i.asked_to_read_same;
      asked_out_is = g.asked_out_is ∙ sym written;
      ended_is = g.ended_is ∙ sym met;
      passed_is = g.passed_is ∙ sym passed;
      broken_is = g.broken_is ∙ sym broken;
      pieces_are = λ b. pieces ∙ g.pieces_are b ∙ ap (λ (a : List (List ℕ)). a ++ as_pieces x.flow.backlog) (sym o.sent_same);
      passed_is_spent = λ b. let t = g.passed_is_spent b in record { emptied = t.emptied; is_over = v ∙ t.is_over };
    }

lane_born : (c : Config) (n : ℕ) (past : List Act) (s : ℕ) (peer : Peer) (w : Way) (l : SessionLane) → Early c n past s → IsLane c (begun_by c s peer []) s w l → IsLane c (begun_by c s peer past) s w l
lane_born c n past s peer w Unformed h g = g
lane_born c n past s peer w (Formed x) h g = direction_born c n past s peer w x h g

-- ---- the whole

uncut_by : (f b : Bool) (x : Call) (d p : Place) → cond (not f || b) Nothing x ≡ Accept d p → b ≡ false
uncut_by true true x d p e = cc
uncut_by true false x d p e = refl
uncut_by false b x d p e = cc

early : (c : Config) (n : ℕ) (past : List Act) (s : ℕ) (peer : Peer) → Fit c → BeginsSession c n past s peer → Early c n past s
early c n past s peer fit b =
    let cut : door_cut past ≡ false = uncut_by (has_fork c) (door_cut past) _ program_door (next_place c past) b.called in
    let x = or_parts (memory_said past || stop_said past) (accept_failed past program_door) cut in
    let y = or_parts (memory_said past) (stop_said past) x.0 in
    record { fork = b.fork; fit = fit; legal = b.legal; beyond = subst (λ (k : ℕ). admitted c past ≤ k) (sym b.next) (omega arith); unnamed = b.unnamed; remembered = y.0; unstopped = y.1; unfailed = x.1 }

counted : (f a : Bool) (n : ℕ) → f ≡ true → a ≡ true → n < cond f (one_more a n) 1
counted true true n x y = omega arith
counted true false n x y = absurd (false≢true y)
counted false a n x y = absurd (false≢true x)

born_home : (c : Config) (n : ℕ) (past : List Act) (s : ℕ) (peer : Peer) (old mid new : State) → IsNew c s old → BeginsSession c n past s peer → AreOpenings c (begun_by c s peer []) s mid.openings → AreLanes c (begun_by c s peer []) s mid.lanes →
    mid.clock ≡ now past → mid.moved ≡ now past → mid.faulted ≡ old.faulted → mid.closing ≡ old.closing → mid.idle ≡ old.idle → mid.sloppy ≡ old.sloppy →
    EndsAs mid new → (Ground c (begun_by c s peer past) s mid → Quiet c (begun_by c s peer past) s → new.ending ≡ cause c (begun_by c s peer past) s) → Heeds c (begun_by c s peer past) s new
born_home c n past s peer old mid new o b openings lanes clock move fault closing idle sloppy again ending =
    let h = early c n past s peer o.fit b in
    let e = same_place_self (home c s) in
    let admission : is_admission c (home c s) peer ≡ true = and_from (has_fork c) (permits c (home c s) peer) b.fork b.permitted in
    let quiet = quiet_of c n past s h (unended c n past s h) in
    let q : Quiet c (begun_by c s peer past) s = record { unclosed = quiet.unclosed; remembered = quiet.remembered; unstopped = quiet.unstopped; accepts = quiet.accepts } in
    let g : Ground c (begun_by c s peer past) s mid = record {
      fit = o.fit;
      begun = subst (λ (k : ℕ). k < numbers c (begun_by c s peer past)) (sym b.next) (counted (has_fork c) (is_admission c (home c s) peer) (admitted c past) b.fork admission);
      home_held = λ f u. ap (λ x. holds_at (cond x (Met peer) (stage past (home c s)))) e;
      openings_are = record { each = each_born c n past s peer h (places c s) mid.openings (λ p e. e) openings.each };
      lanes_are = record { to_right_is = lane_born c n past s peer LeftToRight mid.lanes.to_right h lanes.to_right_is; to_left_is = lane_born c n past s peer RightToLeft mid.lanes.to_left h lanes.to_left_is; grant_is = lanes.grant_is; extra_within = lanes.extra_within };
      clock_is = clock;
      moved_is = noted (is_place_of c s (home c s)) (now past) mid.moved (moved_at c past s) (home_is_own c s) move;
      faulted_is = fault ∙ o.faulted_is ∙ sym (faultless_of c n past s h);
      closing_is = closing ∙ o.closing_is;
      idle_is = idle ∙ o.idle_is;
      sloppy_is = sloppy ∙ o.sloppy_is;
    } in
    record { ground = ground_again c (begun_by c s peer past) s mid new g again; quiet = q; ending_is = ending g q }

pub born : (c : Config) (n : ℕ) (past : List Act) (s : ℕ) (p : Place) (peer : Peer) (old mid new : State) → IsNew c s old → BeginsSession c n past s peer → p ≡ home c s → AreOpenings c (Accepted p peer ∷ []) s mid.openings → AreLanes c (Accepted p peer ∷ []) s mid.lanes →
    mid.clock ≡ now past → mid.moved ≡ now past → mid.faulted ≡ old.faulted → mid.closing ≡ old.closing → mid.idle ≡ old.idle → mid.sloppy ≡ old.sloppy →
    EndsAs mid new → (Ground c (Accepted p peer ∷ past) s mid → Quiet c (Accepted p peer ∷ past) s → new.ending ≡ cause c (Accepted p peer ∷ past) s) → Heeds c (Accepted p peer ∷ past) s new
born c n past s p peer old mid new o b e openings lanes clock move fault closing idle sloppy again ending =
    subst (λ (x : Place). Heeds c (Accepted x peer ∷ past) s new) (sym e)
    (born_home c n past s peer old mid new o b
    (subst (λ (x : Place). AreOpenings c (Accepted x peer ∷ []) s mid.openings) e openings)
    (subst (λ (x : Place). AreLanes c (Accepted x peer ∷ []) s mid.lanes) e lanes)
    clock move fault closing idle sloppy again
    (subst (λ (x : Place). Ground c (Accepted x peer ∷ past) s mid → Quiet c (Accepted x peer ∷ past) s → new.ending ≡ cause c (Accepted x peer ∷ past) s) e ending))

-- that the peer is accepted is what is called for
pub birth_may : (c : Config) (n : ℕ) (past : List Act) (s : ℕ) (peer : Peer) → BeginsSession c n past s peer → owed c past ≡ None → May c n past (Accepted (home c s) peer)
birth_may c n past s peer b o =
    let f = b.fork in
    let at = sym b.next in
    (o, (program_door, ap (λ x. cond x (door_call c past) (call c past s)) f ∙ b.called ∙ ap (λ (k : ℕ). Accept program_door (home c k)) at))

-- the place is written as the definitions say it
pub begun_at : (c : Config) (n : ℕ) (past : List Act) (s : ℕ) (p : Place) (peer : Peer) (session : Session) → p ≡ home c s → Hears c n (Accepted p peer ∷ past) s session → Hears c n (Accepted (home c s) peer ∷ past) s session
begun_at c n past s p peer session e h = subst (λ (x : Place). Hears c n (Accepted x peer ∷ past) s session) e h

-- its peer is met there
pub birth_meets : (c : Config) (n : ℕ) (past : List Act) (s : ℕ) (peer : Peer) → BeginsSession c n past s peer → peer_at c (Accepted (home c s) peer ∷ past) (home c s) ≡ Some peer
birth_meets c n past s peer b =
    ap (λ x. peer_by (options_of c (home c s)).admission (cond x (Met peer) (stage past (home c s)))) (same_place_self (home c s)) ∙ ap (λ x. only_if x peer) b.permitted

-- the first place of a session is its home
first_home : (c : Config) (past : List Act) (s : ℕ) (w : Ways) (a : Address) (r : List Place) → peer_of_first c past (map (place_at s Left) (parts_of w a Left) ++ r) ≡ peer_at c past (place_at s Left (first_part (parts_of w a Left)))
first_home c past s ways.Two (addresses.One single) r = refl
first_home c past s ways.Two (addresses.Two reading writing) r = refl
first_home c past s ways.OnlyRight a r = refl
first_home c past s ways.OnlyLeft a r = refl

pub peer_at_home : (c : Config) (past : List Act) (s : ℕ) → peer_of_first c past (places c s) ≡ peer_at c past (home c s)
peer_at_home c past s = first_home c past s c.ways c.left (map (place_at s Right) (parts c Right))
