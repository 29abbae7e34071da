-- Each holding ends once.
use Rattle.std.proofs.Common.{◌≡◌, refl, sym, ap, subst, ◌∙◌, ℕ, suc, Bool, true, false, not, cond, ◌&&◌, ◌||◌, nat_le, is_none, List, [], ◌∷◌, ◌++◌, map, Option, Some, None, inl, inr, ◌⊎◌}
use Rattle.std.proofs.lemmas.Bool.{false≢true, and_parts}
use Rattle.relay_model.specs.declared.places.Side.{Side}
use Rattle.relay_model.specs.declared.places.Side.TheVariants.{Left, Right}
use Rattle.relay_model.specs.declared.places.Part.{Part}
use Rattle.relay_model.specs.declared.places.Place.{Place}
use Rattle.relay_model.specs.declared.commands.Config.{Config}
use Rattle.relay_model.specs.declared.acts.Act.{Act}
use Rattle.relay_model.specs.declared.acts.Act.TheVariants.{Opened, OpenLater, OpenFailed, Listening, ListenFailed, Accepted, Closed}
use Rattle.relay_model.specs.Places.{same_place, door_of}
use Rattle.relay_model.specs.Choices.{one_more}
use Rattle.relay_model.specs.Configs.{places, parts, place_at, options_of, listens_at, has_own_door, has_fork, is_left, program_door}
use Rattle.relay_model.specs.History.{now, stage, held, holds_at, woken, failures}
use Rattle.relay_model.specs.declared.stages.Stage.{Stage}
use Rattle.relay_model.specs.declared.stages.Stage.TheVariants.{Untried, Usable, Unsettled, Failed, Met, Waiting, Gone}
use Rattle.relay_model.specs.Arming.{armed_to_accept}
use Rattle.relay_model.specs.Sessions.{permits, live, next_place}
use Rattle.relay_model.specs.Tries.{next_due}
use Rattle.relay_model.specs.Openings.{out_of_tries, when_due, try_again, is_ready, opening_call, listening_call, peer_call, place_call, first_call}
use Rattle.relay_model.specs.declared.calls.Call.{Call}
use Rattle.relay_model.specs.declared.calls.Call.TheVariants.{Nothing, TryAt, Open, Settle, Listen, Accept, Refuse, Serve}
use Rattle.relay_model.specs.Cause.{cause}
use Rattle.relay_model.specs.Calls.{call, door_cut, enough, full, program_door_call, door_call, called_at}
use Rattle.relay_model.specs.May.{Legal}
use Rattle.relay_model.specs.Laws.{Tells}
use Rattle.relay_laws.proofs.PlaceLemmas.{same_place_equal}
use Rattle.relay_laws.proofs.CallLemmas.{called_tells}
use Rattle.relay_laws.specs.Holdings.{is_settling, beginnings, endings}
use Rattle.relay_laws.proofs.Served.{NoDoors, no_doors}

-- ---- what a call begins

abbrev is_met : Stage → Bool
is_met (Met peer) = true
is_met st = false

-- what is opened listens not; a door is listened at; a peer is accepted at a place that holds none
abbrev Begins : Config → List Act → Call → Type 0
Begins c past (Open p) = listens_at c p ≡ false
Begins c past (Settle p) = listens_at c p ≡ false
Begins c past (Listen d) = d.door ≡ true
Begins c past (Accept d p) = ((listens_at c p ≡ true) × (p.door ≡ false) × (is_met (stage past p) ≡ false)) ⊎ (held past p ≡ false)
Begins c past other = Unit {0}

choice : (c : Config) (past : List Act) (b : Bool) (one other : Call) → (b ≡ true → Begins c past one) → (b ≡ false → Begins c past other) → Begins c past (cond b one other)
choice c past true one other t f = t refl
choice c past false one other t f = f refl

due_begins : (c : Config) (past : List Act) (o : Option ℕ) (wanted : Call) → Begins c past wanted → Begins c past (when_due (now past) o wanted)
due_begins c past None wanted t = tt
due_begins c past (Some m) wanted t = choice c past (nat_le m (now past)) wanted (TryAt m) (λ _. t) (λ _. tt)

again_begins : (c : Config) (past : List Act) (p : Place) (wanted : Call) → Begins c past wanted → Begins c past (try_again c past p wanted)
again_begins c past p wanted t = choice c past (out_of_tries c past p) Nothing (when_due (now past) (next_due (options_of c p).tries.interval (failures past p)) wanted) (λ _. tt) (λ _. due_begins c past (next_due (options_of c p).tries.interval (failures past p)) wanted t)

opening_begins : (c : Config) (past : List Act) (p : Place) (st : Stage) → listens_at c p ≡ false → Begins c past (opening_call c past p st)
opening_begins c past p Untried l = l
opening_begins c past p Unsettled l = choice c past (woken past p) (Settle p) Nothing (λ _. l) (λ _. tt)
opening_begins c past p Failed l = again_begins c past p (Open p) l
opening_begins c past p st l = tt

listening_begins : (c : Config) (past : List Act) (d p : Place) (st : Stage) → d.door ≡ true → Begins c past (Accept d p) → Begins c past (listening_call c past d p st)
listening_begins c past d p Untried l free = l
listening_begins c past d p Failed l free = again_begins c past d (Listen d) l
listening_begins c past d p Waiting l free = choice c past (armed_to_accept past d) (Accept d p) Nothing (λ _. free) (λ _. tt)
listening_begins c past d p st l free = tt

peer_begins : (c : Config) (past : List Act) (p : Place) (st : Stage) → stage past p ≡ st → listens_at c p ≡ true → p.door ≡ false → Begins c past (peer_call c past p st)
peer_begins c past p (Met peer) e l n =
    choice c past (permits c p peer) (cond (held past (door_of p)) (Serve (door_of p)) Nothing) (Refuse p)
    (λ _. choice c past (held past (door_of p)) (Serve (door_of p)) Nothing (λ _. tt) (λ _. tt))
    (λ _. tt)
peer_begins c past p st e l n = listening_begins c past (door_of p) p (stage past (door_of p)) refl (inl (l, n, ap is_met e))

place_begins : (c : Config) (past : List Act) (p : Place) → p.door ≡ false → Begins c past (place_call c past p)
place_begins c past p n =
    choice c past (has_own_door c p) (peer_call c past p (stage past p)) (cond (listens_at c p) Nothing (opening_call c past p (stage past p)))
    (λ own. peer_begins c past p (stage past p) refl (and_parts (listens_at c p) (not (is_left p && has_fork c)) own).0 n)
    (λ _. choice c past (listens_at c p) Nothing (opening_call c past p (stage past p)) (λ _. tt) (λ l. opening_begins c past p (stage past p) l))

first_begins : (c : Config) (past : List Act) (ps : List Place) → NoDoors ps → Begins c past (first_call c past ps)
first_begins c past [] n = tt
first_begins c past (p ∷ ps) n = let h = first_begins c past ps n.1 in choice c past (is_ready c past p) (first_call c past ps) (place_call c past p) (λ _. h) (λ _. place_begins c past p n.0)

call_begins : (c : Config) (past : List Act) (s : ℕ) → Begins c past (call c past s)
call_begins c past s = choice c past (live c past s && is_none (cause c past s)) (first_call c past (places c s)) Nothing (λ _. first_begins c past (places c s) (no_doors c s)) (λ _. tt)

program_door_begins : (c : Config) (past : List Act) (st : Stage) → held past (next_place c past) ≡ false → Begins c past (program_door_call c past st)
program_door_begins c past Waiting free =
    choice c past (enough c past) (Serve program_door) (cond (full c past) Nothing (listening_call c past program_door (next_place c past) Waiting))
    (λ _. tt)
    (λ _. choice c past (full c past) Nothing (listening_call c past program_door (next_place c past) Waiting) (λ _. tt) (λ _. listening_begins c past program_door (next_place c past) Waiting refl (inr free)))
program_door_begins c past st free = listening_begins c past program_door (next_place c past) st refl (inr free)

door_begins : (c : Config) (past : List Act) → Begins c past (door_call c past)
door_begins c past =
    choice c past (not (has_fork c) || door_cut past) Nothing (cond (held past (next_place c past)) (Refuse (next_place c past)) (program_door_call c past (stage past program_door)))
    (λ _. tt)
    (λ _. choice c past (held past (next_place c past)) (Refuse (next_place c past)) (program_door_call c past (stage past program_door)) (λ _. tt) (λ free. program_door_begins c past (stage past program_door) free))

called_begins : (c : Config) (past : List Act) (p : Place) → Begins c past (called_at c past p)
called_begins c past p = choice c past (is_left p && has_fork c) (door_call c past) (call c past p.session) (λ _. door_begins c past) (λ _. call_begins c past p.session)

-- ---- at a place that listens only peers are held

kept_met : (same : Bool) (new old : Stage) → holds_at old ≡ is_met old → (same ≡ true → holds_at new ≡ is_met new) → holds_at (cond same new old) ≡ is_met (cond same new old)
kept_met true new old h g = g refl
kept_met false new old h g = h

-- what is opened there, is no listener's place
unopened : (c : Config) (past : List Act) (q p : Place) → (called_at c past q ≡ Open q) ⊎ (called_at c past q ≡ Settle q) → listens_at c p ≡ true → same_place q p ≡ true → ⊥
unopened c past q p (inl e) l same = false≢true (sym (subst (Begins c past) e (called_begins c past q)) ∙ ap (listens_at c) (same_place_equal q p same) ∙ l)
unopened c past q p (inr e) l same = false≢true (sym (subst (Begins c past) e (called_begins c past q)) ∙ ap (listens_at c) (same_place_equal q p same) ∙ l)

unlistened : (c : Config) (past : List Act) (q p : Place) → called_at c past q ≡ Listen q → p.door ≡ false → same_place q p ≡ true → ⊥
unlistened c past q p e n same = false≢true (sym n ∙ sym (ap (λ x. x.door) (same_place_equal q p same)) ∙ subst (Begins c past) e (called_begins c past q))

met_alone : (c : Config) (n : ℕ) (past : List Act) (p : Place) → Legal c n past → listens_at c p ≡ true → p.door ≡ false → holds_at (stage past p) ≡ is_met (stage past p)
met_alone c n [] p legal l d = refl
met_alone c n (Opened q ∷ past) p legal l d = kept_met (same_place q p) Usable (stage past p) (met_alone c n past p legal.1 l d) (λ same. absurd (unopened c past q p legal.0.1 l same))
met_alone c n (OpenLater q ∷ past) p legal l d = kept_met (same_place q p) Unsettled (stage past p) (met_alone c n past p legal.1 l d) (λ same. absurd (unopened c past q p legal.0.1 l same))
met_alone c n (OpenFailed q ∷ past) p legal l d = kept_met (same_place q p) Failed (stage past p) (met_alone c n past p legal.1 l d) (λ _. refl)
met_alone c n (Listening q ∷ past) p legal l d = kept_met (same_place q p) Waiting (stage past p) (met_alone c n past p legal.1 l d) (λ same. absurd (unlistened c past q p legal.0.1 d same))
met_alone c n (ListenFailed q ∷ past) p legal l d = kept_met (same_place q p) Failed (stage past p) (met_alone c n past p legal.1 l d) (λ _. refl)
met_alone c n (Accepted q peer ∷ past) p legal l d = kept_met (same_place q p) (Met peer) (stage past p) (met_alone c n past p legal.1 l d) (λ _. refl)
met_alone c n (Closed q why ∷ past) p legal l d = kept_met (same_place q p) (Gone why) (stage past p) (met_alone c n past p legal.1 l d) (λ _. refl)
met_alone c n (act ∷ past) p legal l d = met_alone c n past p legal.1 l d

-- ---- how a thing stands where a call begins something

free_settling : (st : Stage) → holds_at st ≡ false → is_settling st ≡ false
free_settling Unsettled e = absurd (false≢true (sym e))
free_settling Untried e = refl
free_settling Usable e = refl
free_settling Failed e = refl
free_settling (Met peer) e = refl
free_settling Waiting e = refl
free_settling (Gone why) e = refl

free_alike : (st : Stage) → holds_at st ≡ false → holds_at st ≡ is_settling st
free_alike st e = e ∙ sym (free_settling st e)

settling_alike : (st : Stage) → st ≡ Unsettled → holds_at st ≡ is_settling st
settling_alike st e = ap holds_at e ∙ sym (ap is_settling e)

abbrev Alike : List Act → Place → Type 0
Alike past p = holds_at (stage past p) ≡ is_settling (stage past p)

opened_alike : (c : Config) (past : List Act) (q p : Place) → (called_at c past q ≡ Open q) ⊎ (called_at c past q ≡ Settle q) → same_place q p ≡ true → Alike past p
opened_alike c past q p (inl e) same = subst (Alike past) (same_place_equal q p same) (free_alike (stage past q) (subst (Tells past) e (called_tells c past q)))
opened_alike c past q p (inr e) same = subst (Alike past) (same_place_equal q p same) (settling_alike (stage past q) (subst (Tells past) e (called_tells c past q)).0)

listened_free : (c : Config) (past : List Act) (q p : Place) → called_at c past q ≡ Listen q → same_place q p ≡ true → holds_at (stage past p) ≡ false
listened_free c past q p e same = subst (λ x. held past x ≡ false) (same_place_equal q p same) (subst (Tells past) e (called_tells c past q))

accepted_free : (c : Config) (n : ℕ) (past : List Act) (q p : Place) → Legal c n past → ((d : Place) × (called_at c past q ≡ Accept d q)) → same_place q p ≡ true → holds_at (stage past p) ≡ false
accepted_free c n past q p legal (d, e) same = subst (λ x. held past x ≡ false) (same_place_equal q p same) (go (subst (Begins c past) e (called_begins c past q)))
  where
    go : ((listens_at c q ≡ true) × (q.door ≡ false) × (is_met (stage past q) ≡ false)) ⊎ (held past q ≡ false) → held past q ≡ false
    go (inl own) = met_alone c n past q legal own.0 own.1 ∙ own.2
    go (inr free) = free

closed_held : (past : List Act) (q p : Place) → held past q ≡ true → same_place q p ≡ true → holds_at (stage past p) ≡ true
closed_held past q p h same = subst (λ x. held past x ≡ true) (same_place_equal q p same) h

-- ---- one act more

turned : (t : Bool) (e : ℕ) → one_more (not t) (one_more t e) ≡ suc e
turned true e = refl
turned false e = refl

begun : (same : Bool) (new old : Stage) (b e : ℕ) → b ≡ one_more (holds_at old) e → (same ≡ true → holds_at old ≡ is_settling old) → holds_at new ≡ true → one_more (same && not (is_settling old)) b ≡ one_more (holds_at (cond same new old)) e
begun true new old b e h alike holds =
    ap (one_more (not (is_settling old))) (h ∙ ap (λ t. one_more t e) (alike refl)) ∙ turned (is_settling old) e ∙ sym (ap (λ t. one_more t e) holds)
begun false new old b e h alike holds = h

failed : (same : Bool) (old : Stage) (b e : ℕ) → b ≡ one_more (holds_at old) e → (same ≡ true → holds_at old ≡ is_settling old) → b ≡ one_more (holds_at (cond same Failed old)) (one_more (same && is_settling old) e)
failed true old b e h alike = h ∙ ap (λ t. one_more t e) (alike refl)
failed false old b e h alike = h

unheard : (same : Bool) (old : Stage) (b e : ℕ) → b ≡ one_more (holds_at old) e → (same ≡ true → holds_at old ≡ false) → b ≡ one_more (holds_at (cond same Failed old)) e
unheard true old b e h free = h ∙ ap (λ t. one_more t e) (free refl)
unheard false old b e h free = h

closed : (same : Bool) (new old : Stage) (b e : ℕ) → b ≡ one_more (holds_at old) e → (same ≡ true → holds_at old ≡ true) → holds_at new ≡ false → b ≡ one_more (holds_at (cond same new old)) (one_more same e)
closed true new old b e h holds free = h ∙ ap (λ t. one_more t e) (holds refl) ∙ sym (ap (λ t. one_more t (suc e)) free)
closed false new old b e h holds free = h

pub ended_once : (c : Config) (n : ℕ) (past : List Act) (p : Place) → Legal c n past → beginnings past p ≡ one_more (held past p) (endings past p)
ended_once c n [] p legal = refl
ended_once c n (Opened q ∷ past) p legal = begun (same_place q p) Usable (stage past p) (beginnings past p) (endings past p) (ended_once c n past p legal.1) (opened_alike c past q p legal.0.1) refl
ended_once c n (OpenLater q ∷ past) p legal = begun (same_place q p) Unsettled (stage past p) (beginnings past p) (endings past p) (ended_once c n past p legal.1) (opened_alike c past q p legal.0.1) refl
ended_once c n (OpenFailed q ∷ past) p legal = failed (same_place q p) (stage past p) (beginnings past p) (endings past p) (ended_once c n past p legal.1) (opened_alike c past q p legal.0.1)
ended_once c n (Listening q ∷ past) p legal = begun (same_place q p) Waiting (stage past p) (beginnings past p) (endings past p) (ended_once c n past p legal.1) (λ same. free_alike (stage past p) (listened_free c past q p legal.0.1 same)) refl
ended_once c n (ListenFailed q ∷ past) p legal = unheard (same_place q p) (stage past p) (beginnings past p) (endings past p) (ended_once c n past p legal.1) (listened_free c past q p legal.0.1)
ended_once c n (Accepted q peer ∷ past) p legal = begun (same_place q p) (Met peer) (stage past p) (beginnings past p) (endings past p) (ended_once c n past p legal.1) (λ same. free_alike (stage past p) (accepted_free c n past q p legal.1 legal.0.1 same)) refl
ended_once c n (Closed q why ∷ past) p legal = closed (same_place q p) (Gone why) (stage past p) (beginnings past p) (endings past p) (ended_once c n past p legal.1) (closed_held past q p legal.0.is_held) refl
ended_once c n (act ∷ past) p legal = ended_once c n past p legal.1
