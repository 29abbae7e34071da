-- A door that has served is listened at no more, and stays as one that has served.
use Rattle.std.proofs.Common.{◌≡◌, refl, sym, ap, subst, ◌∙◌, ℕ, Bool, true, false, not, cond, ◌&&◌, ◌||◌, nat_le, is_none, List, [], ◌∷◌, ◌++◌, map, Option, Some, None, inl, inr, ◌⊎◌}
use Rattle.std.proofs.lemmas.Bool.{false_from_ne_true, false≢true}
use Rattle.relay_model.specs.declared.places.Side.{Side}
use Rattle.relay_model.specs.declared.places.Side.TheVariants.{Left, Right}
use Rattle.relay_model.specs.declared.places.Part.{Part}
use Rattle.relay_model.specs.declared.places.Place.{Place}
use Rattle.relay_model.specs.declared.commands.Config.{Config}
use Rattle.relay_model.specs.declared.acts.Why.TheVariants as whys
use Rattle.relay_model.specs.declared.acts.Act.{Act}
use Rattle.relay_model.specs.declared.acts.Act.TheVariants.{Opened, OpenLater, OpenFailed, Listening, ListenFailed, Accepted, Closed}
use Rattle.relay_model.specs.Places.{same_place, door_of}
use Rattle.relay_model.specs.Configs.{places, parts, place_at, options_of, listens_at, has_own_door, has_fork, is_left, program_door}
use Rattle.relay_model.specs.History.{now, stage, held, holds_at, is_gone_with, served, woken, failures}
use Rattle.relay_model.specs.declared.stages.Stage.{Stage}
use Rattle.relay_model.specs.declared.stages.Stage.TheVariants.{Untried, Usable, Unsettled, Failed, Met, Waiting, Gone}
use Rattle.relay_model.specs.Arming.{armed_to_accept}
use Rattle.relay_model.specs.Sessions.{permits, live, next_place}
use Rattle.relay_model.specs.Tries.{next_due}
use Rattle.relay_model.specs.Openings.{out_of_tries, when_due, try_again, is_ready, opening_call, listening_call, peer_call, place_call, first_call}
use Rattle.relay_model.specs.declared.calls.Call.{Call}
use Rattle.relay_model.specs.declared.calls.Call.TheVariants.{Nothing, TryAt, Open, Settle, Listen, Accept, Refuse, Serve}
use Rattle.relay_model.specs.Cause.{cause}
use Rattle.relay_model.specs.Calls.{call, door_cut, enough, full, program_door_call, door_call, called_at}
use Rattle.relay_model.specs.May.{Legal}
use Rattle.relay_model.specs.Laws.{is_listening}
use Rattle.relay_laws.proofs.PlaceLemmas.{same_place_equal}

abbrev pub is_gone : Stage → Bool
is_gone (Gone why) = true
is_gone st = false

served_gone : (st : Stage) → is_gone_with whys.Served st ≡ true → is_gone st ≡ true
served_gone (Gone why) e = refl
served_gone st e = absurd (false≢true e)

-- what is opened or listened at wasn't closed, and a peer is accepted at a place that is no door
abbrev pub Unserved : List Act → Call → Type 0
Unserved past (Open p) = is_gone (stage past p) ≡ false
Unserved past (Settle p) = is_gone (stage past p) ≡ false
Unserved past (Listen d) = is_gone (stage past d) ≡ false
Unserved past (Accept d p) = p.door ≡ false
Unserved past other = Unit {0}

choice : (past : List Act) (b : Bool) (one other : Call) → (b ≡ true → Unserved past one) → (b ≡ false → Unserved past other) → Unserved past (cond b one other)
choice past true one other t f = t refl
choice past false one other t f = f refl

due_unserved : (past : List Act) (o : Option ℕ) (wanted : Call) → Unserved past wanted → Unserved past (when_due (now past) o wanted)
due_unserved past None wanted t = tt
due_unserved past (Some m) wanted t = choice past (nat_le m (now past)) wanted (TryAt m) (λ _. t) (λ _. tt)

again_unserved : (c : Config) (past : List Act) (p : Place) (wanted : Call) → Unserved past wanted → Unserved past (try_again c past p wanted)
again_unserved c past p wanted t = choice past (out_of_tries c past p) Nothing (when_due (now past) (next_due (options_of c p).tries.interval (failures past p)) wanted) (λ _. tt) (λ _. due_unserved past (next_due (options_of c p).tries.interval (failures past p)) wanted t)

opening_unserved : (c : Config) (past : List Act) (p : Place) (st : Stage) → stage past p ≡ st → Unserved past (opening_call c past p st)
opening_unserved c past p Untried e = ap is_gone e
opening_unserved c past p Unsettled e = choice past (woken past p) (Settle p) Nothing (λ _. ap is_gone e) (λ _. tt)
opening_unserved c past p Failed e = again_unserved c past p (Open p) (ap is_gone e)
opening_unserved c past p st e = tt

listening_unserved : (c : Config) (past : List Act) (d p : Place) (st : Stage) → p.door ≡ false → stage past d ≡ st → Unserved past (listening_call c past d p st)
listening_unserved c past d p Untried n e = ap is_gone e
listening_unserved c past d p Failed n e = again_unserved c past d (Listen d) (ap is_gone e)
listening_unserved c past d p Waiting n e = choice past (armed_to_accept past d) (Accept d p) Nothing (λ _. n) (λ _. tt)
listening_unserved c past d p st n e = tt

peer_unserved : (c : Config) (past : List Act) (p : Place) (st : Stage) → p.door ≡ false → Unserved past (peer_call c past p st)
peer_unserved c past p (Met peer) n =
    choice past (permits c p peer) (cond (held past (door_of p)) (Serve (door_of p)) Nothing) (Refuse p)
    (λ _. choice past (held past (door_of p)) (Serve (door_of p)) Nothing (λ _. tt) (λ _. tt))
    (λ _. tt)
peer_unserved c past p st n = listening_unserved c past (door_of p) p (stage past (door_of p)) n refl

place_unserved : (c : Config) (past : List Act) (p : Place) → p.door ≡ false → Unserved past (place_call c past p)
place_unserved c past p n =
    choice past (has_own_door c p) (peer_call c past p (stage past p)) (cond (listens_at c p) Nothing (opening_call c past p (stage past p)))
    (λ _. peer_unserved c past p (stage past p) n)
    (λ _. choice past (listens_at c p) Nothing (opening_call c past p (stage past p)) (λ _. tt) (λ _. opening_unserved c past p (stage past p) refl))

-- these are places, and none is a door
abbrev pub NoDoors : List Place → Type 0
NoDoors [] = Unit {0}
NoDoors (p ∷ ps) = (p.door ≡ false) × NoDoors ps

no_doors_append : (ps qs : List Place) → NoDoors ps → NoDoors qs → NoDoors (ps ++ qs)
no_doors_append [] qs h k = k
no_doors_append (p ∷ ps) qs h k = (h.0, no_doors_append ps qs h.1 k)

no_doors_mapped : (s : ℕ) (side : Side) (ps : List Part) → NoDoors (map (place_at s side) ps)
no_doors_mapped s side [] = tt
no_doors_mapped s side (part ∷ ps) = (refl, no_doors_mapped s side ps)

pub no_doors : (c : Config) (s : ℕ) → NoDoors (places c s)
no_doors c s = no_doors_append (map (place_at s Left) (parts c Left)) (map (place_at s Right) (parts c Right)) (no_doors_mapped s Left (parts c Left)) (no_doors_mapped s Right (parts c Right))

first_unserved : (c : Config) (past : List Act) (ps : List Place) → NoDoors ps → Unserved past (first_call c past ps)
first_unserved c past [] n = tt
first_unserved c past (p ∷ ps) n = let h = first_unserved c past ps n.1 in choice past (is_ready c past p) (first_call c past ps) (place_call c past p) (λ _. h) (λ _. place_unserved c past p n.0)

call_unserved : (c : Config) (past : List Act) (s : ℕ) → Unserved past (call c past s)
call_unserved c past s = choice past (live c past s && is_none (cause c past s)) (first_call c past (places c s)) Nothing (λ _. first_unserved c past (places c s) (no_doors c s)) (λ _. tt)

program_door_unserved : (c : Config) (past : List Act) (st : Stage) → stage past program_door ≡ st → Unserved past (program_door_call c past st)
program_door_unserved c past Waiting e =
    choice past (enough c past) (Serve program_door) (cond (full c past) Nothing (listening_call c past program_door (next_place c past) Waiting))
    (λ _. tt)
    (λ _. choice past (full c past) Nothing (listening_call c past program_door (next_place c past) Waiting) (λ _. tt) (λ _. listening_unserved c past program_door (next_place c past) Waiting refl e))
program_door_unserved c past st e = listening_unserved c past program_door (next_place c past) st refl e

door_unserved : (c : Config) (past : List Act) → Unserved past (door_call c past)
door_unserved c past =
    choice past (not (has_fork c) || door_cut past) Nothing (cond (held past (next_place c past)) (Refuse (next_place c past)) (program_door_call c past (stage past program_door)))
    (λ _. tt)
    (λ _. choice past (held past (next_place c past)) (Refuse (next_place c past)) (program_door_call c past (stage past program_door)) (λ _. tt) (λ _. program_door_unserved c past (stage past program_door) refl))

pub called_unserved : (c : Config) (past : List Act) (p : Place) → Unserved past (called_at c past p)
called_unserved c past p = choice past (is_left p && has_fork c) (door_call c past) (call c past p.session) (λ _. door_unserved c past) (λ _. call_unserved c past p.session)

-- where a listening is called for, the door wasn't closed
pub refused : (c : Config) (past : List Act) (q d : Place) → called_at c past q ≡ Listen q → is_gone (stage past d) ≡ true → same_place q d ≡ true → ⊥
refused c past q d e s same = false≢true (sym (subst (Unserved past) e (called_unserved c past q)) ∙ ap (λ x. is_gone (stage past x)) (same_place_equal q d same) ∙ s)

pub stays_closed : (c : Config) (n : ℕ) (act : Act) (past : List Act) (d : Place) → Legal c n (act ∷ past) → served past d ≡ true → is_listening act d ≡ false
stays_closed c n (Listening q) past d legal s = false_from_ne_true (same_place q d) (refused c past q d legal.0.1 (served_gone (stage past d) s))
stays_closed c n (ListenFailed q) past d legal s = false_from_ne_true (same_place q d) (refused c past q d legal.0.1 (served_gone (stage past d) s))
stays_closed c n act past d legal s = refl

-- ---- it stays as one that has served

-- where an opening or a settling is called for, the place wasn't closed
pub not_opened : (c : Config) (past : List Act) (q d : Place) → (called_at c past q ≡ Open q) ⊎ (called_at c past q ≡ Settle q) → is_gone (stage past d) ≡ true → same_place q d ≡ true → ⊥
not_opened c past q d (inl e) s same = false≢true (sym (subst (Unserved past) e (called_unserved c past q)) ∙ ap (λ x. is_gone (stage past x)) (same_place_equal q d same) ∙ s)
not_opened c past q d (inr e) s same = false≢true (sym (subst (Unserved past) e (called_unserved c past q)) ∙ ap (λ x. is_gone (stage past x)) (same_place_equal q d same) ∙ s)

not_accepted : (c : Config) (past : List Act) (q d : Place) → ((a : Place) × (called_at c past q ≡ Accept a q)) → d.door ≡ true → same_place q d ≡ true → ⊥
not_accepted c past q d (a, e) door same = false≢true (sym (subst (Unserved past) e (called_unserved c past q)) ∙ ap (λ x. x.door) (same_place_equal q d same) ∙ door)

pub gone_free : (st : Stage) → is_gone st ≡ true → holds_at st ≡ false
gone_free (Gone why) e = refl
gone_free st e = absurd (false≢true e)

not_closed : (past : List Act) (q d : Place) → held past q ≡ true → is_gone (stage past d) ≡ true → same_place q d ≡ true → ⊥
not_closed past q d h s same = false≢true (sym (gone_free (stage past d) s) ∙ sym (ap (held past) (same_place_equal q d same)) ∙ h)

kept : (b : Bool) (st old : Stage) → (b ≡ true → ⊥) → is_gone_with whys.Served old ≡ true → is_gone_with whys.Served (cond b st old) ≡ true
kept true st old none s = absurd (none refl)
kept false st old none s = s

pub stays_served : (c : Config) (n : ℕ) (act : Act) (past : List Act) (d : Place) → Legal c n (act ∷ past) → d.door ≡ true → served past d ≡ true → served (act ∷ past) d ≡ true
stays_served c n (Opened q) past d legal door s = kept (same_place q d) Usable (stage past d) (not_opened c past q d legal.0.1 (served_gone (stage past d) s)) s
stays_served c n (OpenLater q) past d legal door s = kept (same_place q d) Unsettled (stage past d) (not_opened c past q d legal.0.1 (served_gone (stage past d) s)) s
stays_served c n (OpenFailed q) past d legal door s = kept (same_place q d) Failed (stage past d) (not_opened c past q d legal.0.1 (served_gone (stage past d) s)) s
stays_served c n (Listening q) past d legal door s = kept (same_place q d) Waiting (stage past d) (refused c past q d legal.0.1 (served_gone (stage past d) s)) s
stays_served c n (ListenFailed q) past d legal door s = kept (same_place q d) Failed (stage past d) (refused c past q d legal.0.1 (served_gone (stage past d) s)) s
stays_served c n (Accepted q peer) past d legal door s = kept (same_place q d) (Met peer) (stage past d) (not_accepted c past q d legal.0.1 door) s
stays_served c n (Closed q why) past d legal door s = kept (same_place q d) (Gone why) (stage past d) (not_closed past q d legal.0.is_held (served_gone (stage past d) s)) s
stays_served c n act past d legal door s = s
