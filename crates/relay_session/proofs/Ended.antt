-- How a command of one session ended, once nothing is held.
use Rattle.std.proofs.Common.{◌≡◌, refl, sym, ap, subst, ◌∙◌, ℕ, Bool, true, false, not, cond, ◌&&◌, ◌||◌, List, [], ◌∷◌, ◌++◌, length, unwrap_or, Option, Some, None, is_some, is_none, inl, inr, ◌⊎◌}
use Rattle.std.specs.List.{list_any}
use Rattle.std.proofs.lemmas.Bool.{false≢true, true≢false, and_parts, or_parts}
use Rattle.relay_model.specs.declared.places.Place.{Place}
use Rattle.relay_model.specs.declared.places.Way.{Way}
use Rattle.relay_model.specs.declared.commands.Config.{Config}
use Rattle.relay_model.specs.declared.acts.Act.{Act}
use Rattle.relay_model.specs.declared.acts.Act.TheVariants.{Turn, OpenFailed, ListenFailed, AcceptFailed, ReadFault, WriteFault, Closed}
use Rattle.relay_model.specs.declared.acts.Why.{Why}
use Rattle.relay_model.specs.declared.acts.Why.TheVariants as whys
use Rattle.relay_model.specs.Choices.{only_if, or_else, first_some}
use Rattle.relay_model.specs.Configs.{places, own_doors, has_fork, is_of, way_from, way_to}
use Rattle.relay_model.specs.History.{now, turns, same_why, held, memory_said, stop_said, failures}
use Rattle.relay_model.specs.Moments.{closing_moment, idle_moment, reached}
use Rattle.relay_model.specs.Sessions.{live, holds}
use Rattle.relay_model.specs.Openings.{out_of_tries, ready}
use Rattle.relay_model.specs.declared.calls.Call.TheVariants.{Nothing, Open, Settle, Listen, Accept}
use Rattle.relay_model.specs.Cause.{cause, closed_why, is_end, accept_failed_for, listening_failed, opening_failed, fault_stands, faulted, finished}
use Rattle.relay_model.specs.Calls.{called_at}
use Rattle.relay_model.specs.declared.outcomes.RunOutcome.TheVariants as outcomes
use Rattle.relay_model.specs.Outcome.{outcome, outcome_by, holds_something, first_fault, failed_listening, failed_opening}
use Rattle.relay_model.specs.declared.outcomes.RunOutcome.{RunOutcome}
use Rattle.relay_model.specs.Rest.{is_going, Rest}
use Rattle.relay_model.specs.May.{Legal, MayOpen, MayAccept, Licensed, by_cause, by_refusal, by_service, by_door, by_memory, by_turns}
use Rattle.relay_laws.proofs.Holdings.{moves_running}
use Rattle.relay_session.specs.Told.{told}
use Rattle.relay_session.proofs.Own.{NamesOwn}
use Rattle.relay_session.proofs.Causes.{own_session, no_program_door}
use Rattle.relay_session.proofs.Held.{lives_alone, called_own, nothing_called, held_own, holds_held, holds_not, nothing_left}
use Rattle.relay_session.proofs.Waiting.{going_of, none_failed, outcome_from, outcome_alone}
use Rattle.relay_session.proofs.Events.{event_of, event_cause, event_part, cause_event, closed_event, EventStands, event_stands}

-- ---- the first that is out of tries

-- a door or place that is out of tries, and those before it, which aren't
pub record FirstOut (c : Config) (past : List Act) (ps : List Place) : Type 0 where
  pub before : List Place
  pub at : Place
  pub after : List Place
  pub among : ps ≡ before ++ at ∷ after
  pub earlier : list_any (out_of_tries c past) before ≡ false
  pub out : out_of_tries c past at ≡ true

pub first_out : (c : Config) (past : List Act) (ps : List Place) → list_any (out_of_tries c past) ps ≡ true → FirstOut c past ps
first_out c past [] e = absurd (false≢true e)
first_out c past (p ∷ ps) e = go (out_of_tries c past p) refl e (first_out c past ps)
  where
    go : (b : Bool) → out_of_tries c past p ≡ b → (b || list_any (out_of_tries c past) ps) ≡ true → (list_any (out_of_tries c past) ps ≡ true → FirstOut c past ps) → FirstOut c past (p ∷ ps)
    go true f h ih = record { before = []; at = p; after = ps; among = refl; earlier = refl; out = f }
    go false f h ih =
        let r = ih h in
        record { before = p ∷ r.before; at = r.at; after = r.after; among = ap (λ l. p ∷ l) r.among; earlier = rw (f, r.earlier) refl; out = r.out }

listening_at : (c : Config) (past : List Act) (before after : List Place) (d : Place) → list_any (out_of_tries c past) before ≡ false → out_of_tries c past d ≡ true → failed_listening c past (before ++ d ∷ after) ≡ Some (outcomes.ListenFailed (length (failures past d)))
listening_at c past [] after d e f = rw f refl
listening_at c past (p ∷ before) after d e f = let h = or_parts (out_of_tries c past p) (list_any (out_of_tries c past) before) e in rw h.0 (listening_at c past before after d h.1 f)

opening_at : (c : Config) (past : List Act) (before after : List Place) (p : Place) → list_any (out_of_tries c past) before ≡ false → out_of_tries c past p ≡ true → failed_opening c past (before ++ p ∷ after) ≡ Some (outcomes.OpenFailed p.side (length (failures past p)))
opening_at c past [] after p e f = rw f refl
opening_at c past (q ∷ before) after p e f = let h = or_parts (out_of_tries c past q) (list_any (out_of_tries c past) before) e in rw h.0 (opening_at c past before after p h.1 f)

-- the listening that failed is that of the first door that is out of tries
pub failed_door : (c : Config) (past : List Act) (ds : List Place) (f : FirstOut c past ds) → failed_listening c past ds ≡ Some (outcomes.ListenFailed (length (failures past f.at)))
failed_door c past ds f = ap (failed_listening c past) f.among ∙ listening_at c past f.before f.after f.at f.earlier f.out

-- and the opening that failed that of the first place
pub failed_place : (c : Config) (past : List Act) (ps : List Place) (f : FirstOut c past ps) → failed_opening c past ps ≡ Some (outcomes.OpenFailed f.at.side (length (failures past f.at)))
failed_place c past ps f = ap (failed_opening c past) f.among ∙ opening_at c past f.before f.after f.at f.earlier f.out

-- ---- the outcome, where the events agree with the cause

at_memory : (m s a : Bool) (t : ℕ) (l o : Option RunOutcome) → m ≡ true → outcome_from false m s t a l o ≡ Some outcomes.Memory
at_memory true s a t l o e = refl
at_memory false s a t l o e = absurd (false≢true e)

at_stop : (m s a : Bool) (t : ℕ) (l o : Option RunOutcome) → m ≡ false → s ≡ true → outcome_from false m s t a l o ≡ Some (outcomes.Stopped t)
at_stop true s a t l o e f = absurd (true≢false e)
at_stop false true a t l o e f = refl
at_stop false false a t l o e f = absurd (false≢true f)

at_accept : (m s a : Bool) (t : ℕ) (l o : Option RunOutcome) → m ≡ false → s ≡ false → a ≡ true → outcome_from false m s t a l o ≡ Some outcomes.AcceptFailed
at_accept m s a t l o e f g = rw (e, f, g) refl

at_listening : (m s a : Bool) (t : ℕ) (l o : Option RunOutcome) (x : RunOutcome) → m ≡ false → s ≡ false → a ≡ false → is_some l ≡ true → outcome_from false m s t a l o ≡ Some (unwrap_or l x)
at_listening m s a t (Some l) o x e f g h = rw (e, f, g) refl
at_listening m s a t None o x e f g h = absurd (false≢true h)

at_last : (m s a : Bool) (t : ℕ) (l o : Option RunOutcome) (x : RunOutcome) → m ≡ false → s ≡ false → a ≡ false → l ≡ None → o ≡ Some x → outcome_from false m s t a l o ≡ Some x
at_last m s a t l o x e f g h k = rw (e, f, g, h, k) refl

unwrapped : {T : Type 0} (o : Option T) (x : T) → or_else o (Some x) ≡ Some (unwrap_or o x)
unwrapped None x = refl
unwrapped (Some y) x = refl

some_there : {T : Type 0} (o : Option T) (x : T) → is_some o ≡ true → o ≡ Some (unwrap_or o x)
some_there None x e = absurd (false≢true e)
some_there (Some y) x e = refl

listening_there : (c : Config) (past : List Act) → listening_failed c past 0 ≡ true → is_some (failed_listening c past (own_doors c 0)) ≡ true
listening_there c past e = ap is_some (failed_door c past (own_doors c 0) (first_out c past (own_doors c 0) e))

opening_there : (c : Config) (past : List Act) → opening_failed c past 0 ≡ true → is_some (failed_opening c past (places c 0)) ≡ true
opening_there c past e = ap is_some (failed_place c past (places c 0) (first_out c past (places c 0) e))

abbrev Tells : Config → List Act → Why → Type 0
Tells c past why = outcome_from false (memory_said past) (stop_said past) (turns past) (accept_failed_for c past 0) (failed_listening c past (own_doors c 0)) (outcome_by c past (Some why)) ≡ Some (told c past why)

-- what remains where no event has come
late : (c : Config) (past : List Act) (why : Why) → (memory_said past ≡ false) × (stop_said past ≡ false) × (accept_failed_for c past 0 ≡ false) × (listening_failed c past 0 ≡ false) × (opening_failed c past 0 ≡ false) → outcome_by c past (Some why) ≡ Some (told c past why) → Tells c past why
late c past why s e = at_last (memory_said past) (stop_said past) (accept_failed_for c past 0) (turns past) (failed_listening c past (own_doors c 0)) (outcome_by c past (Some why)) (told c past why) s.0 s.1 s.2 (none_failed c past (own_doors c 0) s.3) e

fault_late : (c : Config) (past : List Act) (sloppy : Bool) → c.sloppy ≡ sloppy → EventStands c past whys.Faulted → (memory_said past ≡ false) × (stop_said past ≡ false) × (accept_failed_for c past 0 ≡ false) × (listening_failed c past 0 ≡ false) × (opening_failed c past 0 ≡ false)
fault_late c past true e s = rw e at s
fault_late c past false e s = rw e at s

tells : (c : Config) (past : List Act) (why : Why) → EventStands c past why → Tells c past why
tells c past whys.Memory s = at_memory (memory_said past) (stop_said past) (accept_failed_for c past 0) (turns past) (failed_listening c past (own_doors c 0)) (outcome_by c past (Some whys.Memory)) s
tells c past whys.Stopped s = at_stop (memory_said past) (stop_said past) (accept_failed_for c past 0) (turns past) (failed_listening c past (own_doors c 0)) (outcome_by c past (Some whys.Stopped)) s.0 s.1
tells c past whys.AcceptFailed s = at_accept (memory_said past) (stop_said past) (accept_failed_for c past 0) (turns past) (failed_listening c past (own_doors c 0)) (outcome_by c past (Some whys.AcceptFailed)) s.0 s.1 s.2
tells c past whys.ListenFailed s = at_listening (memory_said past) (stop_said past) (accept_failed_for c past 0) (turns past) (failed_listening c past (own_doors c 0)) (outcome_by c past (Some whys.ListenFailed)) (outcomes.Ended whys.ListenFailed) s.0 s.1 s.2 (listening_there c past s.3)
tells c past whys.OpenFailed s =
    at_last (memory_said past) (stop_said past) (accept_failed_for c past 0) (turns past) (failed_listening c past (own_doors c 0)) (outcome_by c past (Some whys.OpenFailed)) (told c past whys.OpenFailed) s.0 s.1 s.2 (none_failed c past (own_doors c 0) s.3)
    (some_there (failed_opening c past (places c 0)) (outcomes.Ended whys.OpenFailed) (opening_there c past s.4))
tells c past whys.Faulted s = late c past whys.Faulted (fault_late c past c.sloppy refl s) (unwrapped (first_fault c past 0) (outcomes.Ended whys.Faulted))
tells c past whys.ClosingTime s = late c past whys.ClosingTime s (unwrapped (first_fault c past 0) (outcomes.Ended whys.ClosingTime))
tells c past whys.Idle s = late c past whys.Idle s (unwrapped (first_fault c past 0) (outcomes.Ended whys.Idle))
tells c past whys.Finished s = late c past whys.Finished s refl
tells c past whys.Refused s = late c past whys.Refused s refl
tells c past whys.Served s = late c past whys.Served s refl

outcome_of : (c : Config) (past : List Act) (why : Why) → has_fork c ≡ false → holds_something c past ≡ false → event_cause c past ≡ event_part c.sloppy why → cause c past 0 ≡ Some why → outcome c past ≡ Some (told c past why)
outcome_of c past why alone free agrees e =
    outcome_alone c past alone
    ∙ (λ i. outcome_from (free i) (memory_said past) (stop_said past) (turns past) (accept_failed_for c past 0) (failed_listening c past (own_doors c 0)) (outcome_by c past (e i)))
    ∙ tells c past why (event_stands c past why agrees)

-- ---- after a closing

first_taken : (k : Option Why) (others : List (Option Why)) (why : Why) → k ≡ Some why → first_some (k ∷ others) ≡ Some why
first_taken (Some one) others why e = e
first_taken None others why e = cc

-- an earlier closing is the cause
pub cause_of_closed : (c : Config) (past : List Act) (why : Why) → closed_why c past 0 ≡ Some why → cause c past 0 ≡ Some why
cause_of_closed c past why e =
    first_taken (closed_why c past 0)
    (only_if (memory_said past) whys.Memory
    ∷ only_if (stop_said past) whys.Stopped
    ∷ only_if (accept_failed_for c past 0) whys.AcceptFailed
    ∷ only_if (listening_failed c past 0) whys.ListenFailed
    ∷ only_if (opening_failed c past 0) whys.OpenFailed
    ∷ only_if (faulted c past 0) whys.Faulted
    ∷ only_if (finished c past 0) whys.Finished
    ∷ only_if (ready c past 0 && reached (closing_moment c past 0) (now past)) whys.ClosingTime
    ∷ only_if (ready c past 0 && reached (idle_moment c past 0) (now past)) whys.Idle
    ∷ [])
    why e

-- where something was closed for an end, no wait is in order
rest_over : (c : Config) (n : ℕ) (past : List Act) (why : Why) → has_fork c ≡ false → Legal c n past → Rest c past → event_cause c past ≡ event_part c.sloppy why → cause c past 0 ≡ Some why → ⊥
rest_over c n past why alone legal rest agrees e =
    let free = nothing_left c n past alone legal ((rest.sessions 0).ended (ap is_some e)) in
    false≢true (ap is_some (sym rest.no_outcome ∙ outcome_of c past why alone free agrees e))

-- where something is held, a wait is in order only while nothing has ended the session
rest_going : (o : Option Why) (h : Bool) → (is_some o ≡ true → h ≡ false) → h ≡ true → o ≡ None
rest_going None h f e = refl
rest_going (Some why) h f e = absurd (true≢false (sym e ∙ f refl))

-- once the session has a cause, it doesn't run
none_there : (o : Option Why) → is_some o ≡ true → is_none o ≡ true → ⊥
none_there None e f = false≢true e
none_there (Some why) e f = false≢true f

never_moves : (c : Config) (past : List Act) (s : ℕ) (w : Way) → has_fork c ≡ false → is_some (cause c past 0) ≡ true → is_going c past s w ≡ true → ⊥
never_moves c past s w alone e m =
    let r = and_parts (live c past s && ready c past s) (is_none (cause c past s)) (moves_running c past s w m) in
    let z = lives_alone c past s alone (and_parts (live c past s) (ready c past s) r.0).0 in
    none_there (cause c past 0) e (subst (λ x. is_none (cause c past x) ≡ true) z r.1)

never_opens : (c : Config) (past : List Act) (p : Place) → has_fork c ≡ false → is_some (cause c past 0) ≡ true → MayOpen c past p → ⊥
never_opens c past p alone e (inl f) = let k : Nothing ≡ Open p = sym (nothing_called c past p alone e) ∙ f in cc
never_opens c past p alone e (inr f) = let k : Nothing ≡ Settle p = sym (nothing_called c past p alone e) ∙ f in cc

never_listens : (c : Config) (past : List Act) (d : Place) → has_fork c ≡ false → is_some (cause c past 0) ≡ true → called_at c past d ≡ Listen d → ⊥
never_listens c past d alone e f = let k : Nothing ≡ Listen d = sym (nothing_called c past d alone e) ∙ f in cc

never_accepts : (c : Config) (past : List Act) (d : Place) → has_fork c ≡ false → is_some (cause c past 0) ≡ true → MayAccept c past d → ⊥
never_accepts c past d alone e (p, f) = let k : Nothing ≡ Accept d p = sym (nothing_called c past d alone e) ∙ f in cc

-- ---- all closings for an end agree with the events

abbrev Agrees : Config → List Act → Why → Type 0
Agrees c past why = event_cause c past ≡ event_part c.sloppy why

refused_ends : (q : Place) → is_end q whys.Refused ≡ true → ⊥
refused_ends q e = false≢true e

served_ends : (d : Bool) → d ≡ true → (true && not (d && true)) ≡ true → ⊥
served_ends true e f = false≢true f
served_ends false e f = false≢true e

by_stop : (sloppy m t a l o f : Bool) → m ≡ false → event_of (false || m) (true || t) a l o f ≡ event_part sloppy whys.Stopped
by_stop sloppy true t a l o f e = absurd (true≢false e)
by_stop sloppy false t a l o f e = refl

closing : (c : Config) (n : ℕ) (past : List Act) (q : Place) (why : Why) → has_fork c ≡ false → Legal c n past → held past q ≡ true → is_end q why ≡ true → (closed_why c past 0 ≡ Some why → Agrees c past why) → Licensed c n past q why → Agrees c (Closed q why ∷ past) why
closing c n past q why alone legal holding ends ih (by_cause other e) =
    let own = own_session c 0 q (held_own c n past q alone legal holding) in
    closed_event c.sloppy (memory_said past) (stop_said past) (accept_failed_for c past 0) (listening_failed c past 0) (opening_failed c past 0) (not c.sloppy && fault_stands c past 0) why
    (cause_event c past why ih (subst (λ s. cause c past s ≡ Some why) own e))
closing c n past q why alone legal holding ends ih (by_refusal r e) = absurd (refused_ends q (subst (λ w. is_end q w ≡ true) r ends))
closing c n past q why alone legal holding ends ih (by_service r e) =
    let own = subst (NamesOwn c 0) e (called_own c past q alone) in
    absurd (served_ends q.door own.door (subst (λ w. is_end q w ≡ true) r ends))
closing c n past q why alone legal holding ends ih (by_door r e) = absurd (true≢false (sym r ∙ no_program_door c q alone))
closing c n past q why alone legal holding ends ih (by_memory r e) = subst (λ w. Agrees c (Closed q w ∷ past) w) (sym r) refl
closing c n past q why alone legal holding ends ih (by_turns r e rest) =
    let none = rest_going (cause c past 0) (holds c past 0) (rest.sessions 0).ended (holds_held c n past q alone legal holding) in
    subst (λ w. Agrees c (Closed q w ∷ past) w) (sym r)
    (by_stop c.sloppy (memory_said past) (stop_said past) (accept_failed_for c past 0) (listening_failed c past 0) (opening_failed c past 0) (not c.sloppy && fault_stands c past 0) (going_of c past 0 none).remembered)

plain_end : (d : Bool) → not (d && false) ≡ true
plain_end true = refl
plain_end false = refl

-- a closing that ends nothing is for neither of these
unended : (q : Place) (why : Why) → is_end q why ≡ false → (same_why why whys.Memory ≡ false) × (same_why why whys.Stopped ≡ false)
unended q whys.Memory e = absurd (true≢false (sym (plain_end q.door) ∙ e))
unended q whys.Stopped e = absurd (true≢false (sym (plain_end q.door) ∙ e))
unended q whys.Finished e = (refl, refl)
unended q whys.ClosingTime e = (refl, refl)
unended q whys.Idle e = (refl, refl)
unended q whys.Faulted e = (refl, refl)
unended q whys.OpenFailed e = (refl, refl)
unended q whys.ListenFailed e = (refl, refl)
unended q whys.AcceptFailed e = (refl, refl)
unended q whys.Refused e = (refl, refl)
unended q whys.Served e = (refl, refl)

pub which : (own ends : Bool) (one why : Why) (before : Option Why) → own ≡ true → cond (own && ends) (Some one) before ≡ Some why → ((ends ≡ true) × (one ≡ why)) ⊎ ((ends ≡ false) × (before ≡ Some why))
which true true one why before o e = inl (refl, cc)
which true false one why before o e = inr (refl, e)
which false ends one why before o e = absurd (false≢true o)

closed_agrees : (c : Config) (n : ℕ) (past : List Act) (q : Place) (one why : Why) → has_fork c ≡ false → Legal c n past → held past q ≡ true → Licensed c n past q one → ((w : Why) → closed_why c past 0 ≡ Some w → Agrees c past w) →
    ((is_end q one ≡ true) × (one ≡ why)) ⊎ ((is_end q one ≡ false) × (closed_why c past 0 ≡ Some why)) → Agrees c (Closed q one ∷ past) why
closed_agrees c n past q one why alone legal holding licence ih (inl k) = subst (Agrees c (Closed q one ∷ past)) k.1 (closing c n past q one alone legal holding k.0 (ih one) licence)
closed_agrees c n past q one why alone legal holding licence ih (inr k) =
    let u = unended q one k.0 in
    (λ i. event_of (u.0 i || memory_said past) (u.1 i || stop_said past) (accept_failed_for c past 0) (listening_failed c past 0) (opening_failed c past 0) (not c.sloppy && fault_stands c past 0))
    ∙ ih why k.1

-- what a closing ended is what the events of the history give
pub agrees : (c : Config) (n : ℕ) (past : List Act) (why : Why) → has_fork c ≡ false → Legal c n past → closed_why c past 0 ≡ Some why → event_cause c past ≡ event_part c.sloppy why
agrees c n [] why alone legal e = cc
agrees c n (Turn until at ready stop ∷ past) why alone legal e = absurd (rest_over c n past why alone legal.1 legal.0.1.rests (agrees c n past why alone legal.1 e) (cause_of_closed c past why e))
agrees c n (OpenFailed p ∷ past) why alone legal e = absurd (never_opens c past p alone (ap is_some (cause_of_closed c past why e)) legal.0.1)
agrees c n (ListenFailed d ∷ past) why alone legal e = absurd (never_listens c past d alone (ap is_some (cause_of_closed c past why e)) legal.0.1)
agrees c n (AcceptFailed d ∷ past) why alone legal e = absurd (never_accepts c past d alone (ap is_some (cause_of_closed c past why e)) legal.0.1)
agrees c n (ReadFault p ∷ past) why alone legal e = absurd (never_moves c past p.session (way_from p.side) alone (ap is_some (cause_of_closed c past why e)) legal.0.1.asks.moving)
agrees c n (WriteFault p ∷ past) why alone legal e = absurd (never_moves c past p.session (way_to p.side) alone (ap is_some (cause_of_closed c past why e)) legal.0.1.offers.moving)
agrees c n (Closed q one ∷ past) why alone legal e =
    closed_agrees c n past q one why alone legal.1 legal.0.is_held legal.0.licensed (λ w f. agrees c n past w alone legal.1 f)
    (which (is_of c 0 q) (is_end q one) one why (closed_why c past 0) (held_own c n past q alone legal.1 legal.0.is_held) e)
agrees c n (act ∷ past) why alone legal e = agrees c n past why alone legal.1 e

-- whatever is the cause, the events agree with it
pub caused : (c : Config) (n : ℕ) (past : List Act) (why : Why) → has_fork c ≡ false → Legal c n past → cause c past 0 ≡ Some why → event_cause c past ≡ event_part c.sloppy why
caused c n past why alone legal e = cause_event c past why (λ f. agrees c n past why alone legal f) e

-- ---- the end

-- once nothing is held, what is told of the cause is the outcome
pub ended : (c : Config) (n : ℕ) (past : List Act) (why : Why) → has_fork c ≡ false → Legal c n past → ((p : Place) → held past p ≡ false) → cause c past 0 ≡ Some why → outcome c past ≡ Some (told c past why)
ended c n past why alone legal free e = outcome_of c past why alone (nothing_left c n past alone legal (holds_not c past 0 free)) (caused c n past why alone legal e) e

-- a listening that is the cause failed at a door, which is the first that is out of tries
pub failed_to_listen : (c : Config) (n : ℕ) (past : List Act) → has_fork c ≡ false → Legal c n past → cause c past 0 ≡ Some whys.ListenFailed → FirstOut c past (own_doors c 0)
failed_to_listen c n past alone legal e = first_out c past (own_doors c 0) (event_stands c past whys.ListenFailed (caused c n past whys.ListenFailed alone legal e)).3

-- an opening that is the cause failed at a place, which is the first that is out of tries
pub failed_to_open : (c : Config) (n : ℕ) (past : List Act) → has_fork c ≡ false → Legal c n past → cause c past 0 ≡ Some whys.OpenFailed → FirstOut c past (places c 0)
failed_to_open c n past alone legal e = first_out c past (places c 0) (event_stands c past whys.OpenFailed (caused c n past whys.OpenFailed alone legal e)).4

-- what is told then
pub told_of_door : (c : Config) (past : List Act) (f : FirstOut c past (own_doors c 0)) → told c past whys.ListenFailed ≡ outcomes.ListenFailed (length (failures past f.at))
told_of_door c past f = ap (λ o. unwrap_or o (outcomes.Ended whys.ListenFailed)) (failed_door c past (own_doors c 0) f)

pub told_of_place : (c : Config) (past : List Act) (f : FirstOut c past (places c 0)) → told c past whys.OpenFailed ≡ outcomes.OpenFailed f.at.side (length (failures past f.at))
told_of_place c past f = ap (λ o. unwrap_or o (outcomes.Ended whys.OpenFailed)) (failed_place c past (places c 0) f)
