-- The answer of a run, against the history that it leaves: its outcome, who is to blame for it, and where a stop comes from.
use Rattle.std.proofs.Common.{◌≡◌, ◌⊎◌, refl, sym, ap, subst, ◌∙◌, inl, inr, ℕ, ◌+◌, ◌-◌, ◌^◌, ◌≤◌, ◌<◌, min, Bool, true, false, List, [], ◌∷◌, Option, Some, None, unwrap_or, is_some, arith}
use Rattle.std.specs.List.{list_any}
use Rattle.std.proofs.lemmas.Grind.{common_steps}
use Rattle.std.proofs.lemmas.Bool.{false≢true, true≢false, or_cases, or_left, or_right, false_from_ne_true}
use Rattle.relay_model.specs.declared.places.Place.{Place}
use Rattle.relay_model.specs.declared.commands.Config.{Config}
use Rattle.relay_model.specs.declared.acts.Act.{Act}
use Rattle.relay_model.specs.declared.acts.Act.TheVariants.{OpenFailed, ListenFailed, AcceptFailed, ReadFault, WriteFault}
use Rattle.relay_model.specs.declared.acts.Why.{Why}
use Rattle.relay_model.specs.declared.acts.Why.TheVariants as whys
use Rattle.relay_model.specs.Places.{same_place}
use Rattle.relay_model.specs.Configs.{places, own_doors, things, has_fork}
use Rattle.relay_model.specs.History.{turns, held}
use Rattle.relay_model.specs.Sessions.{holds}
use Rattle.relay_model.specs.Cause.{cause}
use Rattle.relay_model.specs.Rest.{Rest}
use Rattle.relay_model.specs.declared.outcomes.RunOutcome.{RunOutcome}
use Rattle.relay_model.specs.declared.outcomes.RunOutcome.TheVariants as whole
use Rattle.relay_model.specs.Outcome.{holds_something, first_fault, failed_listening, failed_opening}
use Rattle.relay_model.specs.May.{Legal}
use Rattle.exit_status.specs.declared.outcomes.Outcome.{Outcome}
use Rattle.exit_status.specs.declared.outcomes.Outcome.TheVariants as outcomes
use Rattle.exit_status.specs.declared.outcomes.EndWhy.TheVariants as ends
use Rattle.exit_status.specs.Outcomes.{IsOutcome, outcome_of}
use Rattle.relay_session.specs.Blames.{blames, is_failing, is_blamed, is_blamed_for}
use Rattle.relay_session.specs.Blames.{is_failure as fails}
use Rattle.relay_session.specs.Endings.{Ends}
use Rattle.relay_session.specs.States.{IsDone}
use Rattle.relay_session.specs.Told.{told}
use Rattle.session_laws.specs.OneSession.{CauseIsTold, FailureIsBlamed, HeldIsOwn}
use Rattle.relay_session.proofs.Held.{nothing_left}
use Rattle.place_openings.specs.declared.given_up.GivenUp.{GivenUp}
use Rattle.session_loop.specs.declared.faults.Fault.{Fault}
use Rattle.relay_session.specs.Told.{told_listening, told_opening}
use Rattle.session_laws.specs.OneSession.{StopIsTold}
use Rattle.session_loop.specs.Courses.{Risen}
use Rattle.relay_session.specs.Told.{stop_turned}
use Rattle.session_loop.specs.Answers.{AnswerTells, told_fault, fault_or, faulted, unlistened, unopened, outcome_for}
use Rattle.session_loop.specs.Ended.{EndsWith, StopAt}
use Rattle.session_loop.specs.Headline.{Completes, RoseBy, StopCause, Unrisen, is_failure, is_relayed, is_undisturbed}

-- what the answer of a run says of its history
pub record EndTells (c : Config) (n : ℕ) (past : List Act) (answer : Outcome) : Type 0 where
  pub outcome_is : IsOutcome c n past answer ⊎ (answer ≡ outcomes.Memory)
  pub relayed : is_relayed answer ≡ true
  pub failed : is_failure answer ≡ true → is_blamed past ≡ true
  pub stopped : (t : ℕ) → answer ≡ outcomes.Stopped t → (t ≡ turns past) × StopAt n past

-- ---- nothing is held

same_true : (p q : Place) → same_place p q ≡ true → p ≡ q
same_true p q e = grind (arith, common_steps)

among : (test : Place → Bool) (q : Place) (ps : List Place) → list_any (same_place q) ps ≡ true → test q ≡ true → list_any test ps ≡ true
among test q [] e t = absurd (false≢true e)
among test q (p ∷ ps) e t = go (or_cases (same_place q p) (list_any (same_place q) ps) e) (λ f. among test q ps f t)
  where
    go : (same_place q p ≡ true) ⊎ (list_any (same_place q) ps ≡ true) → (list_any (same_place q) ps ≡ true → list_any test ps ≡ true) → list_any test (p ∷ ps) ≡ true
    go (inl here) ih = or_left (test p) (list_any test ps) (subst (λ x. test x ≡ true) (same_true q p here) t)
    go (inr there) ih = or_right (test p) (list_any test ps) (ih there)

-- where the one session holds nothing, nothing is held
pub all_free : (c : Config) (n : ℕ) (past : List Act) → has_fork c ≡ false → HeldIsOwn → Legal c n past → holds c past 0 ≡ false → (p : Place) → held past p ≡ false
all_free c n past alone own legal e p =
    false_from_ne_true (held past p) (λ h. true≢false (sym (among (held past) p (things c 0) (own c n past p alone legal h) h) ∙ e))

-- ---- who is to blame

blaming_fails : (why : Why) (act : Act) → blames why act ≡ true → is_failing act ≡ true
blaming_fails whys.OpenFailed (OpenFailed p) e = refl
blaming_fails whys.ListenFailed (ListenFailed d) e = refl
blaming_fails whys.AcceptFailed (AcceptFailed d) e = refl
blaming_fails whys.Faulted (ReadFault p) e = refl
blaming_fails whys.Faulted (WriteFault p) e = refl
blaming_fails why act e = absurd (false≢true e)

-- who is to blame for one reason is to blame
blamed_at_all : (why : Why) (past : List Act) → is_blamed_for why past ≡ true → is_blamed past ≡ true
blamed_at_all why [] e = absurd (false≢true e)
blamed_at_all why (act ∷ past) e = go (or_cases (blames why act) (is_blamed_for why past) e) (blamed_at_all why past)
  where
    go : (blames why act ≡ true) ⊎ (is_blamed_for why past ≡ true) → (is_blamed_for why past ≡ true → is_blamed past ≡ true) → is_blamed (act ∷ past) ≡ true
    go (inl here) ih = or_left (is_failing act) (is_blamed past) (blaming_fails why act here)
    go (inr there) ih = or_right (is_failing act) (is_blamed past) (ih there)

-- a fault that is told is to blame
fault_blamed : (c : Config) (past : List Act) (s : ℕ) (o : RunOutcome) → Some o ≡ first_fault c past s → is_blamed past ≡ true
fault_blamed c [] s o e = cc
fault_blamed c (ReadFault q ∷ past) s o e = refl
fault_blamed c (WriteFault q ∷ past) s o e = refl
fault_blamed c (act ∷ past) s o e = or_right (is_failing act) (is_blamed past) (fault_blamed c past s o e)

-- ---- what the answer tells

-- what holds of the answer that is there holds of the answer
pub as_told : (x answer : Outcome) (P : Outcome → Type 0) → Some x ≡ Some answer → P x → P answer
as_told x answer P is h = let k : x ≡ answer = cc in subst P k h

-- the answer tells this outcome, or want of memory
abbrev Tells : Outcome → RunOutcome → Type 0
Tells answer ending = (outcome_of answer ≡ Some ending) ⊎ (answer ≡ outcomes.Memory)

listening_tells : (listening : Option ℕ) (found : Option RunOutcome) (other : RunOutcome) (answer : Outcome) → told_listening listening ≡ found → unlistened listening ≡ Some answer → Tells answer (unwrap_or found other)
listening_tells None found other answer e is = cc
listening_tells (Some attempts) found other answer e is = as_told (outcomes.ListenFailed attempts) answer (λ x. Tells x (unwrap_or found other)) is (inl (ap (λ x. Some (unwrap_or x other)) e))

opening_tells : (opening : Option GivenUp) (found : Option RunOutcome) (other : RunOutcome) (answer : Outcome) → told_opening opening ≡ found → unopened opening ≡ Some answer → Tells answer (unwrap_or found other)
opening_tells None found other answer e is = cc
opening_tells (Some given_up) found other answer e is = as_told (outcomes.OpenFailed given_up.side given_up.attempts) answer (λ x. Tells x (unwrap_or found other)) is (inl (ap (λ x. Some (unwrap_or x other)) e))

fault_tells : (fault : Option Fault) (found : Option RunOutcome) (other : RunOutcome) (answer : Outcome) → told_fault fault ≡ found → faulted fault ≡ Some answer → Tells answer (unwrap_or found other)
fault_tells None found other answer e is = cc
fault_tells (Some fault) found other answer e is = as_told (outcomes.Faulted fault.place fault.op) answer (λ x. Tells x (unwrap_or found other)) is (inl (ap (λ x. Some (unwrap_or x other)) e))

fault_or_tells : (fault : Option Fault) (found : Option RunOutcome) (kept : Outcome) (other : RunOutcome) → Tells kept other → told_fault fault ≡ found → Tells (fault_or kept fault) (unwrap_or found other)
fault_or_tells None found kept other h e = subst (λ x. Tells kept (unwrap_or x other)) e h
fault_or_tells (Some fault) found kept other h e = inl (ap (λ x. Some (unwrap_or x other)) e)

-- what was found at the end is what the history tells
record Found (c : Config) (past : List Act) (listening : Option ℕ) (opening : Option GivenUp) (fault : Option Fault) (made : ℕ) : Type 0 where
  pub listened : told_listening listening ≡ failed_listening c past (own_doors c 0)
  pub opened : told_opening opening ≡ failed_opening c past (places c 0)
  pub faulted : told_fault fault ≡ first_fault c past 0
  pub turned : turns past ≡ made

answer_tells : (c : Config) (past : List Act) (why : Why) (listening : Option ℕ) (opening : Option GivenUp) (fault : Option Fault) (made : ℕ) (answer : Outcome) → Found c past listening opening fault made → outcome_for why listening opening fault made ≡ Some answer → Tells answer (told c past why)
answer_tells c past whys.Memory listening opening fault made answer f is = as_told outcomes.Memory answer (λ x. Tells x (told c past whys.Memory)) is (inr refl)
answer_tells c past whys.Stopped listening opening fault made answer f is = as_told (outcomes.Stopped made) answer (λ x. Tells x (told c past whys.Stopped)) is (inl (ap (λ k. Some (whole.Stopped k)) (sym f.turned)))
answer_tells c past whys.AcceptFailed listening opening fault made answer f is = as_told outcomes.AcceptFailed answer (λ x. Tells x (told c past whys.AcceptFailed)) is (inl refl)
answer_tells c past whys.ListenFailed listening opening fault made answer f is = listening_tells listening (failed_listening c past (own_doors c 0)) (whole.Ended whys.ListenFailed) answer f.listened is
answer_tells c past whys.OpenFailed listening opening fault made answer f is = opening_tells opening (failed_opening c past (places c 0)) (whole.Ended whys.OpenFailed) answer f.opened is
answer_tells c past whys.Faulted listening opening fault made answer f is = fault_tells fault (first_fault c past 0) (whole.Ended whys.Faulted) answer f.faulted is
answer_tells c past whys.Finished listening opening fault made answer f is = as_told (outcomes.Ended ends.Finished) answer (λ x. Tells x (told c past whys.Finished)) is (inl refl)
answer_tells c past whys.ClosingTime listening opening fault made answer f is =
    as_told (fault_or (outcomes.Ended ends.ClosingTime) fault) answer (λ x. Tells x (told c past whys.ClosingTime)) is (fault_or_tells fault (first_fault c past 0) (outcomes.Ended ends.ClosingTime) (whole.Ended whys.ClosingTime) (inl refl) f.faulted)
answer_tells c past whys.Idle listening opening fault made answer f is =
    as_told (fault_or (outcomes.Ended ends.Idle) fault) answer (λ x. Tells x (told c past whys.Idle)) is (fault_or_tells fault (first_fault c past 0) (outcomes.Ended ends.Idle) (whole.Ended whys.Idle) (inl refl) f.faulted)
answer_tells c past whys.Served listening opening fault made answer f is = as_told (outcomes.Ended ends.Served) answer (λ x. Tells x (told c past whys.Served)) is (inl refl)
answer_tells c past whys.Refused listening opening fault made answer f is = cc

-- ---- the shapes of answers

fault_relayed : (fault : Option Fault) (kept : Outcome) → is_relayed kept ≡ true → is_relayed (fault_or kept fault) ≡ true
fault_relayed None kept e = e
fault_relayed (Some fault) kept e = refl

answer_relayed : (why : Why) (listening : Option ℕ) (opening : Option GivenUp) (fault : Option Fault) (made : ℕ) (answer : Outcome) → outcome_for why listening opening fault made ≡ Some answer → is_relayed answer ≡ true
answer_relayed whys.Memory listening opening fault made answer is = as_told outcomes.Memory answer (λ x. is_relayed x ≡ true) is refl
answer_relayed whys.Stopped listening opening fault made answer is = as_told (outcomes.Stopped made) answer (λ x. is_relayed x ≡ true) is refl
answer_relayed whys.AcceptFailed listening opening fault made answer is = as_told outcomes.AcceptFailed answer (λ x. is_relayed x ≡ true) is refl
answer_relayed whys.ListenFailed None opening fault made answer is = cc
answer_relayed whys.ListenFailed (Some attempts) opening fault made answer is = as_told (outcomes.ListenFailed attempts) answer (λ x. is_relayed x ≡ true) is refl
answer_relayed whys.OpenFailed listening None fault made answer is = cc
answer_relayed whys.OpenFailed listening (Some given_up) fault made answer is = as_told (outcomes.OpenFailed given_up.side given_up.attempts) answer (λ x. is_relayed x ≡ true) is refl
answer_relayed whys.Faulted listening opening None made answer is = cc
answer_relayed whys.Faulted listening opening (Some fault) made answer is = as_told (outcomes.Faulted fault.place fault.op) answer (λ x. is_relayed x ≡ true) is refl
answer_relayed whys.Finished listening opening fault made answer is = as_told (outcomes.Ended ends.Finished) answer (λ x. is_relayed x ≡ true) is refl
answer_relayed whys.ClosingTime listening opening fault made answer is = as_told (fault_or (outcomes.Ended ends.ClosingTime) fault) answer (λ x. is_relayed x ≡ true) is (fault_relayed fault (outcomes.Ended ends.ClosingTime) refl)
answer_relayed whys.Idle listening opening fault made answer is = as_told (fault_or (outcomes.Ended ends.Idle) fault) answer (λ x. is_relayed x ≡ true) is (fault_relayed fault (outcomes.Ended ends.Idle) refl)
answer_relayed whys.Served listening opening fault made answer is = as_told (outcomes.Ended ends.Served) answer (λ x. is_relayed x ≡ true) is refl
answer_relayed whys.Refused listening opening fault made answer is = cc

fault_fails : (fault : Option Fault) (kept : Outcome) → is_failure kept ≡ false → is_failure (fault_or kept fault) ≡ true → is_some fault ≡ true
fault_fails None kept e h = absurd (false≢true (sym e ∙ h))
fault_fails (Some fault) kept e h = refl

-- an answer that isn't there or is no failure says of none
unfailing : (x answer : Outcome) → Some x ≡ Some answer → is_failure x ≡ false → is_failure answer ≡ true → ⊥
unfailing x answer is e h = let k : x ≡ answer = cc in false≢true (sym e ∙ ap is_failure k ∙ h)

-- an answer says that something failed where the session failed, or where there was a fault
answer_fails : (why : Why) (listening : Option ℕ) (opening : Option GivenUp) (fault : Option Fault) (made : ℕ) (answer : Outcome) → outcome_for why listening opening fault made ≡ Some answer → is_failure answer ≡ true → (fails why ≡ true) ⊎ (is_some fault ≡ true)
answer_fails whys.Memory listening opening fault made answer is e = absurd (unfailing outcomes.Memory answer is refl e)
answer_fails whys.Stopped listening opening fault made answer is e = absurd (unfailing (outcomes.Stopped made) answer is refl e)
answer_fails whys.AcceptFailed listening opening fault made answer is e = inl refl
answer_fails whys.ListenFailed listening opening fault made answer is e = inl refl
answer_fails whys.OpenFailed listening opening fault made answer is e = inl refl
answer_fails whys.Faulted listening opening fault made answer is e = inl refl
answer_fails whys.Finished listening opening fault made answer is e = absurd (unfailing (outcomes.Ended ends.Finished) answer is refl e)
answer_fails whys.ClosingTime listening opening fault made answer is e = let k : fault_or (outcomes.Ended ends.ClosingTime) fault ≡ answer = cc in inr (fault_fails fault (outcomes.Ended ends.ClosingTime) refl (ap is_failure k ∙ e))
answer_fails whys.Idle listening opening fault made answer is e = let k : fault_or (outcomes.Ended ends.Idle) fault ≡ answer = cc in inr (fault_fails fault (outcomes.Ended ends.Idle) refl (ap is_failure k ∙ e))
answer_fails whys.Served listening opening fault made answer is e = absurd (unfailing (outcomes.Ended ends.Served) answer is refl e)
answer_fails whys.Refused listening opening fault made answer is e = cc

-- such a stop is answered for a stop alone
abbrev StopsFor : Why → ℕ → ℕ → Type 0
StopsFor why made t = (why ≡ whys.Stopped) × (t ≡ made)

fault_stops : (fault : Option Fault) (kept : Outcome) (why : Why) (made t : ℕ) → (kept ≡ outcomes.Stopped t → StopsFor why made t) → fault_or kept fault ≡ outcomes.Stopped t → StopsFor why made t
fault_stops None kept why made t h e = h e
fault_stops (Some fault) kept why made t h e = cc

answer_stops : (why : Why) (listening : Option ℕ) (opening : Option GivenUp) (fault : Option Fault) (made : ℕ) (answer : Outcome) (t : ℕ) → outcome_for why listening opening fault made ≡ Some answer → answer ≡ outcomes.Stopped t → StopsFor why made t
answer_stops whys.Memory listening opening fault made answer t is e = cc
answer_stops whys.Stopped listening opening fault made answer t is e = let k : t ≡ made = cc in (refl, k)
answer_stops whys.AcceptFailed listening opening fault made answer t is e = cc
answer_stops whys.ListenFailed None opening fault made answer t is e = cc
answer_stops whys.ListenFailed (Some attempts) opening fault made answer t is e = cc
answer_stops whys.OpenFailed listening None fault made answer t is e = cc
answer_stops whys.OpenFailed listening (Some given_up) fault made answer t is e = cc
answer_stops whys.Faulted listening opening None made answer t is e = cc
answer_stops whys.Faulted listening opening (Some fault) made answer t is e = cc
answer_stops whys.Finished listening opening fault made answer t is e = cc
answer_stops whys.ClosingTime listening opening fault made answer t is e =
    let k : fault_or (outcomes.Ended ends.ClosingTime) fault ≡ answer = cc in
    fault_stops fault (outcomes.Ended ends.ClosingTime) whys.ClosingTime made t (λ j. cc) (k ∙ e)
answer_stops whys.Idle listening opening fault made answer t is e =
    let k : fault_or (outcomes.Ended ends.Idle) fault ≡ answer = cc in
    fault_stops fault (outcomes.Ended ends.Idle) whys.Idle made t (λ j. cc) (k ∙ e)
answer_stops whys.Served listening opening fault made answer t is e = cc
answer_stops whys.Refused listening opening fault made answer t is e = cc

-- ---- the end of a run

some_fault_blamed : (c : Config) (past : List Act) (fault : Option Fault) → told_fault fault ≡ first_fault c past 0 → is_some fault ≡ true → is_blamed past ≡ true
some_fault_blamed c past None e h = absurd (false≢true h)
some_fault_blamed c past (Some fault) e h = fault_blamed c past 0 _ e

for_memory : (c : Config) (n : ℕ) (past : List Act) → EndTells c n past outcomes.Memory
for_memory c n past = record { outcome_is = inr refl; relayed = refl; failed = λ e. absurd (false≢true e); stopped = λ t e. cc }

for_turns : (c : Config) (n : ℕ) (past : List Act) (made : ℕ) → holds_something c past ≡ false → turns past ≡ made → turns past ≡ n → Rest c past → EndTells c n past (outcomes.Stopped made)
for_turns c n past made nothing turned limit rest =
    record {
      outcome_is = inl (inr (nothing, limit, rest, ap outcomes.Stopped (sym turned ∙ limit)));
      relayed = refl;
      failed = λ e. absurd (false≢true e);
      stopped = λ t e. let k : t ≡ made = cc in (k ∙ sym turned, inr limit);
    }

for_cause : (c : Config) (n : ℕ) (past : List Act) (why : Why) (listening : Option ℕ) (opening : Option GivenUp) (fault : Option Fault) (made : ℕ) (answer : Outcome) → has_fork c ≡ false → CauseIsTold → FailureIsBlamed → StopIsTold → Legal c n past → ((p : Place) → held past p ≡ false) → cause c past 0 ≡ Some why → Found c past listening opening fault made → outcome_for why listening opening fault made ≡ Some answer → EndTells c n past answer
for_cause c n past why listening opening fault made answer alone cause_told failure_blamed stop_told legal free e f is =
    record {
      outcome_is = told_of (answer_tells c past why listening opening fault made answer f is);
      relayed = answer_relayed why listening opening fault made answer is;
      failed = λ h. blamed_of (answer_fails why listening opening fault made answer is h);
      stopped = λ t h. stopped_of t (answer_stops why listening opening fault made answer t is h);
    }
  where
    told_of : Tells answer (told c past why) → IsOutcome c n past answer ⊎ (answer ≡ outcomes.Memory)
    told_of (inl tells) = inl (inl (told c past why, cause_told c n past why alone legal free e, tells))
    told_of (inr memory) = inr memory

    blamed_of : (fails why ≡ true) ⊎ (is_some fault ≡ true) → is_blamed past ≡ true
    blamed_of (inl failed) = blamed_at_all why past (failure_blamed c n past why alone legal failed e)
    blamed_of (inr faulted) = some_fault_blamed c past fault f.faulted faulted

    stopped_of : (t : ℕ) → StopsFor why made t → (t ≡ turns past) × StopAt n past
    stopped_of t h = (h.1 ∙ sym f.turned, stop_told c n past alone legal (e ∙ ap Some h.0))

-- the answer at the end is the outcome of the history, or tells of want of memory
pub ends_with : (c : Config) (n : ℕ) (past : List Act) (why : Why) (listening : Option ℕ) (opening : Option GivenUp) (fault : Option Fault) (made : ℕ) (answer : Outcome) → has_fork c ≡ false → CauseIsTold → FailureIsBlamed → HeldIsOwn → StopIsTold → Legal c n past → IsDone c n past 0 why → told_listening listening ≡ failed_listening c past (own_doors c 0) → told_opening opening ≡ failed_opening c past (places c 0) → told_fault fault ≡ first_fault c past 0 → turns past ≡ made → outcome_for why listening opening fault made ≡ Some answer → EndTells c n past answer
ends_with c n past why listening opening fault made answer alone cause_told failure_blamed own stop_told legal done listened opened faulted turned is = go done.ends
  where
    go : Ends c n past 0 why → EndTells c n past answer
    go (inl e) = for_cause c n past why listening opening fault made answer alone cause_told failure_blamed stop_told legal (all_free c n past alone own legal done.nothing_held) e (record { listened = listened; opened = opened; faulted = faulted; turned = turned }) is
    go (inr (inl e)) = as_told outcomes.Memory answer (EndTells c n past) (ap (λ (w : Why). outcome_for w listening opening fault made) (sym e.0) ∙ is) (for_memory c n past)
    go (inr (inr e)) = as_told (outcomes.Stopped made) answer (EndTells c n past) (ap (λ (w : Why). outcome_for w listening opening fault made) (sym e.0) ∙ is) (for_turns c n past made (nothing_left c n past alone legal done.nothing_held) turned e.1 e.2)

-- ---- stops

stop_by : (n w w' st st' t : ℕ) (past : List Act) → t ≡ turns past → StopAt n past → (stop_turned past ≡ true → Risen st st') → RoseBy (turns past) w w' → RoseBy t w w' × (Risen st st' ⊎ (t ≡ n))
stop_by n w w' st st' t past e (inl said) rose waits = (subst (λ k. RoseBy k w w') (sym e) waits, inl (rose said))
stop_by n w w' st st' t past e (inr limit) rose waits = (subst (λ k. RoseBy k w w') (sym e) waits, inr (e ∙ limit))

-- a stop that is answered has its cause
pub stop_of : (o : Outcome) (n w w' st st' : ℕ) (past : List Act) → ((t : ℕ) → o ≡ outcomes.Stopped t → (t ≡ turns past) × StopAt n past) → (stop_turned past ≡ true → Risen st st') → RoseBy (turns past) w w' → StopCause n w w' st st' o
stop_of (outcomes.Stopped t) n w w' st st' past h rose waits = stop_by n w w' st st' t past (h t refl).0 (h t refl).1 rose waits
stop_of o n w w' st st' past h rose waits = tt

risen_later : (n s s' s'' t : ℕ) → s' ≤ s'' → Risen s s' ⊎ (t ≡ n) → Risen s s'' ⊎ (t ≡ n)
risen_later n s s' s'' t up (inl rose) = inl (omega (arith, up, rose))
risen_later n s s' s'' t up (inr all) = inr all

stop_later : (answer : Outcome) (n w w' w'' s s' s'' : ℕ) → StopCause n w w' s s' answer → w'' ≡ w' → s' ≤ s'' → StopCause n w w'' s s'' answer
stop_later (outcomes.Stopped t) n w w' w'' s s' s'' h e up = (subst (λ k. RoseBy t w k) (sym e) h.0, risen_later n s s' s'' t up h.1)
stop_later answer n w w' w'' s s' s'' h e up = tt

-- the answer stays, or memory is wanting, no count falls and no wait is made: so it has its cause as well
pub stop_on : (answer later : Outcome) (n w w' w'' s s' s'' : ℕ) → StopCause n w w' s s' answer → (later ≡ answer) ⊎ (later ≡ outcomes.Memory) → w'' ≡ w' → s' ≤ s'' → StopCause n w w'' s s'' later
stop_on answer later n w w' w'' s s' s'' h (inl same) e up = subst (λ x. StopCause n w w'' s s'' x) (sym same) (stop_later answer n w w' w'' s s' s'' h e up)
stop_on answer later n w w' w'' s s' s'' h (inr lacking) e up = subst (λ x. StopCause n w w'' s s'' x) (sym lacking) tt

-- the same of an answer that was told of these, and nothing is held
pub ends_told : (c : Config) (n : ℕ) (past : List Act) (why : Why) (fault : Option Fault) (made : ℕ) (answer : Outcome) → has_fork c ≡ false → CauseIsTold → FailureIsBlamed → HeldIsOwn → StopIsTold → Legal c n past → IsDone c n past 0 why → told_fault fault ≡ first_fault c past 0 → turns past ≡ made → AnswerTells c past why fault made answer → EndsWith c n past answer
ends_told c n past why fault made answer alone cause failure held stop legal done faulted turned tells =
    let t = ends_with c n past why tells.listening tells.opening fault made answer alone cause failure held stop legal done tells.listening_is tells.opening_is faulted turned tells.answer_is in
    record { free = all_free c n past alone held legal done.nothing_held; outcome_is = t.outcome_is; relayed = t.relayed; failed = t.failed; stopped = t.stopped }

-- ---- completeness

unstopped : (n t w w' s s' : ℕ) → Unrisen s s' → w' < min (w + n) (2 ^ 64 - 1) → StopCause n w w' s s' (outcomes.Stopped t) → ⊥
unstopped n t w w' s s' calm left (waited, inl rose) = omega (arith, calm, rose)
unstopped n t w w' s s' calm left (waited, inr all) = let least = waited.least in omega (arith, left, least, all)

-- each answer of a relay has its cause in a count, but for an end and want of memory
pub completes_by : (answer : Outcome) (n f f' w w' s s' : ℕ) → is_relayed answer ≡ true → (is_failure answer ≡ true → Risen f f') → StopCause n w w' s s' answer → Completes n f f' w w' s s' answer
completes_by (outcomes.Ended why) n f f' w w' s s' relayed failed stopped calm left quiet = refl
completes_by outcomes.Memory n f f' w w' s s' relayed failed stopped calm left quiet = refl
completes_by (outcomes.Stopped t) n f f' w w' s s' relayed failed stopped calm left quiet = absurd (unstopped n t w w' s s' quiet left stopped)
completes_by (outcomes.OpenFailed side attempts) n f f' w w' s s' relayed failed stopped calm left quiet = let rose = failed refl in absurd (omega (arith, calm, rose))
completes_by (outcomes.ListenFailed attempts) n f f' w w' s s' relayed failed stopped calm left quiet = let rose = failed refl in absurd (omega (arith, calm, rose))
completes_by outcomes.AcceptFailed n f f' w w' s s' relayed failed stopped calm left quiet = let rose = failed refl in absurd (omega (arith, calm, rose))
completes_by (outcomes.Faulted place op) n f f' w w' s s' relayed failed stopped calm left quiet = let rose = failed refl in absurd (omega (arith, calm, rose))
completes_by outcomes.Told n f f' w w' s s' relayed failed stopped calm left quiet = absurd (false≢true relayed)
completes_by outcomes.Loaded n f f' w w' s s' relayed failed stopped calm left quiet = absurd (false≢true relayed)
completes_by (outcomes.Refused refused) n f f' w w' s s' relayed failed stopped calm left quiet = absurd (false≢true relayed)

-- the answer stays, or memory is wanting, and no count falls: so it does as well
pub completes_on : (answer later : Outcome) (n f f' f'' w w' w'' s s' s'' : ℕ) → Completes n f f' w w' s s' answer → (later ≡ answer) ⊎ (later ≡ outcomes.Memory) → f' ≤ f'' → w'' ≡ w' → s' ≤ s'' → Completes n f f'' w w'' s s'' later
completes_on answer later n f f' f'' w w' w'' s s' s'' h (inl same) a b d calm left quiet = ap is_undisturbed same ∙ h (omega (arith, a, calm)) (omega (arith, b, left)) (omega (arith, d, quiet))
completes_on answer later n f f' f'' w w' w'' s s' s'' h (inr lacking) a b d calm left quiet = ap is_undisturbed lacking
