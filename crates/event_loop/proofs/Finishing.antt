-- The answer of a run, against the history that it leaves.
use Rattle.std.proofs.Common.{◌≡◌, refl, sym, ap, subst, ◌∙◌, ℕ, suc, ◌-◌, ◌^◌, ◌<◌, min, ◌⊎◌, inl, inr, Bool, true, false, cond, List, [], ◌∷◌, length, Option, Some, None, is_some, arith, ◌++◌}
use Rattle.std.proofs.lemmas.Bool.{false≢true, or_right}
use Rattle.relay_model.specs.declared.commands.Config.{Config}
use Rattle.relay_model.specs.declared.places.Place.{Place}
use Rattle.relay_model.specs.declared.acts.Act.{Act}
use Rattle.relay_model.specs.declared.acts.Act.TheVariants as acts
use Rattle.relay_model.specs.declared.acts.Why.{Why}
use Rattle.relay_model.specs.declared.acts.Why.TheVariants as whys
use Rattle.relay_model.specs.Choices.{only_if, first_some}
use Rattle.relay_model.specs.Configs.{has_fork, program_door}
use Rattle.relay_model.specs.Journals.{Asking}
use Rattle.relay_model.specs.History.{turns, held, failures, accept_failed, memory_said, stop_said}
use Rattle.relay_model.specs.Sessions.{admitted, holds, door_options}
use Rattle.relay_model.specs.Openings.{out_of_tries}
use Rattle.relay_model.specs.declared.outcomes.RunOutcome.{RunOutcome}
use Rattle.relay_model.specs.declared.outcomes.RunOutcome.TheVariants as whole
use Rattle.relay_model.specs.Outcome.{outcome, holds_something}
use Rattle.relay_model.specs.May.{Legal}
use Rattle.relay_session.specs.Blames.{is_failing, is_blamed}
use Rattle.relay_session.specs.Told.{stop_turned}
use Rattle.relay_session.proofs.Attempts.{counted}
use Rattle.place_openings.specs.Attempts.{Spends, AreSpent}
use Rattle.program_door.specs.Causes.{door_cause}
use Rattle.program_door.specs.Wishes.{IsDoorDone}
use Rattle.exit_status.specs.declared.outcomes.Outcome.{Outcome}
use Rattle.exit_status.specs.declared.outcomes.Outcome.TheVariants as outcomes
use Rattle.exit_status.specs.declared.outcomes.EndWhy.TheVariants as ends
use Rattle.exit_status.specs.Outcomes.{IsOutcome}
use Rattle.session_loop.specs.Answers.{outcome_for}
use Rattle.session_loop.proofs.Ends.{as_told}
use Rattle.session_loop.specs.Courses.{IsOwn, OnlyOwn}
use Rattle.session_loop.specs.Ended.{HasRunEnded, Happened}
use Rattle.session_loop.specs.Headline.{is_failure, is_relayed}
use Rattle.world_trait.specs.Seen.{Seen}
use Rattle.session_laws.specs.SessionSets.{IsSaid, MaySay}
use Rattle.session_laws.specs.Wholes.{told_by_door}
use Rattle.session_laws.proofs.Ends.{told_outcome}
use Rattle.session_loop.specs.Runs.{IsCommands, OnlyCommands, Run}
use Rattle.event_loop.specs.declared.all_sessions.Sessions.{Sessions}
use Rattle.event_loop.specs.Asking.{DoorIsOver}
use Rattle.event_loop.specs.Rows.{RowIs}
use Rattle.event_loop.specs.Courses.{RowOf, Unsaid, timer_of}
use Rattle.event_loop.specs.Endings.{RunsOut}
use Rattle.event_loop.specs.Turned.{NoneLives}
use Rattle.event_loop.specs.Waited.{StopsAt}
use Rattle.event_loop.specs.Vacated.{Empty, why_over}
use Rattle.event_loop.proofs.DoorClosings.{none_tells}
use Rattle.event_loop.proofs.Freeing.{all_free, nothing_held}

-- what an answer says of the acts
pub record Answers (c : Config) (n : ℕ) (past : List Act) (answer : Outcome) : Type 0 where
  pub outcome_is : IsOutcome c n past answer ⊎ (answer ≡ outcomes.Memory)
  pub relayed : is_relayed answer ≡ true
  pub failed : is_failure answer ≡ true → is_blamed past ≡ true
  pub stopped : (t : ℕ) → answer ≡ outcomes.Stopped t → (t ≡ turns past) × ((stop_turned past ≡ true) ⊎ (turns past ≡ n))

-- what was asked for is the command's own
one_own : (c : Config) (p : Place) → has_fork c ≡ true → IsCommands c p → IsOwn c p
one_own c p fork (inl k) = inl (k.0, k.1, λ e. absurd (false≢true (sym e ∙ fork)))
one_own c p fork (inr k) = inr (k, fork)

all_own : (c : Config) (pairs : List Asking) → has_fork c ≡ true → OnlyCommands c pairs → OnlyOwn c pairs
all_own c [] fork h = tt
all_own c (pair ∷ pairs) fork h = (one_own c pair.0 fork h.0, h.1, all_own c pairs fork h.2)

-- a run of all sessions as a run of any command
pub happened : (c : Config) (n : ℕ) (start now : Seen) (past : List Act) → has_fork c ≡ true → Run c n start now past → Happened c n start now past
happened c n start now past fork run = record {
  legal = run.legal;
  pairs = run.pairs;
  own = all_own c run.pairs fork run.asked;
  told = run.told;
  holds = run.holds;
  later = run.later;
  blamed = run.blamed;
  waited = run.waited;
  few_waits = run.few_waits;
  later_stops = run.later_stops;
  stopped = run.stopped;
}

ended_with : (c : Config) (n : ℕ) (start now : Seen) (past : List Act) (answer : Outcome) → has_fork c ≡ true → Run c n start now past → ((p : Place) → held past p ≡ false) → Answers c n past answer → HasRunEnded c n start now past answer
ended_with c n start now past answer fork run free a = record {
  happened = happened c n start now past fork run;
  ends = record { free = free; outcome_is = a.outcome_is; relayed = a.relayed; failed = a.failed; stopped = a.stopped };
}

for_memory : (c : Config) (n : ℕ) (past : List Act) → Answers c n past outcomes.Memory
for_memory c n past = record { outcome_is = inr refl; relayed = refl; failed = λ e. absurd (false≢true e); stopped = λ t e. cc }

after_free : {T : Type 0} (b : Bool) (o : Option T) (x : T) → b ≡ false → o ≡ Some x → cond b None o ≡ Some x
after_free true o x e f = let y : ⊥ = cc in absurd y
after_free false o x e f = f

-- ---- a run that was ended for a stop or want of memory

stop_outcome : (c : Config) (past : List Act) → holds_something c past ≡ false → stop_said past ≡ true → memory_said past ≡ false → outcome c past ≡ Some (whole.Stopped (turns past))
stop_outcome c past none t m = after_free (holds_something c past) _ (whole.Stopped (turns past)) none (rw (m, t) refl)

for_stop : (c : Config) (n : ℕ) (past : List Act) (made : ℕ) → holds_something c past ≡ false → turns past ≡ made → IsSaid whys.Stopped past ⊎ RunsOut c n past whys.Stopped → StopsAt n whys.Stopped past → Answers c n past (outcomes.Stopped made)
for_stop c n past made none turned ends stops = record {
  outcome_is = inl (go ends);
  relayed = refl;
  failed = λ e. absurd (false≢true e);
  stopped = λ t e. (let k : t ≡ made = cc in (k ∙ sym turned, stops refl));
}
  where
    go : IsSaid whys.Stopped past ⊎ RunsOut c n past whys.Stopped → IsOutcome c n past (outcomes.Stopped made)
    go (inl said) = inl (whole.Stopped (turns past), stop_outcome c past none said.0 said.1, ap (λ k. Some (whole.Stopped k)) (sym turned))
    go (inr (inl k)) = let x : ⊥ = cc in absurd x
    go (inr (inr k)) = inr (none, k.1, k.2, ap outcomes.Stopped (sym turned ∙ k.1))

answer_for : (c : Config) (n : ℕ) (past : List Act) (made : ℕ) (why : Why) (answer : Outcome) → MaySay why past → holds_something c past ≡ false → turns past ≡ made → IsSaid why past ⊎ RunsOut c n past why → StopsAt n why past → outcome_for why None None None made ≡ Some answer → Answers c n past answer
answer_for c n past made whys.Memory answer may none turned ends stops is = as_told outcomes.Memory answer (Answers c n past) is (for_memory c n past)
answer_for c n past made whys.Stopped answer may none turned ends stops is = as_told (outcomes.Stopped made) answer (Answers c n past) is (for_stop c n past made none turned ends stops)
answer_for c n past made why answer may none turned ends stops is = absurd may

-- for a stop or want of memory there is an answer
pub may_tell : (why : Why) (past : List Act) (made : ℕ) → MaySay why past → is_some (outcome_for why None None None made) ≡ true
may_tell whys.Memory past made may = refl
may_tell whys.Stopped past made may = refl
may_tell why past made may = absurd may

pub ended_empty : (c : Config) (n : ℕ) (start now : Seen) (before : List Act) (why : Why) (sessions : Sessions) (answer : Outcome) → (e : Empty c n start now before why sessions) → outcome_for why None None None sessions.made ≡ Some answer → HasRunEnded c n start now (e.made ++ before) answer
ended_empty c n start now before why sessions answer e is =
    let v = e.vacated in
    let o = v.exit in
    let past = e.made ++ before in
    let k = none_tells c past e.no_door in
    let free = all_free c n past o.fork o.run.legal v.none k.0 k.1 in
    ended_with c n start now past answer o.fork o.run free (answer_for c n past sessions.made why answer o.may (nothing_held c past free) v.made_is o.ends o.stops is)

-- ---- who is to blame

accept_blamed : (past : List Act) (d : Place) → accept_failed past d ≡ true → is_blamed past ≡ true
accept_blamed [] d e = absurd (false≢true e)
accept_blamed (acts.AcceptFailed q ∷ past) d e = refl
accept_blamed (act ∷ past) d e = or_right (is_failing act) (is_blamed past) (accept_blamed past d e)

tries_blamed : (past : List Act) (p : Place) → 0 < length (failures past p) → is_blamed past ≡ true
tries_blamed [] p e = absurd (omega (arith, e))
tries_blamed (acts.OpenFailed q ∷ past) p e = refl
tries_blamed (acts.ListenFailed q ∷ past) p e = refl
tries_blamed (act ∷ past) p e = or_right (is_failing act) (is_blamed past) (tries_blamed past p e)

-- ---- a run whose door is over

exactly : (attempts l retry : ℕ) → attempts ≡ min l (2 ^ 64 - 1) → l ≡ suc retry → retry < 2 ^ 64 - 1 → attempts ≡ l
exactly attempts l retry e f h = omega (arith, e, f, h)

more_than : (l retry : ℕ) → l ≡ suc retry → 0 < l
more_than l retry e = omega (arith, e)

for_listening : (c : Config) (n : ℕ) (past : List Act) (attempts : ℕ) → Legal c n past → AreSpent (door_options c).tries.retry (door_options c).tries.forever (failures past program_door) attempts → ((answer : RunOutcome) → told_by_door c past None answer → outcome c past ≡ Some answer) → Answers c n past (outcomes.ListenFailed attempts)
for_listening c n past attempts legal spent told =
    let l = counted c n past program_door legal spent.out in
    let exact = exactly attempts (length (failures past program_door)) (door_options c).tries.retry spent.attempts_is l spent.can_count in
    record {
      outcome_is = inl (inl (whole.ListenFailed (length (failures past program_door)), told (whole.ListenFailed (length (failures past program_door))) (inl (spent.out, refl)), ap (λ k. Some (whole.ListenFailed k)) exact));
      relayed = refl;
      failed = λ e. tries_blamed past program_door (more_than (length (failures past program_door)) (door_options c).tries.retry l);
      stopped = λ t e. cc;
    }

for_served : (c : Config) (n : ℕ) (past : List Act) → out_of_tries c past program_door ≡ false → ((answer : RunOutcome) → told_by_door c past None answer → outcome c past ≡ Some answer) → Answers c n past (outcomes.Ended ends.Served)
for_served c n past left told = record {
  outcome_is = inl (inl (whole.Ended whys.Served, told (whole.Ended whys.Served) (inr (left, refl)), refl));
  relayed = refl;
  failed = λ e. absurd (false≢true e);
  stopped = λ t e. cc;
}

for_accept : (c : Config) (n : ℕ) (past : List Act) → accept_failed past program_door ≡ true → outcome c past ≡ Some whole.AcceptFailed → Answers c n past outcomes.AcceptFailed
for_accept c n past failed told = record {
  outcome_is = inl (inl (whole.AcceptFailed, told, refl));
  relayed = refl;
  failed = λ e. accept_blamed past program_door failed;
  stopped = λ t e. cc;
}

-- where no closing said that the run ends, the door's calls ended for a failed accepting, if for anything
said_alone : (m t a : Bool) (why : Why) → Some why ≡ first_some (only_if m whys.Memory ∷ only_if t whys.Stopped ∷ only_if a whys.AcceptFailed ∷ []) → m ≡ false → t ≡ false → (why ≡ whys.AcceptFailed) × (a ≡ true)
said_alone true t a why e fm ft = absurd (false≢true (sym fm))
said_alone false true a why e fm ft = absurd (false≢true (sym ft))
said_alone false false true why e fm ft = (cc, refl)
said_alone false false false why e fm ft = let x : ⊥ = cc in absurd x

accept_alone : (past : List Act) (why : Why) → Some why ≡ door_cause past → Unsaid past → (why ≡ whys.AcceptFailed) × (accept_failed past program_door ≡ true)
accept_alone past why e unsaid = said_alone (memory_said past) (stop_said past) (accept_failed past program_door) why e unsaid.remembered unsaid.unstopped

-- so its answer is known
pub over_told : (past : List Act) (cause : Option Why) (listening : Option ℕ) (made : ℕ) → cause ≡ door_cause past → Unsaid past → is_some (outcome_for (why_over cause listening) listening None None made) ≡ true
over_told past None None made e unsaid = refl
over_told past None (Some attempts) made e unsaid = refl
over_told past (Some why) listening made e unsaid = rw ((accept_alone past why e unsaid).0) refl

answer_by : (c : Config) (n : ℕ) (past : List Act) (cause : Option Why) (listening : Option ℕ) (made : ℕ) (answer : Outcome) → Legal c n past → Unsaid past → cause ≡ door_cause past → Spends (door_options c).tries.retry (door_options c).tries.forever (failures past program_door) listening → ((answer : RunOutcome) → told_by_door c past (door_cause past) answer → outcome c past ≡ Some answer) → outcome_for (why_over cause listening) listening None None made ≡ Some answer → Answers c n past answer
answer_by c n past None None made answer legal unsaid e spends told is =
    as_told (outcomes.Ended ends.Served) answer (Answers c n past) is (for_served c n past spends (λ answer h. told answer (subst (λ (k : Option Why). told_by_door c past k answer) e h)))
answer_by c n past None (Some attempts) made answer legal unsaid e spends told is =
    as_told (outcomes.ListenFailed attempts) answer (Answers c n past) is (for_listening c n past attempts legal spends (λ answer h. told answer (subst (λ (k : Option Why). told_by_door c past k answer) e h)))
answer_by c n past (Some why) listening made answer legal unsaid e spends told is =
    let alone = accept_alone past why e unsaid in
    let cause : Some whys.AcceptFailed ≡ door_cause past = ap Some (sym alone.0) ∙ e in
    as_told outcomes.AcceptFailed answer (Answers c n past) (subst (λ (k : Why). outcome_for k listening None None made ≡ Some answer) alone.0 is)
    (for_accept c n past alone.1 (told whole.AcceptFailed (subst (λ (k : Option Why). told_by_door c past k whole.AcceptFailed) cause refl)))

none_of_rows : (c : Config) (n : ℕ) (past : List Act) (s : ℕ) (sessions : Sessions) → NoneLives sessions → RowOf c n past sessions s → s < admitted c past → holds c past s ≡ false
none_of_rows c n past s sessions none r = (subst (RowIs c n past s sessions.work.items (timer_of sessions s)) (none s) r).0

pub ended_over : (c : Config) (n : ℕ) (start now : Seen) (sessions : Sessions) (cause : Option Why) (listening : Option ℕ) (made : ℕ) (why : Why) (answer : Outcome) → (over : DoorIsOver c n start now sessions) → NoneLives sessions → cause ≡ door_cause over.past → Spends (door_options c).tries.retry (door_options c).tries.forever (failures over.past program_door) listening → why ≡ why_over cause listening → outcome_for why listening None None made ≡ Some answer → HasRunEnded c n start now over.past answer
ended_over c n start now sessions cause listening made why answer over none e spends by is =
    let f = over.course.frame in
    let done : IsDoorDone c over.past = over.wished in
    let gone : (s : ℕ) → s < admitted c over.past → holds c over.past s ≡ false = λ s. none_of_rows c n over.past s sessions none (over.course.rows s) in
    let free = all_free c n over.past f.fork f.run.legal gone done.sleeps.no_peer done.no_door in
    ended_with c n start now over.past answer f.fork f.run free (answer_by c n over.past cause listening made answer f.run.legal f.unsaid e spends (λ answer h. told_outcome c n over.past answer f.run.legal f.fork done gone h)
    (subst (λ (k : Why). outcome_for k listening None None made ≡ Some answer) by is))
