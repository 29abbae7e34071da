-- When a command of one session may wait, and until when.
use Rattle.std.proofs.Common.{◌≡◌, refl, sym, ap, subst, ◌∙◌, ℕ, suc, ◌<◌, Bool, true, false, cond, ◌&&◌, ◌||◌, List, [], ◌∷◌, Option, Some, None, inl, inr, ◌⊎◌, arith}
use Rattle.std.specs.List.{list_any}
use Rattle.std.proofs.lemmas.Bool.{false≢true, or_parts, cases_eq}
use Rattle.relay_model.specs.declared.places.Place.{Place}
use Rattle.relay_model.specs.declared.commands.Config.{Config}
use Rattle.relay_model.specs.declared.commands.Dump.TheVariants as dumps
use Rattle.relay_model.specs.declared.acts.Act.{Act}
use Rattle.relay_model.specs.declared.acts.Why.{Why}
use Rattle.relay_model.specs.declared.acts.Why.TheVariants as whys
use Rattle.relay_model.specs.Choices.{only_if, first_some, earlier, later, some_below, least_below}
use Rattle.relay_model.specs.Configs.{has_fork, own_doors}
use Rattle.relay_model.specs.History.{now, turns, memory_said, stop_said, accept_failed}
use Rattle.relay_model.specs.Moments.{closing_moment, idle_moment, reached}
use Rattle.relay_model.specs.Sessions.{numbers}
use Rattle.relay_model.specs.Openings.{ready, out_of_tries}
use Rattle.relay_model.specs.declared.calls.Call.TheVariants.{Nothing}
use Rattle.relay_model.specs.Cause.{cause, closed_why, accept_failed_for, listening_failed, opening_failed, faulted, finished}
use Rattle.relay_model.specs.Calls.{door_call}
use Rattle.relay_model.specs.Outcome.{outcome, outcome_by, outcome_of_sessions, program_doors, failed_listening, holds_something}
use Rattle.relay_model.specs.declared.outcomes.RunOutcome.{RunOutcome}
use Rattle.relay_model.specs.declared.outcomes.RunOutcome.TheVariants.{Memory, Stopped, AcceptFailed}
use Rattle.relay_model.specs.Rest.{presses, accepts, session_work, session_moment, door_moment, try_moment, AcceptTried, SessionRests, DoorRests, Rest, until_of}
use Rattle.relay_model.specs.May.{Legal}
use Rattle.relay_laws.proofs.RestLemmas.{rest_of_parts}
use Rattle.relay_laws.proofs.RestLemmas.{silent as idles}
use Rattle.relay_session.specs.Endings.{Quiet}
use Rattle.relay_session.specs.Timers.{session_until}
use Rattle.relay_session.proofs.TimerLemmas.{earlier_none}
use Rattle.relay_session.proofs.Held.{numbers_alone, lives_not, next_holds, owes_nothing}

-- none of the events that end a session has come
pub record Going (c : Config) (past : List Act) (s : ℕ) : Type 0 where
  pub unclosed : closed_why c past s ≡ None
  pub remembered : memory_said past ≡ false
  pub unstopped : stop_said past ≡ false
  pub accepts : accept_failed_for c past s ≡ false
  pub listens : listening_failed c past s ≡ false
  pub opens : opening_failed c past s ≡ false
  pub faultless : faulted c past s ≡ false

going : (c : Config) (past : List Act) (s : ℕ) (k : Option Why) (m t a l o f fi cl id : Bool) →
    closed_why c past s ≡ k → memory_said past ≡ m → stop_said past ≡ t → accept_failed_for c past s ≡ a → listening_failed c past s ≡ l → opening_failed c past s ≡ o → faulted c past s ≡ f →
    first_some (k ∷ only_if m whys.Memory ∷ only_if t whys.Stopped ∷ only_if a whys.AcceptFailed ∷ only_if l whys.ListenFailed ∷ only_if o whys.OpenFailed ∷ only_if f whys.Faulted ∷ only_if fi whys.Finished ∷ only_if cl whys.ClosingTime ∷ only_if id whys.Idle ∷ []) ≡ None →
    Going c past s
going c past s (Some w) m t a l o f fi cl id ek em et ea el eo ef e = cc
going c past s None true t a l o f fi cl id ek em et ea el eo ef e = cc
going c past s None false true a l o f fi cl id ek em et ea el eo ef e = cc
going c past s None false false true l o f fi cl id ek em et ea el eo ef e = cc
going c past s None false false false true o f fi cl id ek em et ea el eo ef e = cc
going c past s None false false false false true f fi cl id ek em et ea el eo ef e = cc
going c past s None false false false false false true fi cl id ek em et ea el eo ef e = cc
going c past s None false false false false false false fi cl id ek em et ea el eo ef e = record { unclosed = ek; remembered = em; unstopped = et; accepts = ea; listens = el; opens = eo; faultless = ef }

pub going_of : (c : Config) (past : List Act) (s : ℕ) → cause c past s ≡ None → Going c past s
going_of c past s e =
    going c past s (closed_why c past s) (memory_said past) (stop_said past) (accept_failed_for c past s) (listening_failed c past s) (opening_failed c past s) (faulted c past s) (finished c past s) (ready c past s && reached (closing_moment c past s) (now past)) (ready c past s && reached (idle_moment c past s) (now past))
    refl refl refl refl refl refl refl e

-- where nothing has ended the session, nothing from outside has
pub quiet_of : (c : Config) (past : List Act) (s : ℕ) → cause c past s ≡ None → Quiet c past s
quiet_of c past s e = let g = going_of c past s e in record { unclosed = g.unclosed; remembered = g.remembered; unstopped = g.unstopped; accepts = g.accepts }

-- no door is out of tries
pub none_failed : (c : Config) (past : List Act) (ds : List Place) → list_any (out_of_tries c past) ds ≡ false → failed_listening c past ds ≡ None
none_failed c past [] e = refl
none_failed c past (d ∷ ds) e = let h = or_parts (out_of_tries c past d) (list_any (out_of_tries c past) ds) e in rw (h.0, none_failed c past ds h.1) refl

-- without `fork` the doors whose failures are the program's are the session's own
pub doors_alone : (c : Config) → has_fork c ≡ false → program_doors c ≡ own_doors c 0
doors_alone c alone = rw alone refl

pub accept_alone : (c : Config) (past : List Act) (s : ℕ) → has_fork c ≡ false → accept_failed_for c past s ≡ list_any (accept_failed past) (own_doors c s)
accept_alone c past s alone = rw alone refl

-- the outcome, as it is computed from its parts
abbrev pub outcome_from : Bool → Bool → Bool → ℕ → Bool → Option RunOutcome → Option RunOutcome → Option RunOutcome
outcome_from holds memory stop turns accepting listening other = cond holds None (first_some (only_if memory Memory ∷ only_if stop (Stopped turns) ∷ only_if accepting AcceptFailed ∷ listening ∷ other ∷ []))

pub outcome_alone : (c : Config) (past : List Act) → has_fork c ≡ false →
    outcome c past ≡ outcome_from (holds_something c past) (memory_said past) (stop_said past) (turns past) (accept_failed_for c past 0) (failed_listening c past (own_doors c 0)) (outcome_by c past (cause c past 0))
outcome_alone c past alone =
    let d = doors_alone c alone in
    let a = accept_alone c past 0 alone in
    (λ i. outcome_from (holds_something c past) (memory_said past) (stop_said past) (turns past) (list_any (accept_failed past) (d i)) (failed_listening c past (d i)) (cond (alone i) (outcome_of_sessions c past) (outcome_by c past (cause c past 0))))
    ∙ (λ i. outcome_from (holds_something c past) (memory_said past) (stop_said past) (turns past) (sym a i) (failed_listening c past (own_doors c 0)) (outcome_by c past (cause c past 0)))

nothing_yet : (h : Bool) (m s a : Bool) (t : ℕ) (l o : Option RunOutcome) → m ≡ false → s ≡ false → a ≡ false → l ≡ None → o ≡ None → outcome_from h m s t a l o ≡ None
nothing_yet true m s a t l o em es ea el eo = refl
nothing_yet false m s a t l o em es ea el eo = rw (em, es, ea, el, eo) refl

-- while nothing has ended the session there is no outcome
pub no_outcome : (c : Config) (past : List Act) → has_fork c ≡ false → cause c past 0 ≡ None → outcome c past ≡ None
no_outcome c past alone e =
    let g = going_of c past 0 e in
    outcome_alone c past alone
    ∙ nothing_yet (holds_something c past) (memory_said past) (stop_said past) (accept_failed_for c past 0) (turns past) (failed_listening c past (own_doors c 0)) (outcome_by c past (cause c past 0))
    g.remembered g.unstopped g.accepts (none_failed c past (own_doors c 0) g.listens) (ap (outcome_by c past) e)

-- ---- rest

pub door_silent : (c : Config) (past : List Act) → has_fork c ≡ false → door_call c past ≡ Nothing
door_silent c past alone = rw alone refl

never : (f d : Bool) → f ≡ false → (f && d) ≡ true → ⊥
never true d a e = false≢true (sym a)
never false d a e = false≢true e

door_rests : (c : Config) (past : List Act) → has_fork c ≡ false → DoorRests c past
door_rests c past alone =
    record {
      ended = λ e. absurd (never (has_fork c) _ alone e);
      no_call = ap presses (door_silent c past alone);
      accept_tried = subst (AcceptTried c past) (sym (door_silent c past alone)) tt;
    }

-- the whole rests where its session does
pub rest_of : (c : Config) (n : ℕ) (past : List Act) → has_fork c ≡ false → c.dump ≡ dumps.Off → Legal c n past → cause c past 0 ≡ None → SessionRests c past 0 → Rest c past
rest_of c n past alone silent legal e r =
    rest_of_parts c n past legal (no_outcome c past alone e) (owes_nothing c past silent) each (door_rests c past alone)
  where
    each : (s : ℕ) → s < suc (numbers c past) → SessionRests c past s
    each s h = go (cases_eq s 0)
      where
        go : (s ≡ 0) ⊎ (s ≡ 0 → ⊥) → SessionRests c past s
        go (inl z) = subst (SessionRests c past) (sym z) r
        go (inr other) =
            let k = numbers_alone c past alone in
            let one : s ≡ 1 = omega (arith, h, k, other) in
            subst (SessionRests c past) (sym one) (idles c past 1 (lives_not c past alone) (next_holds c n past alone legal))

-- ---- until when

first_of : (a b : Bool) → a ≡ false → ((a || (b || false)) ≡ b)
first_of true b e = absurd (false≢true (sym e))
first_of false true e = refl
first_of false false e = refl

-- of one session, work and moment are its own
one_session : (k : ℕ) (door : Bool) (moment : Option ℕ) (work : ℕ → Bool) (moments : ℕ → Option ℕ) (at : ℕ) → k ≡ 1 → door ≡ false → moment ≡ None →
    cond (door || some_below work k) (Some at) (earlier moment (least_below moments k)) ≡ cond (work 0) (Some at) (moments 0)
one_session k door moment work moments at e d m =
    (λ i. cond (d i || some_below work (e i)) (Some at) (earlier (m i) (least_below moments (e i))))
    ∙ (λ i. cond (first_of false (work 0) refl i) (Some at) (earlier_none (moments 0) i))

-- the whole waits until its session does
pub until_alone : (c : Config) (past : List Act) → has_fork c ≡ false → until_of c past ≡ session_until c past 0
until_alone c past alone =
    let d = door_silent c past alone in
    one_session (numbers c past) (accepts (door_call c past)) (door_moment c past) (session_work c past) (session_moment c past) (now past) (numbers_alone c past alone) (ap accepts d) (λ i. later (now past) (try_moment (d i)))
