-- A session that stops was told so by a turn, or the turns are used up.
use Rattle.std.proofs.Common.{◌≡◌, refl, sym, ap, ◌∙◌, ℕ, Bool, true, false, cond, ◌&&◌, ◌||◌, List, [], ◌∷◌, Option, Some, None, unwrap_or, arith, inl, inr, ◌⊎◌}
use Rattle.std.proofs.lemmas.Bool.{false≢true, or_cases, or_right}
use Rattle.relay_model.specs.declared.places.Place.{Place}
use Rattle.relay_model.specs.declared.commands.Config.{Config}
use Rattle.relay_model.specs.declared.acts.Act.{Act}
use Rattle.relay_model.specs.declared.acts.Act.TheVariants.{Turn, Closed}
use Rattle.relay_model.specs.declared.acts.Why.{Why}
use Rattle.relay_model.specs.declared.acts.Why.TheVariants as whys
use Rattle.relay_model.specs.Choices.{only_if, first_some}
use Rattle.relay_model.specs.Configs.{has_fork, is_of}
use Rattle.relay_model.specs.History.{now, turns, memory_said, stop_said, same_why}
use Rattle.relay_model.specs.Moments.{closing_moment, idle_moment, reached}
use Rattle.relay_model.specs.Openings.{ready}
use Rattle.relay_model.specs.Cause.{cause, closed_why, is_end, accept_failed_for, listening_failed, opening_failed, faulted, finished}
use Rattle.relay_model.specs.May.{Legal, Licensed, by_cause, by_refusal, by_service, by_door, by_memory, by_turns}
use Rattle.relay_session.specs.Told.{stop_turned}
use Rattle.relay_session.proofs.Causes.{no_program_door}

-- a session stops by an earlier closing, or because a stop was said
by_stop : (k : Option Why) (m t a l o f fi cl id : Bool) →
    first_some (k ∷ only_if m whys.Memory ∷ only_if t whys.Stopped ∷ only_if a whys.AcceptFailed ∷ only_if l whys.ListenFailed ∷ only_if o whys.OpenFailed ∷ only_if f whys.Faulted ∷ only_if fi whys.Finished ∷ only_if cl whys.ClosingTime ∷ only_if id whys.Idle ∷ []) ≡ Some whys.Stopped →
    (k ≡ Some whys.Stopped) ⊎ (t ≡ true)
by_stop (Some why) m t a l o f fi cl id e = inl e
by_stop None true t a l o f fi cl id e = cc
by_stop None false true a l o f fi cl id e = inr refl
by_stop None false false true l o f fi cl id e = cc
by_stop None false false false true o f fi cl id e = cc
by_stop None false false false false true f fi cl id e = cc
by_stop None false false false false false true fi cl id e = cc
by_stop None false false false false false false true cl id e = cc
by_stop None false false false false false false false true id e = cc
by_stop None false false false false false false false false true e = cc
by_stop None false false false false false false false false false e = cc

stopping : (why : Why) → Some why ≡ Some whys.Stopped → why ≡ whys.Stopped
stopping why e = ap (λ o. unwrap_or o whys.Stopped) e

closed_said : (c : Config) (past : List Act) (s : ℕ) → closed_why c past s ≡ Some whys.Stopped → stop_said past ≡ true
closed_said c [] s e = cc
closed_said c (Closed q why ∷ past) s e = go (is_of c s q && is_end q why) e (closed_said c past s)
  where
    go : (b : Bool) → cond b (Some why) (closed_why c past s) ≡ Some whys.Stopped → (closed_why c past s ≡ Some whys.Stopped → stop_said past ≡ true) → (same_why why whys.Stopped || stop_said past) ≡ true
    go true f ih = rw (stopping why f) refl
    go false f ih = or_right (same_why why whys.Stopped) (stop_said past) (ih f)
closed_said c (Turn until at ready stop ∷ past) s e = or_right stop (stop_said past) (closed_said c past s e)
closed_said c (act ∷ past) s e = closed_said c past s e

-- where a session stops, a stop was said
cause_said : (c : Config) (past : List Act) (s : ℕ) → cause c past s ≡ Some whys.Stopped → stop_said past ≡ true
cause_said c past s e =
    go (by_stop (closed_why c past s) (memory_said past) (stop_said past) (accept_failed_for c past s) (listening_failed c past s) (opening_failed c past s) (faulted c past s) (finished c past s) (ready c past s && reached (closing_moment c past s) (now past)) (ready c past s && reached (idle_moment c past s) (now past)) e)
  where
    go : (closed_why c past s ≡ Some whys.Stopped) ⊎ (stop_said past ≡ true) → stop_said past ≡ true
    go (inl f) = closed_said c past s f
    go (inr f) = f

why_stops : (why : Why) → same_why why whys.Stopped ≡ true → why ≡ whys.Stopped
why_stops whys.Stopped e = refl
why_stops why e = absurd (false≢true e)

refused_not : whys.Stopped ≡ whys.Refused → ⊥
refused_not e = cc

served_not : whys.Stopped ≡ whys.Served → ⊥
served_not e = cc

memory_not : whys.Stopped ≡ whys.Memory → ⊥
memory_not e = cc

-- a closing for a stop comes after one that was said, or at the last turn
closing_said : (c : Config) (n : ℕ) (past : List Act) (q : Place) (why : Why) → has_fork c ≡ false → why ≡ whys.Stopped → Licensed c n past q why → (stop_said past ≡ true) ⊎ (turns past ≡ n)
closing_said c n past q why alone e (by_cause d h) = inl (cause_said c past q.session (h ∙ ap (λ w. Some w) e))
closing_said c n past q why alone e (by_refusal w k) = absurd (refused_not (sym e ∙ w))
closing_said c n past q why alone e (by_service w k) = absurd (served_not (sym e ∙ w))
closing_said c n past q why alone e (by_door d h) = absurd (false≢true (sym (no_program_door c q alone) ∙ d))
closing_said c n past q why alone e (by_memory w h) = absurd (memory_not (sym e ∙ w))
closing_said c n past q why alone e (by_turns w t r) = inr t

carried : (n : ℕ) (past : List Act) → (stop_said past ≡ true → (stop_turned past ≡ true) ⊎ (turns past ≡ n)) → (stop_said past ≡ true) ⊎ (turns past ≡ n) → (stop_turned past ≡ true) ⊎ (turns past ≡ n)
carried n past ih (inl said) = ih said
carried n past ih (inr last) = inr last

-- a stop that was said is a turn's, or that of the last turn
said_is_told : (c : Config) (n : ℕ) (past : List Act) → has_fork c ≡ false → Legal c n past → stop_said past ≡ true → (stop_turned past ≡ true) ⊎ (turns past ≡ n)
said_is_told c n [] alone legal e = absurd (false≢true e)
said_is_told c n (Turn until at ready true ∷ past) alone legal e = inl refl
said_is_told c n (Turn until at ready false ∷ past) alone legal e = go (said_is_told c n past alone legal.1 e)
  where
    go : (stop_turned past ≡ true) ⊎ (turns past ≡ n) → (stop_turned (Turn until at ready false ∷ past) ≡ true) ⊎ (turns (Turn until at ready false ∷ past) ≡ n)
    go (inl h) = inl h
    go (inr h) = let left = legal.0.1.turns_left in absurd (omega (arith, left, h))
said_is_told c n (Closed q why ∷ past) alone legal e = go (or_cases (same_why why whys.Stopped) (stop_said past) e) (said_is_told c n past alone legal.1)
  where
    go : (same_why why whys.Stopped ≡ true) ⊎ (stop_said past ≡ true) → (stop_said past ≡ true → (stop_turned past ≡ true) ⊎ (turns past ≡ n)) → (stop_turned past ≡ true) ⊎ (turns past ≡ n)
    go (inr h) ih = ih h
    go (inl h) ih = carried n past ih (closing_said c n past q why alone (why_stops why h) legal.0.licensed)
said_is_told c n (act ∷ past) alone legal e = said_is_told c n past alone legal.1 e

-- why a session stops
pub stop_told : (c : Config) (n : ℕ) (past : List Act) → has_fork c ≡ false → Legal c n past → cause c past 0 ≡ Some whys.Stopped → (stop_turned past ≡ true) ⊎ (turns past ≡ n)
stop_told c n past alone legal e = said_is_told c n past alone legal (cause_said c past 0 e)
