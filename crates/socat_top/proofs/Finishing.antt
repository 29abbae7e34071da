-- A session that was closed as finished has passed its end to the right, and so met the end of its left input.
use Rattle.std.proofs.Common.{◌≡◌, refl, sym, ap, subst, ◌∙◌, ℕ, Bool, true, false, cond, ◌&&◌, ◌||◌, ◌==◌, is_some, List, [], ◌∷◌, Option, Some, None, inl, inr, ◌⊎◌}
use Rattle.std.proofs.lemmas.Bool.{false≢true, and_from, and_parts, eq-eqb, or_cases, or_right, or_left, eqb-true}
use Rattle.std.proofs.lemmas.Option.{same_Some}
use Rattle.relay_model.specs.declared.places.Way.TheVariants.{LeftToRight, RightToLeft}
use Rattle.relay_model.specs.declared.places.Place.{Place}
use Rattle.relay_model.specs.declared.commands.Config.{Config}
use Rattle.relay_model.specs.declared.acts.Why.{Why}
use Rattle.relay_model.specs.declared.acts.Why.TheVariants as whys
use Rattle.relay_model.specs.declared.acts.Shut.{Shut as Shutting}
use Rattle.relay_model.specs.declared.acts.Act.{Act}
use Rattle.relay_model.specs.declared.acts.Act.TheVariants.{Shut, ShutFault, Closed, ReadEnd}
use Rattle.relay_model.specs.Choices.{first_some, only_if}
use Rattle.relay_model.specs.Places.{same_place}
use Rattle.relay_model.specs.Configs.{things, is_of}
use Rattle.relay_model.specs.History.{now, same_why, stop_said, memory_said, shut_at, met_end, met_empty}
use Rattle.relay_model.specs.Transfers.{over, backlog, is_spent}
use Rattle.relay_model.specs.Moments.{passed, closing_moment, idle_moment, reached}
use Rattle.relay_model.specs.Openings.{ready}
use Rattle.relay_model.specs.Cause.{is_end, closed_why, accept_failed_for, listening_failed, opening_failed, faulted, finished, each_formed, cause}
use Rattle.relay_model.specs.May.{MayShut, Legal, for_memory, for_stop, for_accept, Licensed, by_cause, by_refusal, by_service, by_door, by_memory, by_turns}
use Rattle.relay_laws.proofs.OwnThings.{among_own, each_thing}
use Rattle.relay_laws.proofs.Permitted.{shuts_when_spent}
use Rattle.relay_laws.proofs.PlaceLemmas.{same_place_equal}
use Rattle.socat_top.specs.Command.{load_command}
use Rattle.socat_top.specs.Scripts.{left_place, right_place}
use Rattle.socat_top.specs.Sums.{finishes, was_finished}

-- ---- the cause

abbrev cause_from : Option Why → Bool → Bool → Bool → Bool → Bool → Bool → Bool → Bool → Bool → Option Why
cause_from closed memory stop accepting listening opening fault finish closing idle =
    first_some (closed
    ∷ only_if memory whys.Memory
    ∷ only_if stop whys.Stopped
    ∷ only_if accepting whys.AcceptFailed
    ∷ only_if listening whys.ListenFailed
    ∷ only_if opening whys.OpenFailed
    ∷ only_if fault whys.Faulted
    ∷ only_if finish whys.Finished
    ∷ only_if closing whys.ClosingTime
    ∷ only_if idle whys.Idle
    ∷ [])

finish_from : (closed : Option Why) (memory stop accepting listening opening fault finish closing idle : Bool) → cause_from closed memory stop accepting listening opening fault finish closing idle ≡ Some whys.Finished → (closed ≡ Some whys.Finished) ⊎ (finish ≡ true)
finish_from (Some why) m s a l o f d t i e = inl e
finish_from None true s a l o f d t i e = absurd (let x : ⊥ = cc in x)
finish_from None false true a l o f d t i e = absurd (let x : ⊥ = cc in x)
finish_from None false false true l o f d t i e = absurd (let x : ⊥ = cc in x)
finish_from None false false false true o f d t i e = absurd (let x : ⊥ = cc in x)
finish_from None false false false false true f d t i e = absurd (let x : ⊥ = cc in x)
finish_from None false false false false false true d t i e = absurd (let x : ⊥ = cc in x)
finish_from None false false false false false false true t i e = inr refl
finish_from None false false false false false false false true i e = absurd (let x : ⊥ = cc in x)
finish_from None false false false false false false false false true e = absurd (let x : ⊥ = cc in x)
finish_from None false false false false false false false false false e = absurd (let x : ⊥ = cc in x)

-- the cause is that all was passed only by an earlier closing or since all was passed
finish_of : (c : Config) (past : List Act) (s : ℕ) → cause c past s ≡ Some whys.Finished → (closed_why c past s ≡ Some whys.Finished) ⊎ (finished c past s ≡ true)
finish_of c past s e = finish_from (closed_why c past s) (memory_said past) (stop_said past) (accept_failed_for c past s) (listening_failed c past s) (opening_failed c past s) (faulted c past s) (finished c past s) (ready c past s && reached (closing_moment c past s) (now past)) (ready c past s && reached (idle_moment c past s) (now past)) e

-- a closing as finished is licensed by that cause alone
finish_licence : (c : Config) (n : ℕ) (past : List Act) (q : Place) (why : Why) → why ≡ whys.Finished → Licensed c n past q why → cause c past q.session ≡ Some whys.Finished
finish_licence c n past q why e (by_cause own k) = k ∙ ap Some e
finish_licence c n past q why e (by_refusal r k) = let x : whys.Finished ≡ whys.Refused = sym e ∙ r in absurd (let y : ⊥ = cc in y)
finish_licence c n past q why e (by_service r k) = let x : whys.Finished ≡ whys.Served = sym e ∙ r in absurd (let y : ⊥ = cc in y)
finish_licence c n past q why e (by_door d (for_memory r k)) = let x : whys.Finished ≡ whys.Memory = sym e ∙ r in absurd (let y : ⊥ = cc in y)
finish_licence c n past q why e (by_door d (for_stop r k)) = let x : whys.Finished ≡ whys.Stopped = sym e ∙ r in absurd (let y : ⊥ = cc in y)
finish_licence c n past q why e (by_door d (for_accept r k)) = let x : whys.Finished ≡ whys.AcceptFailed = sym e ∙ r in absurd (let y : ⊥ = cc in y)
finish_licence c n past q why e (by_memory r k) = let x : whys.Finished ≡ whys.Memory = sym e ∙ r in absurd (let y : ⊥ = cc in y)
finish_licence c n past q why e (by_turns r t k) = let x : whys.Finished ≡ whys.Stopped = sym e ∙ r in absurd (let y : ⊥ = cc in y)

-- ---- the passed end

-- a session of this command that has finished has passed its end to the right
finished_passed : (past : List Act) (s : ℕ) → finished load_command past s ≡ true → passed load_command past s LeftToRight ≡ true
finished_passed past s e =
    (and_parts (passed load_command past s LeftToRight) (passed load_command past s RightToLeft) (and_parts (ready load_command past s) (each_formed load_command (passed load_command past s)) e).1).0

-- an end that was passed stays passed
stays_some : (b : Bool) (m : ℕ) (o : Option ℕ) → is_some o ≡ true → is_some (cond b (Some m) o) ≡ true
stays_some true m o e = refl
stays_some false m o e = e

stays_passed : (act : Act) (past : List Act) (s : ℕ) → passed load_command past s LeftToRight ≡ true → passed load_command (act ∷ past) s LeftToRight ≡ true
stays_passed (Shut q way) past s e = stays_some (same_place q (right_place s)) (now past) (shut_at past (right_place s)) e
stays_passed (ShutFault q way) past s e = stays_some (same_place q (right_place s)) (now past) (shut_at past (right_place s)) e
stays_passed act past s e = e

same_finished : (why : Why) → same_why why whys.Finished ≡ true → why ≡ whys.Finished
same_finished whys.Finished e = refl
same_finished why e = absurd (false≢true e)

-- what was closed for that reason was closed as finished
closed_was : (past : List Act) (s : ℕ) → closed_why load_command past s ≡ Some whys.Finished → was_finished past s ≡ true
closed_was [] s e = absurd (let x : ⊥ = cc in x)
closed_was (Closed q why ∷ past) s e = go (is_of load_command s q && is_end q why) refl e (λ k. or_right (finishes (Closed q why) s) (was_finished past s) (closed_was past s k))
  where
    go : (b : Bool) → (is_of load_command s q && is_end q why) ≡ b → cond b (Some why) (closed_why load_command past s) ≡ Some whys.Finished → (closed_why load_command past s ≡ Some whys.Finished → was_finished (Closed q why ∷ past) s ≡ true) → was_finished (Closed q why ∷ past) s ≡ true
    go true own k ih =
        or_left (finishes (Closed q why) s) (was_finished past s)
        (and_from (same_why why whys.Finished) (q.session == s) (ap (λ w. same_why w whys.Finished) (same_Some why whys.Finished k)) (eq-eqb q.session s (among_own load_command s q (things load_command s) (each_thing load_command s) (and_parts (is_of load_command s q) (is_end q why) own).0).0))
    go false own k ih = ih k
closed_was (act ∷ past) s e = or_right (finishes act s) (was_finished past s) (closed_was past s e)

pub finished-passed : (n : ℕ) (acts : List Act) (s : ℕ) → Legal load_command n acts → was_finished acts s ≡ true → passed load_command acts s LeftToRight ≡ true
finished-passed n [] s legal e = absurd (false≢true e)
finished-passed n (Closed q why ∷ past) s legal e = go (or_cases (finishes (Closed q why) s) (was_finished past s) e) (finished-passed n past s legal.1)
  where
    by_cause_of : cause load_command past s ≡ Some whys.Finished → (was_finished past s ≡ true → passed load_command past s LeftToRight ≡ true) → passed load_command past s LeftToRight ≡ true
    by_cause_of k ih = split (finish_of load_command past s k)
      where
        split : (closed_why load_command past s ≡ Some whys.Finished) ⊎ (finished load_command past s ≡ true) → passed load_command past s LeftToRight ≡ true
        split (inl h) = ih (closed_was past s h)
        split (inr h) = finished_passed past s h

    go : (finishes (Closed q why) s ≡ true) ⊎ (was_finished past s ≡ true) → (was_finished past s ≡ true → passed load_command past s LeftToRight ≡ true) → passed load_command past s LeftToRight ≡ true
    go (inl f) ih =
        let parts = and_parts (same_why why whys.Finished) (q.session == s) f in
        by_cause_of (ap (cause load_command past) (sym (eqb-true q.session s parts.1)) ∙ finish_licence load_command n past q why (same_finished why parts.0) legal.0.licensed) ih
    go (inr h) ih = ih h
finished-passed n (act ∷ past) s legal e = stays_passed act past s (finished-passed n past s legal.1 e)

-- ---- the end of the input

met_over : (met empty : Bool) → ((met && true) || (empty && false) || false) ≡ true → met ≡ true
met_over true empty e = refl
met_over false true e = absurd (false≢true e)
met_over false false e = absurd (false≢true e)

spent-met : (past : List Act) (s : ℕ) → is_spent load_command past s LeftToRight ≡ true → met_end past (left_place s) ≡ true
spent-met past s e = met_over (met_end past (left_place s)) (met_empty past (left_place s)) (and_parts (over load_command past (left_place s)) (backlog load_command past s LeftToRight == 0) e).0

shut_met : (past : List Act) (s : ℕ) (q : Place) (way : Shutting) → MayShut load_command past q way → same_place q (right_place s) ≡ true → met_end past (left_place s) ≡ true
shut_met past s q way may same =
    let P : Place → Type 0 = λ p. MayShut load_command past p way in
    spent-met past s (shuts_when_spent load_command past s LeftToRight way (subst P (same_place_equal q (right_place s) same) may))

-- once the end to the right was passed, the left input has ended
pub passed-met : (n : ℕ) (acts : List Act) (s : ℕ) → Legal load_command n acts → passed load_command acts s LeftToRight ≡ true → met_end acts (left_place s) ≡ true
passed-met n [] s legal e = absurd (false≢true e)
passed-met n (Shut q way ∷ past) s legal e = go (same_place q (right_place s)) refl e (passed-met n past s legal.1)
  where
    go : (b : Bool) → same_place q (right_place s) ≡ b → is_some (cond b (Some (now past)) (shut_at past (right_place s))) ≡ true → (passed load_command past s LeftToRight ≡ true → met_end past (left_place s) ≡ true) → met_end past (left_place s) ≡ true
    go true same f ih = shut_met past s q way legal.0.1 same
    go false same f ih = ih f
passed-met n (ShutFault q way ∷ past) s legal e = go (same_place q (right_place s)) refl e (passed-met n past s legal.1)
  where
    go : (b : Bool) → same_place q (right_place s) ≡ b → is_some (cond b (Some (now past)) (shut_at past (right_place s))) ≡ true → (passed load_command past s LeftToRight ≡ true → met_end past (left_place s) ≡ true) → met_end past (left_place s) ≡ true
    go true same f ih = shut_met past s q way legal.0.1 same
    go false same f ih = ih f
passed-met n (ReadEnd q ∷ past) s legal e = or_right (same_place q (left_place s)) (met_end past (left_place s)) (passed-met n past s legal.1 e)
passed-met n (act ∷ past) s legal e = passed-met n past s legal.1 e
