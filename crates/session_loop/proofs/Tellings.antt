-- What a session that is done can tell: what failed is known, and it didn't end for a refused peer.
use Rattle.std.proofs.Common.{◌≡◌, ◌⊎◌, refl, sym, ap, subst, ◌∙◌, inl, inr, ℕ, Bool, true, false, cond, ◌&&◌, List, [], ◌∷◌, Option, Some, None, is_some, is_none}
use Rattle.std.proofs.lemmas.Bool.{false≢true, and_parts}
use Rattle.relay_model.specs.declared.places.Place.{Place}
use Rattle.relay_model.specs.declared.places.Way.{Way}
use Rattle.relay_model.specs.declared.commands.Config.{Config}
use Rattle.relay_model.specs.declared.acts.Act.{Act}
use Rattle.relay_model.specs.declared.acts.Act.TheVariants.{ReadFault, WriteFault, Closed}
use Rattle.relay_model.specs.declared.acts.Why.{Why}
use Rattle.relay_model.specs.declared.acts.Why.TheVariants as whys
use Rattle.relay_model.specs.Choices.{only_if, or_else, first_some}
use Rattle.relay_model.specs.Configs.{places, own_doors, has_fork, is_of, is_place_of, input, output, way_from, way_to}
use Rattle.relay_model.specs.History.{now, memory_said, stop_said}
use Rattle.relay_model.specs.Moments.{closing_moment, idle_moment, reached}
use Rattle.relay_model.specs.Sessions.{live}
use Rattle.relay_model.specs.Openings.{ready}
use Rattle.relay_model.specs.Cause.{cause, closed_why, is_end, accept_failed_for, listening_failed, opening_failed, faulted, finished}
use Rattle.relay_model.specs.Rest.{is_going}
use Rattle.relay_model.specs.declared.outcomes.RunOutcome.{RunOutcome}
use Rattle.relay_model.specs.Outcome.{first_fault, failed_listening, failed_opening}
use Rattle.relay_model.specs.May.{Legal, MayAsk, MayOffer}
use Rattle.relay_laws.proofs.PlaceLemmas.{same_place_equal}
use Rattle.relay_laws.proofs.Holdings.{moves_formed, moves_running}
use Rattle.place_openings.specs.declared.given_up.GivenUp.{GivenUp}
use Rattle.relay_session.specs.Blames.{is_blamed_for}
use Rattle.relay_session.specs.Endings.{Ends}
use Rattle.session_laws.specs.OneSession.{FailureIsBlamed}
use Rattle.relay_session.specs.States.{IsDone}
use Rattle.relay_session.specs.Told.{told_listening, told_opening}
use Rattle.relay_session.proofs.Ended.{failed_door, failed_place, failed_to_listen, failed_to_open}
use Rattle.relay_session.proofs.Held.{lives_alone}
use Rattle.relay_session.proofs.StepLemmas.{input_own, output_own}
use Rattle.session_loop.specs.declared.faults.Fault.{Fault}
use Rattle.session_loop.specs.Answers.{told_fault, faulted as faulted_by, unlistened, unopened, outcome_for}

-- ---- no session ends for a refused peer

by_refused : (k : Option Why) (m t a l o f fi cl id : Bool) →
    first_some (k ∷ only_if m whys.Memory ∷ only_if t whys.Stopped ∷ only_if a whys.AcceptFailed ∷ only_if l whys.ListenFailed ∷ only_if o whys.OpenFailed ∷ only_if f whys.Faulted ∷ only_if fi whys.Finished ∷ only_if cl whys.ClosingTime ∷ only_if id whys.Idle ∷ []) ≡ Some whys.Refused →
    k ≡ Some whys.Refused
by_refused (Some why) m t a l o f fi cl id e = e
by_refused None true t a l o f fi cl id e = cc
by_refused None false true a l o f fi cl id e = cc
by_refused None false false true l o f fi cl id e = cc
by_refused None false false false true o f fi cl id e = cc
by_refused None false false false false true f fi cl id e = cc
by_refused None false false false false false true fi cl id e = cc
by_refused None false false false false false false true cl id e = cc
by_refused None false false false false false false false true id e = cc
by_refused None false false false false false false false false true e = cc
by_refused None false false false false false false false false false e = cc

unclosed : (c : Config) (past : List Act) (s : ℕ) → closed_why c past s ≡ Some whys.Refused → ⊥
unclosed c [] s e = cc
unclosed c (Closed q why ∷ past) s e = go (is_of c s q && is_end q why) refl e (unclosed c past s)
  where
    go : (b : Bool) → (is_of c s q && is_end q why) ≡ b → cond b (Some why) (closed_why c past s) ≡ Some whys.Refused → (closed_why c past s ≡ Some whys.Refused → ⊥) → ⊥
    go true h f ih = let k : why ≡ whys.Refused = cc in false≢true (subst (λ w. is_end q w ≡ true) k (and_parts (is_of c s q) (is_end q why) h).1)
    go false h f ih = ih f
unclosed c (act ∷ past) s e = unclosed c past s e

unrefused : (c : Config) (past : List Act) (s : ℕ) → cause c past s ≡ Some whys.Refused → ⊥
unrefused c past s e =
    unclosed c past s (by_refused (closed_why c past s) (memory_said past) (stop_said past) (accept_failed_for c past s) (listening_failed c past s) (opening_failed c past s) (faulted c past s) (finished c past s) (ready c past s && reached (closing_moment c past s) (now past)) (ready c past s && reached (idle_moment c past s) (now past)) e)

-- ---- the first fault

moves_alone : (c : Config) (past : List Act) (s : ℕ) (w : Way) → has_fork c ≡ false → is_going c past s w ≡ true → s ≡ 0
moves_alone c past s w alone m =
    let r = and_parts (live c past s && ready c past s) (is_none (cause c past s)) (moves_running c past s w m) in
    lives_alone c past s alone (and_parts (live c past s) (ready c past s) r.0).0

read_own : (c : Config) (past : List Act) (p : Place) → has_fork c ≡ false → MayAsk c past p → is_place_of c 0 p ≡ true
read_own c past p alone may =
    let w = way_from p.side in
    let own = moves_alone c past p.session w alone may.moving in
    let e = same_place_equal p (input c p.session w) may.is_input in
    subst (λ q. is_place_of c 0 q ≡ true) (sym (e ∙ ap (λ s. input c s w) own)) (input_own c 0 w (moves_formed c past p.session w may.moving))

write_own : (c : Config) (past : List Act) (p : Place) → has_fork c ≡ false → MayOffer c past p → is_place_of c 0 p ≡ true
write_own c past p alone may =
    let w = way_to p.side in
    let own = moves_alone c past p.session w alone may.moving in
    let e = same_place_equal p (output c p.session w) may.is_output in
    subst (λ q. is_place_of c 0 q ≡ true) (sym (e ∙ ap (λ s. output c s w) own)) (output_own c 0 w (moves_formed c past p.session w may.moving))

or_some : {T : Type 0} (o : Option T) (b : Bool) (x : T) → b ≡ true → is_some (or_else o (only_if b x)) ≡ true
or_some None true x e = refl
or_some None false x e = absurd (false≢true e)
or_some (Some y) b x e = refl

-- a fault that is to blame is told
blamed_first : (c : Config) (n : ℕ) (past : List Act) → has_fork c ≡ false → Legal c n past → is_blamed_for whys.Faulted past ≡ true → is_some (first_fault c past 0) ≡ true
blamed_first c n [] alone legal e = absurd (false≢true e)
blamed_first c n (ReadFault q ∷ past) alone legal e = or_some (first_fault c past 0) (is_place_of c 0 q) _ (read_own c past q alone legal.0.1.asks)
blamed_first c n (WriteFault q ∷ past) alone legal e = or_some (first_fault c past 0) (is_place_of c 0 q) _ (write_own c past q alone legal.0.1.offers)
blamed_first c n (act ∷ past) alone legal e = blamed_first c n past alone legal.1 e

-- ---- what is told

some_listening : (listening : Option ℕ) (found : Option RunOutcome) → told_listening listening ≡ found → is_some found ≡ true → is_some (unlistened listening) ≡ true
some_listening None found e h = absurd (false≢true (ap is_some e ∙ h))
some_listening (Some attempts) found e h = refl

some_opening : (opening : Option GivenUp) (found : Option RunOutcome) → told_opening opening ≡ found → is_some found ≡ true → is_some (unopened opening) ≡ true
some_opening None found e h = absurd (false≢true (ap is_some e ∙ h))
some_opening (Some given_up) found e h = refl

some_fault : (fault : Option Fault) (found : Option RunOutcome) → told_fault fault ≡ found → is_some found ≡ true → is_some (faulted_by fault) ≡ true
some_fault None found e h = absurd (false≢true (ap is_some e ∙ h))
some_fault (Some fault) found e h = refl

caused : (c : Config) (n : ℕ) (past : List Act) (why : Why) (listening : Option ℕ) (opening : Option GivenUp) (fault : Option Fault) (made : ℕ) → has_fork c ≡ false → FailureIsBlamed → Legal c n past → cause c past 0 ≡ Some why → told_listening listening ≡ failed_listening c past (own_doors c 0) → told_opening opening ≡ failed_opening c past (places c 0) → told_fault fault ≡ first_fault c past 0 → is_some (outcome_for why listening opening fault made) ≡ true
caused c n past whys.ListenFailed listening opening fault made alone blamed legal e listened opened faulted =
    some_listening listening (failed_listening c past (own_doors c 0)) listened (ap is_some (failed_door c past (own_doors c 0) (failed_to_listen c n past alone legal e)))
caused c n past whys.OpenFailed listening opening fault made alone blamed legal e listened opened faulted =
    some_opening opening (failed_opening c past (places c 0)) opened (ap is_some (failed_place c past (places c 0) (failed_to_open c n past alone legal e)))
caused c n past whys.Faulted listening opening fault made alone blamed legal e listened opened faulted =
    some_fault fault (first_fault c past 0) faulted (blamed_first c n past alone legal (blamed c n past whys.Faulted alone legal refl e))
caused c n past whys.Refused listening opening fault made alone blamed legal e listened opened faulted = absurd (unrefused c past 0 e)
caused c n past whys.Memory listening opening fault made alone blamed legal e listened opened faulted = refl
caused c n past whys.Stopped listening opening fault made alone blamed legal e listened opened faulted = refl
caused c n past whys.AcceptFailed listening opening fault made alone blamed legal e listened opened faulted = refl
caused c n past whys.Finished listening opening fault made alone blamed legal e listened opened faulted = refl
caused c n past whys.ClosingTime listening opening fault made alone blamed legal e listened opened faulted = refl
caused c n past whys.Idle listening opening fault made alone blamed legal e listened opened faulted = refl
caused c n past whys.Served listening opening fault made alone blamed legal e listened opened faulted = refl

-- whatever a session is done for, there is an answer
pub can_tell : (c : Config) (n : ℕ) (past : List Act) (why : Why) (listening : Option ℕ) (opening : Option GivenUp) (fault : Option Fault) (made : ℕ) → has_fork c ≡ false → FailureIsBlamed → Legal c n past → IsDone c n past 0 why → told_listening listening ≡ failed_listening c past (own_doors c 0) → told_opening opening ≡ failed_opening c past (places c 0) → told_fault fault ≡ first_fault c past 0 → is_some (outcome_for why listening opening fault made) ≡ true
can_tell c n past why listening opening fault made alone blamed legal done listened opened faulted = go done.ends
  where
    go : Ends c n past 0 why → is_some (outcome_for why listening opening fault made) ≡ true
    go (inl e) = caused c n past why listening opening fault made alone blamed legal e listened opened faulted
    go (inr (inl e)) = ap (λ (w : Why). is_some (outcome_for w listening opening fault made)) e.0
    go (inr (inr e)) = ap (λ (w : Why). is_some (outcome_for w listening opening fault made)) e.0
