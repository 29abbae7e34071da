-- A session ends as finished only where each formed direction has passed its end.
use Rattle.std.proofs.Common.{◌≡◌, refl, sym, ap, ◌∙◌, ℕ, Bool, true, false, not, cond, ◌&&◌, ◌||◌, is_some, List, [], ◌∷◌, Option, Some, None, inl, inr, ◌⊎◌}
use Rattle.std.proofs.lemmas.Bool.{false≢true, and_parts}
use Rattle.std.proofs.lemmas.Option.{same_Some}
use Rattle.relay_model.specs.declared.places.Way.{Way}
use Rattle.relay_model.specs.declared.places.Way.TheVariants.{LeftToRight, RightToLeft}
use Rattle.relay_model.specs.declared.places.Place.{Place}
use Rattle.relay_model.specs.declared.commands.Config.{Config}
use Rattle.relay_model.specs.declared.acts.Why.{Why}
use Rattle.relay_model.specs.declared.acts.Why.TheVariants as whys
use Rattle.relay_model.specs.declared.acts.Act.{Act}
use Rattle.relay_model.specs.declared.acts.Act.TheVariants.{Shut, ShutFault, Closed}
use Rattle.relay_model.specs.Places.{same_place}
use Rattle.relay_model.specs.Configs.{input, output, things, is_of, formed}
use Rattle.relay_model.specs.History.{now, got, put, stop_said, memory_said, shut_at}
use Rattle.relay_model.specs.Transfers.{due}
use Rattle.relay_model.specs.Moments.{passed, closing_moment, idle_moment, reached}
use Rattle.relay_model.specs.Openings.{ready}
use Rattle.relay_model.specs.Cause.{is_end, closed_why, accept_failed_for, listening_failed, opening_failed, faulted, finished, each_formed, cause}
use Rattle.relay_model.specs.May.{Legal, for_memory, for_stop, for_accept, Licensed, by_cause, by_refusal, by_service, by_door, by_memory, by_turns}
use Rattle.relay_laws.proofs.Apart.{cause_from}
use Rattle.relay_laws.proofs.OwnThings.{among_own, each_thing}
use Rattle.relay_laws.proofs.Written.{passed_whole}

-- the cause is that all was passed only by an earlier closing or since all was passed
finish_from : (closed : Option Why) (memory stop accepting listening opening fault finish closing idle : Bool) → cause_from closed memory stop accepting listening opening fault finish closing idle ≡ Some whys.Finished → (closed ≡ Some whys.Finished) ⊎ (finish ≡ true)
finish_from (Some why) m s a l o f d t i e = inl e
finish_from None true s a l o f d t i e = absurd (let x : ⊥ = cc in x)
finish_from None false true a l o f d t i e = absurd (let x : ⊥ = cc in x)
finish_from None false false true l o f d t i e = absurd (let x : ⊥ = cc in x)
finish_from None false false false true o f d t i e = absurd (let x : ⊥ = cc in x)
finish_from None false false false false true f d t i e = absurd (let x : ⊥ = cc in x)
finish_from None false false false false false true d t i e = absurd (let x : ⊥ = cc in x)
finish_from None false false false false false false true t i e = inr refl
finish_from None false false false false false false false true i e = absurd (let x : ⊥ = cc in x)
finish_from None false false false false false false false false true e = absurd (let x : ⊥ = cc in x)
finish_from None false false false false false false false false false e = absurd (let x : ⊥ = cc in x)

finish_of : (c : Config) (past : List Act) (s : ℕ) → cause c past s ≡ Some whys.Finished → (closed_why c past s ≡ Some whys.Finished) ⊎ (finished c past s ≡ true)
finish_of c past s e = finish_from (closed_why c past s) (memory_said past) (stop_said past) (accept_failed_for c past s) (listening_failed c past s) (opening_failed c past s) (faulted c past s) (finished c past s) (ready c past s && reached (closing_moment c past s) (now past)) (ready c past s && reached (idle_moment c past s) (now past)) e

-- a test that each formed direction passes
of_formed : (f x : Bool) → (not f || x) ≡ true → f ≡ true → x ≡ true
of_formed true x e t = e
of_formed false x e t = absurd (false≢true t)

each_passed : (c : Config) (test : Way → Bool) → each_formed c test ≡ true → (w : Way) → formed c w ≡ true → test w ≡ true
each_passed c test e LeftToRight f = of_formed (formed c LeftToRight) (test LeftToRight) (and_parts (not (formed c LeftToRight) || test LeftToRight) (not (formed c RightToLeft) || test RightToLeft) e).0 f
each_passed c test e RightToLeft f = of_formed (formed c RightToLeft) (test RightToLeft) (and_parts (not (formed c LeftToRight) || test LeftToRight) (not (formed c RightToLeft) || test RightToLeft) e).1 f

finished_passed : (c : Config) (past : List Act) (s : ℕ) → finished c past s ≡ true → (w : Way) → formed c w ≡ true → passed c past s w ≡ true
finished_passed c past s e w f = each_passed c (passed c past s) (and_parts (ready c past s) (each_formed c (passed c past s)) e).1 w f

-- an end that was passed stays passed
stays_some : (b : Bool) (m : ℕ) (o : Option ℕ) → is_some o ≡ true → is_some (cond b (Some m) o) ≡ true
stays_some true m o e = refl
stays_some false m o e = e

stays_passed : (c : Config) (act : Act) (past : List Act) (s : ℕ) (w : Way) → passed c past s w ≡ true → passed c (act ∷ past) s w ≡ true
stays_passed c (Shut q way) past s w e = stays_some (same_place q (output c s w)) (now past) (shut_at past (output c s w)) e
stays_passed c (ShutFault q way) past s w e = stays_some (same_place q (output c s w)) (now past) (shut_at past (output c s w)) e
stays_passed c act past s w e = e

-- a closing as finished is licensed by that cause alone
finish_licence : (c : Config) (n : ℕ) (past : List Act) (q : Place) (why : Why) → why ≡ whys.Finished → Licensed c n past q why → cause c past q.session ≡ Some whys.Finished
finish_licence c n past q why e (by_cause own k) = k ∙ ap Some e
finish_licence c n past q why e (by_refusal r k) = let x : whys.Finished ≡ whys.Refused = sym e ∙ r in absurd (let y : ⊥ = cc in y)
finish_licence c n past q why e (by_service r k) = let x : whys.Finished ≡ whys.Served = sym e ∙ r in absurd (let y : ⊥ = cc in y)
finish_licence c n past q why e (by_door d (for_memory r k)) = let x : whys.Finished ≡ whys.Memory = sym e ∙ r in absurd (let y : ⊥ = cc in y)
finish_licence c n past q why e (by_door d (for_stop r k)) = let x : whys.Finished ≡ whys.Stopped = sym e ∙ r in absurd (let y : ⊥ = cc in y)
finish_licence c n past q why e (by_door d (for_accept r k)) = let x : whys.Finished ≡ whys.AcceptFailed = sym e ∙ r in absurd (let y : ⊥ = cc in y)
finish_licence c n past q why e (by_memory r k) = let x : whys.Finished ≡ whys.Memory = sym e ∙ r in absurd (let y : ⊥ = cc in y)
finish_licence c n past q why e (by_turns r t k) = let x : whys.Finished ≡ whys.Stopped = sym e ∙ r in absurd (let y : ⊥ = cc in y)

closed_finished : (c : Config) (n : ℕ) (past : List Act) (s : ℕ) (w : Way) → Legal c n past → closed_why c past s ≡ Some whys.Finished → formed c w ≡ true → passed c past s w ≡ true
closed_finished c n [] s w legal e f = absurd (let x : ⊥ = cc in x)
closed_finished c n (Closed q why ∷ past) s w legal e f = go (is_of c s q && is_end q why) refl e (λ k. closed_finished c n past s w legal.1 k f)
  where
    go : (b : Bool) → (is_of c s q && is_end q why) ≡ b → cond b (Some why) (closed_why c past s) ≡ Some whys.Finished → (closed_why c past s ≡ Some whys.Finished → passed c past s w ≡ true) → passed c past s w ≡ true
    go true own k ih = split (finish_of c past s (ap (cause c past) (sym (among_own c s q (things c s) (each_thing c s) (and_parts (is_of c s q) (is_end q why) own).0).0) ∙ finish_licence c n past q why (same_Some why whys.Finished k) legal.0.licensed))
      where
        split : (closed_why c past s ≡ Some whys.Finished) ⊎ (finished c past s ≡ true) → passed c past s w ≡ true
        split (inl h) = ih h
        split (inr h) = finished_passed c past s h w f
    go false own k ih = ih k
closed_finished c n (act ∷ past) s w legal e f = stays_passed c act past s w (closed_finished c n past s w legal.1 e f)

pub finished_whole : (c : Config) (n : ℕ) (past : List Act) (s : ℕ) (w : Way) → Legal c n past → cause c past s ≡ Some whys.Finished → formed c w ≡ true → put past (output c s w) ≡ due c w (got past (input c s w))
finished_whole c n past s w legal e f = passed_whole c n past s w legal (split (finish_of c past s e))
  where
    split : (closed_why c past s ≡ Some whys.Finished) ⊎ (finished c past s ≡ true) → passed c past s w ≡ true
    split (inl h) = closed_finished c n past s w legal h f
    split (inr h) = finished_passed c past s h w f
