-- What is worked out of the openings of a session, and what leaves it as it is.
use Rattle.std.proofs.Common.{◌≡◌, Bool, true, false, if◌then◌else◌, List, [], ◌∷◌, Some, is_none, refl, sym, subst, ◌∙◌}
use Rattle.std.proofs.lemmas.Bool.{false≢true}
use Rattle.relay_model.specs.declared.places.Place.{Place}
use Rattle.relay_model.specs.declared.commands.Config.{Config}
use Rattle.relay_model.specs.declared.acts.Act.{Act}
use Rattle.relay_model.specs.Configs.{places, options_of}
use Rattle.relay_model.specs.History.{failures}
use Rattle.retry_plan.specs.Plans.{PlanIs}
use Rattle.place_openings.specs.declared.one_place.Opening.{Opening}
use Rattle.place_openings.specs.Stands.{IsTried, Each, EachTried, tried_at}
use Rattle.place_openings.specs.Queries.{ready_by, first_unready}
use Rattle.place_openings.specs.Moves.{Alike, TookEach, is_still}
use Rattle.place_openings.specs.Summaries.{Sums}
use Rattle.place_openings.specs.declared.steps.OpeningStep.{OpeningStep}
use Rattle.place_openings.specs.declared.summaries.OpeningSummary.{OpeningSummary}

pub each_tried : (c : Config) (past : List Act) (ps : List Place) (os : List Opening) → Each c past ps os → EachTried c past ps os
each_tried c past [] [] each = tt
each_tried c past [] (o ∷ os) each = absurd each
each_tried c past (p ∷ ps) [] each = absurd each
each_tried c past (p ∷ ps) (o ∷ os) each =
    let i = each.0 in
    (record { listens_is = i.listens_is; has_door_is = i.has_door_is; tries_are = i.tries_are; untried = i.untried }, each_tried c past ps os each.1)

-- ---- a step that moves no stage

tried_before : (c : Config) (past : List Act) (p : Place) (o n : Opening) → Alike o n → IsTried c past p n → IsTried c past p o
tried_before c past p o n same i =
    record {
      listens_is = sym same.listens_is ∙ i.listens_is;
      has_door_is = sym same.has_door_is ∙ i.has_door_is;
      tries_are = subst (λ d. PlanIs (options_of c p).tries.retry (options_of c p).tries.forever (options_of c p).tries.interval (failures past (tried_at d p)) o.plan) same.has_door_is (subst (PlanIs (options_of c p).tries.retry (options_of c p).tries.forever (options_of c p).tries.interval (failures past (tried_at n.has_door p))) same.plan_is i.tries_are);
      untried = λ listens. i.untried (same.listens_is ∙ listens);
    }

each_before : (step : OpeningStep) (os ns : List Opening) (c : Config) (past : List Act) (ps : List Place) → TookEach step os ns → is_still step ≡ true → EachTried c past ps ns → EachTried c past ps os
each_before step [] [] c past ps took still each = each
each_before step [] (n ∷ ns) c past ps took still each = absurd took
each_before step (o ∷ os) [] c past ps took still each = absurd took
each_before step (o ∷ os) (n ∷ ns) c past [] took still each = absurd each
each_before step (o ∷ os) (n ∷ ns) c past (p ∷ ps) took still each =
    (tried_before c past p o n (took.0.still still) each.0, each_before step os ns c past ps took.1 still each.1)

ready_before : (step : OpeningStep) (os ns : List Opening) → TookEach step os ns → is_still step ≡ true → is_none (first_unready os) ≡ is_none (first_unready ns)
ready_before step [] [] took still = refl
ready_before step [] (n ∷ ns) took still = absurd took
ready_before step (o ∷ os) [] took still = absurd took
ready_before step (o ∷ os) (n ∷ ns) took still = go (ready_by o) (ready_by n) (took.0.still still).ready_is (ready_before step os ns took.1 still)
  where
    go : (a b : Bool) → b ≡ a → is_none (first_unready os) ≡ is_none (first_unready ns) → is_none (if a then first_unready os else Some o) ≡ is_none (if b then first_unready ns else Some n)
    go true true e rest = rest
    go true false e rest = absurd (false≢true e)
    go false true e rest = absurd (false≢true (sym e))
    go false false e rest = refl

pub still_sums : (summary : OpeningSummary) (step : OpeningStep) (os ns : List Opening) → Sums summary os → TookEach step os ns → is_still step ≡ true → Sums summary ns
still_sums summary step os ns sums took still =
    record {
      ready_is = sums.ready_is ∙ ready_before step os ns took still;
      given_up_is = λ c past s each. sums.given_up_is c past s (each_before step os ns c past (places c s) took still each);
    }
