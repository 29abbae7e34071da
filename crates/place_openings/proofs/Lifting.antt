-- A step of each opening of a session, as a step of them all.
use Rattle.std.proofs.Common.{◌≡◌, refl, sym, ap, ◌∙◌, ◌⊎◌, inl, inr, ℕ, ◌<◌, ◌≤◌, Bool, true, false, ◌||◌, List, [], ◌∷◌, arith}
use Rattle.std.proofs.lemmas.Bool.{false≢true, or_cases}
use Rattle.relay_model.specs.declared.places.Place.{Place}
use Rattle.relay_model.specs.declared.commands.Config.{Config}
use Rattle.relay_model.specs.declared.acts.Act.{Act}
use Rattle.relay_model.specs.Configs.{places}
use Rattle.place_openings.specs.declared.one_place.Opening.{Opening}
use Rattle.place_openings.specs.Stands.{Each, AreOpenings}
use Rattle.place_openings.specs.Steps.{steps_of, steps_in, asked_by, has_asked}
use Rattle.place_openings.specs.Moves.{Follows, Apart, Lower, Weighed, SomeLower, TakesStep, TookEach, asks_at}
use Rattle.place_openings.specs.declared.steps.OpeningStep.{OpeningStep}

moved_each : (step : OpeningStep) (os ns : List Opening) (c : Config) (past later : List Act) (ps : List Place) → TookEach step os ns → Follows c step past later → Each c past ps os → Each c later ps ns
moved_each step [] [] c past later [] took f each = tt
moved_each step [] [] c past later (p ∷ ps) took f each = absurd each
moved_each step [] (n ∷ ns) c past later ps took f each = absurd took
moved_each step (o ∷ os) [] c past later ps took f each = absurd took
moved_each step (o ∷ os) (n ∷ ns) c past later [] took f each = absurd each
moved_each step (o ∷ os) (n ∷ ns) c past later (p ∷ ps) took f each =
    (took.0.goes c past later p f each.0, moved_each step os ns c past later ps took.1 f each.1)

pub moved : (step : OpeningStep) (os ns : List Opening) (c : Config) (past later : List Act) (s : ℕ) → TookEach step os ns → Follows c step past later → AreOpenings c past s os → AreOpenings c later s ns
moved step os ns c past later s took f are = record { each = moved_each step os ns c past later (places c s) took f are.each }

-- an opening that is apart from a step, or lowered by it, counts no more after it
at_most : (step : OpeningStep) (o n : Opening) → TakesStep step o n → Apart step o ⊎ Lower step o → steps_of n ≤ steps_of o
at_most step o n took (inl apart) = let e = ap steps_of (took.apart apart) in omega (arith, e)
at_most step o n took (inr lower) = let e = took.fewer lower in omega (arith, e)

no_more : (step : OpeningStep) (os ns : List Opening) → TookEach step os ns → Weighed step os → steps_in ns ≤ steps_in os
no_more step [] [] took w = omega arith
no_more step [] (n ∷ ns) took w = absurd took
no_more step (o ∷ os) [] took w = absurd took
no_more step (o ∷ os) (n ∷ ns) took w =
    let a = at_most step o n took.0 w.0 in
    let b = no_more step os ns took.1 w.1 in
    omega (arith, a, b)

pub lowered : (step : OpeningStep) (os ns : List Opening) → TookEach step os ns → Weighed step os → SomeLower step os → steps_in ns < steps_in os
lowered step [] ns took w some = absurd some
lowered step (o ∷ os) [] took w some = absurd took
lowered step (o ∷ os) (n ∷ ns) took w (inl lower) =
    let a = took.0.fewer lower in
    let b = no_more step os ns took.1 w.1 in
    omega (arith, a, b)
lowered step (o ∷ os) (n ∷ ns) took w (inr some) =
    let a = at_most step o n took.0 w.0 in
    let b = lowered step os ns took.1 w.1 some in
    omega (arith, a, b)

-- ---- which children were asked for

more_left : (a b k : Bool) → (a || k) ≡ true → ((a || b) || k) ≡ true
more_left true b k e = refl
more_left false true k e = refl
more_left false false k e = e

more_right : (a b k : Bool) → (b || k) ≡ true → ((a || b) || k) ≡ true
more_right true b k e = refl
more_right false b k e = e

-- a child counts as asked for where it did before, or where the step asks for it
pub asked_each : (step : OpeningStep) (os ns : List Opening) → TookEach step os ns → (p : Place) → has_asked ns p ≡ true → (has_asked os p || asks_at step p) ≡ true
asked_each step [] [] took p e = absurd (false≢true e)
asked_each step [] (n ∷ ns) took p e = absurd took
asked_each step (o ∷ os) [] took p e = absurd took
asked_each step (o ∷ os) (n ∷ ns) took p e = go (or_cases (asked_by p n) (has_asked ns p) e) (asked_each step os ns took.1 p)
  where
    go : (asked_by p n ≡ true) ⊎ (has_asked ns p ≡ true) → (has_asked ns p ≡ true → (has_asked os p || asks_at step p) ≡ true) → (has_asked (o ∷ os) p || asks_at step p) ≡ true
    go (inl here) ih = more_left (asked_by p o) (has_asked os p) (asks_at step p) (took.0.asked p here)
    go (inr there) ih = more_right (asked_by p o) (has_asked os p) (asks_at step p) (ih there)

unasked : (a b : Bool) → b ≡ false → (a || b) ≡ true → a ≡ true
unasked true b none e = refl
unasked false b none e = absurd (false≢true (sym none ∙ e))

-- a step that asks for no child
pub asked_before : (step : OpeningStep) (os ns : List Opening) → TookEach step os ns → ((p : Place) → asks_at step p ≡ false) → (p : Place) → has_asked ns p ≡ true → has_asked os p ≡ true
asked_before step os ns took none p e = unasked (has_asked os p) (asks_at step p) (none p) (asked_each step os ns took p e)
