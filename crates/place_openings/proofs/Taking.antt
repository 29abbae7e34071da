-- A step of each opening, one after another.
use Rattle.std.proofs.Common.{◌≡◌, ℕ, zero, suc, ◌<◌, ◌≤◌, List, [], ◌∷◌, length, get_or, refl, subst, arith}
use Rattle.std.proofs.Math.ListN.{set}
use Rattle.place_openings.specs.Moves.{TakesStep, TookEach}
use Rattle.place_openings.specs.declared.steps.OpeningStep.{OpeningStep}
use Rattle.place_openings.specs.declared.one_place.Opening.{Opening}

-- the first few have taken the step
abbrev pub Partly : OpeningStep → ℕ → List Opening → List Opening → Type 0
Partly step zero os ns = ns ≡ os
Partly step (suc i) [] [] = Unit {0}
Partly step (suc i) [] (n ∷ ns) = ⊥
Partly step (suc i) (o ∷ os) [] = ⊥
Partly step (suc i) (o ∷ os) (n ∷ ns) = TakesStep step o n × Partly step i os ns

pub one_more : (step : OpeningStep) (i : ℕ) (os ns : List Opening) (v d : Opening) → Partly step i os ns → i < length ns → TakesStep step ((get_or ns i d)) v → Partly step (suc i) os (set ns i v)
one_more step zero os [] v d part lt took = absurd (omega arith)
one_more step zero os (n ∷ ns) v d part lt took = subst (λ xs. Partly step (suc zero) xs (v ∷ ns)) part (took, refl)
one_more step (suc i) [] [] v d part lt took = absurd (omega arith)
one_more step (suc i) [] (n ∷ ns) v d part lt took = absurd part
one_more step (suc i) (o ∷ os) [] v d part lt took = absurd part
one_more step (suc i) (o ∷ os) (n ∷ ns) v d part lt took = (part.0, one_more step i os ns v d part.1 (omega arith) took)

pub all_taken : (step : OpeningStep) (i : ℕ) (os ns : List Opening) → Partly step i os ns → length ns ≤ i → TookEach step os ns
all_taken step zero os [] part le = subst (λ xs. TookEach step xs []) part tt
all_taken step zero os (n ∷ ns) part le = absurd (omega arith)
all_taken step (suc i) [] [] part le = tt
all_taken step (suc i) [] (n ∷ ns) part le = absurd part
all_taken step (suc i) (o ∷ os) [] part le = absurd part
all_taken step (suc i) (o ∷ os) (n ∷ ns) part le = (part.0, all_taken step i os ns part.1 (omega arith))
