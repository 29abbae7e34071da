-- How many calls openings take at most between two turns.
use Rattle.std.proofs.Common.{◌≡◌, refl, ap, ◌∙◌, ℕ, ◌+◌, ◌*◌, ◌≤◌, Bool, true, false, cond, List, [], ◌∷◌, length, arith}
use Rattle.relay_model.specs.declared.places.Place.{Place}
use Rattle.relay_model.specs.declared.commands.Config.{Config}
use Rattle.relay_model.specs.declared.acts.Act.{Act}
use Rattle.relay_model.specs.Configs.{has_own_door}
use Rattle.relay_model.specs.declared.stages.Stage.{Stage}
use Rattle.relay_model.specs.declared.stages.Stage.TheVariants.{Untried, Usable, Unsettled, Failed, Met, Waiting, Gone}
use Rattle.place_openings.specs.declared.one_place.Opening.{Opening}
use Rattle.place_openings.specs.Stands.{Each}
use Rattle.place_openings.specs.Steps.{stage_weight, left_unless, steps_of, steps_in, most_of, most_in, calls_at, calls_among}

weight_within : (st : Stage) (woken tried : Bool) → stage_weight st woken tried ≤ 2
weight_within Untried woken tried = omega arith
weight_within Usable woken tried = omega arith
weight_within Unsettled true tried = omega arith
weight_within Unsettled false tried = omega arith
weight_within Failed woken true = omega arith
weight_within Failed woken false = omega arith
weight_within (Met peer) woken tried = omega arith
weight_within Waiting woken tried = omega arith
weight_within (Gone why) woken tried = omega arith

left_within : (b : Bool) (n : ℕ) → left_unless b n ≤ n
left_within true n = omega arith
left_within false n = omega arith

-- a place with an own door, or with none
sum_within : (has_door : Bool) (place door asked child : ℕ) → place ≤ 2 → door ≤ 2 → asked ≤ 2 → child ≤ 1 → place + cond has_door (door + asked) 0 + child ≤ cond has_door 7 3
sum_within true place door asked child p d a k = omega (arith, p, d, a, k)
sum_within false place door asked child p d a k = omega (arith, p, k)

steps_within : (o : Opening) → steps_of o ≤ most_of o
steps_within o =
    sum_within o.has_door (stage_weight o.stage o.woken o.tried) (stage_weight o.door false o.tried) (left_unless o.asked 2) (left_unless o.asked_child 1)
    (weight_within o.stage o.woken o.tried) (weight_within o.door false o.tried) (left_within o.asked 2) (left_within o.asked_child 1)

-- what is left is at most what there is at the most
pub left_at_most : (os : List Opening) → steps_in os ≤ most_in os
left_at_most [] = omega arith
left_at_most (o ∷ os) = omega (arith, steps_within o, left_at_most os)

seven_or_three : (has_door : Bool) → cond has_door 7 3 ≤ 7
seven_or_three true = omega arith
seven_or_three false = omega arith

pub most_within : (os : List Opening) → most_in os ≤ 7 * length os
most_within [] = omega arith
most_within (o ∷ os) = omega (arith, seven_or_three o.has_door, most_within os)

-- no place takes more than seven
pub calls_within : (c : Config) (ps : List Place) → calls_among c ps ≤ 7 * length ps
calls_within c [] = omega arith
calls_within c (p ∷ ps) = omega (arith, seven_or_three (has_own_door c p), calls_within c ps)

-- the command says how many there are at the most
pub most_is : (c : Config) (past : List Act) (ps : List Place) (os : List Opening) → Each c past ps os → most_in os ≡ calls_among c ps
most_is c past [] [] each = refl
most_is c past [] (o ∷ os) each = absurd each
most_is c past (p ∷ ps) [] each = absurd each
most_is c past (p ∷ ps) (o ∷ os) each =
    ap (λ b. cond b 7 3 + most_in os) each.0.has_door_is ∙ ap (λ n. calls_at c p + n) (most_is c past ps os each.1)
