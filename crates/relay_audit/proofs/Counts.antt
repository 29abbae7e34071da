-- The counts that a machine word holds, and those before the last act.
use Rattle.std.proofs.Common.{◌≡◌, ap, ◌∙◌, ℕ, ◌+◌, ◌<◌, ◌^◌, ◌-◌, min, List, ◌∷◌, ◌++◌, length, length-append, arith}
use Rattle.std.proofs.Math.Nat.{min-eq_left}
use Rattle.relay_model.specs.declared.places.Place.{Place}
use Rattle.relay_model.specs.declared.acts.Act.{Act}
use Rattle.relay_model.specs.declared.acts.Act.TheVariants.{Read}
use Rattle.relay_model.specs.Choices.{joined}
use Rattle.relay_model.specs.History.{got}
use Rattle.relay_laws.proofs.PlaceLemmas.{same_place_self}

-- a count that a word holds is below where counts stop
pub count_in_word : (n : ℕ) → n < 2 ^ 64 → min n (2 ^ 64 - 1) ≡ n
count_in_word n h = min-eq_left (omega (arith, h))

-- what was read before the last act, a read
pub read_before : (past older : List Act) (q : Place) (bytes : List ℕ) → past ≡ Read q bytes ∷ older → length (got past q) - length bytes ≡ length (got older q)
read_before past older q bytes e =
    let sum : length (got older q ++ bytes) ≡ length (got older q) + length bytes = length-append (got older q) bytes in
    ap (λ l. length (got l q) - length bytes) e
    ∙ ap (λ b. length (joined b (got older q) bytes) - length bytes) (same_place_self q)
    ∙ omega (arith, sum)
