-- What is worked out of the openings of a session at the steps that may change it.
use Rattle.std.specs.Prelude.{◌≡◌, ℕ, List, Option, is_none}
use Rattle.relay_model.specs.{Config, Act, Why, only_if, or_else, places, listening_failed, opening_failed}
use Rattle.relay_model.specs.declared.acts.Why.TheVariants as whys
use Rattle.place_openings.specs.declared.one_place.Opening.{Opening}
use Rattle.place_openings.specs.Queries.{first_unready}
use Rattle.place_openings.specs.Stands.{EachTried}
use Rattle.place_openings.specs.declared.summaries.OpeningSummary.{OpeningSummary}

-- why the session ends, where no try is left at one of its places or doors
abbrev pub why_given_up : Config → List Act → ℕ → Option Why
why_given_up c past s = or_else (only_if (listening_failed c past s) whys.ListenFailed) (only_if (opening_failed c past s) whys.OpenFailed)

-- the answer is why a session with these openings ends, where no try is left; of their places they need to say no more
-- than what was tried there
abbrev pub EndsBy : Option Why → List Opening → Type 0
EndsBy given_up os = (c : Config) (past : List Act) (s : ℕ) → EachTried c past (places c s) os → given_up ≡ why_given_up c past s

-- a summary tells whether every one of these is ready, and why the session ends, where no try is left
pub record Sums (summary : OpeningSummary) (os : List Opening) : Type 0 where
  pub ready_is : summary.ready ≡ is_none (first_unready os)
  pub given_up_is : EndsBy summary.given_up os
