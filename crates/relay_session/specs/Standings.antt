-- How a thing stands for a world, by its stage.
use Rattle.std.specs.Prelude.{◌≡◌, true}
use Rattle.relay_model.specs.{Hold, Free, Settling, is_open, Stage}
use Rattle.relay_model.specs.declared.stages.Stage.TheVariants.{Untried, Usable, Unsettled, Failed, Met, Waiting, Gone}

-- what a stage says of how a thing stands
abbrev pub StandsFor : Stage → Hold → Type 0
StandsFor Untried hold = hold ≡ Free
StandsFor Usable hold = is_open hold ≡ true
StandsFor Unsettled hold = hold ≡ Settling
StandsFor Failed hold = hold ≡ Free
StandsFor (Met peer) hold = is_open hold ≡ true
StandsFor Waiting hold = is_open hold ≡ true
StandsFor (Gone why) hold = hold ≡ Free
