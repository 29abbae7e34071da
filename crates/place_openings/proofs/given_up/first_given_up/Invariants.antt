use Rattle.std.proofs.Common.{List, drop}
use Rattle.relay_model.specs.declared.places.Place.{Place}
use Rattle.relay_model.specs.declared.commands.Config.{Config}
use Rattle.relay_model.specs.declared.acts.Act.{Act}
use Rattle.place_openings.specs.Stands.{Each}
use Rattle.place_openings.proofs.GivingUp.{After}
use Rattle.place_openings.proofs.given_up.first_given_up.Given as goal

abbrev pub invariant-loop-opening : goal.invariant-loop-opening
invariant-loop-opening l = (c : Config) (past : List Act) (ps : List Place) → Each c past ps l.openings → After c past l.has_door ps ((drop l.opening-index l.openings))
