use Rattle.std.proofs.Common.{List, drop}
use Rattle.relay_model.specs.declared.places.Place.{Place}
use Rattle.relay_model.specs.declared.commands.Config.{Config}
use Rattle.relay_model.specs.declared.acts.Act.{Act}
use Rattle.place_openings.specs.Stands.{EachTried}
use Rattle.place_openings.proofs.Asked.{NotBefore}
use Rattle.place_openings.proofs.summaries.some_gave_up.Given as goal

abbrev pub invariant-loop-opening : goal.invariant-loop-opening
invariant-loop-opening l = (c : Config) (past : List Act) (ps : List Place) → EachTried c past ps l.openings → NotBefore c past l.has_door ps ((drop l.opening-index l.openings))
