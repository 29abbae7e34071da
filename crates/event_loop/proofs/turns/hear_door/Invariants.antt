use Rattle.std.proofs.Common.{ℕ, List, [], ◌∷◌, Option, take, false}
use Rattle.relay_model.specs.declared.commands.Config.{Config}
use Rattle.relay_model.specs.declared.acts.Act.{Act}
use Rattle.relay_model.specs.declared.acts.Act.TheVariants as acts
use Rattle.program_door.specs.Stands.{DoorStands}
use Rattle.program_door.specs.Turns.{turned}
use Rattle.event_loop.proofs.turns.hear_door.Given as goal

abbrev pub invariant-loop-i : goal.invariant-loop-i
invariant-loop-i l = (c : Config) (past : List Act) (until : Option ℕ) (at : ℕ) → DoorStands c (acts.Turn until at (turned [] 0) false ∷ past) l.initial.door → DoorStands c (acts.Turn until at (turned (take l.i l.ready.entries) 0) false ∷ past) l.door
