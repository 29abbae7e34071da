use Rattle.std.proofs.Common.{◌≡◌, length}
use Rattle.relay_model.specs.Configs.{part_with}
use Rattle.command_places.proofs.configs.part_with.Given as goal

abbrev pub invariant-loop-parts : goal.invariant-loop-parts
invariant-loop-parts l = part_with l.half l.parts ≡ part_with l.half l.initial.parts

abbrev pub decreases-loop-parts : goal.decreases-loop-parts
decreases-loop-parts l = length l.parts
