use Rattle.std.proofs.Common.{◌≡◌, length}
use Rattle.std.proofs.Common.{◌++◌, ◌+◌, ◌≤◌, map}
use Rattle.relay_model.specs.Configs.{place_at}
use Rattle.command_places.proofs.configs.push_places.Given as goal

abbrev pub invariant-loop-parts : goal.invariant-loop-parts
invariant-loop-parts l = (l.list ++ map (place_at l.session l.side) l.parts ≡ l.initial.list ++ map (place_at l.session l.side) l.initial.parts) × (length l.list + length l.parts ≤ 8)

abbrev pub decreases-loop-parts : goal.decreases-loop-parts
decreases-loop-parts l = length l.parts
