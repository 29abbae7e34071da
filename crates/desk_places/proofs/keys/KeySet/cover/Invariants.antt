-- more and more keys are covered, and the set has the same
use Rattle.std.proofs.Common.{◌≡◌, ◌≤◌, ◌+◌, ◌-◌, length, take}
use Rattle.desk_places.specs.Keys.{AreInverse}
use Rattle.desk_places.proofs.keys.KeySet.cover.Given as goal

abbrev pub invariant-loop-self : goal.invariant-loop-self
invariant-loop-self l = record {
  inverse : AreInverse l.self-inside.order.items l.self-inside.places.items;
  within : l.self-inside.count ≤ length l.self-inside.order.items;
  keys : take l.self-inside.count l.self-inside.order.items ≡ take l.initial.self-inside.count l.initial.self-inside.order.items;
  longer : length l.initial.self-inside.order.items ≤ length l.self-inside.order.items;
}

abbrev pub decreases-loop-self : goal.decreases-loop-self
decreases-loop-self l = l.key + 1 - length l.self-inside.order.items
