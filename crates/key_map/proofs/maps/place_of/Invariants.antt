use Rattle.std.proofs.Common.{ℕ, ◌≤◌, ◌<◌, ◌-◌, length}
use Rattle.key_map.specs.Entries.{key_at}
use Rattle.key_map.proofs.maps.place_of.Given as goal

abbrev pub invariant-loop-low : goal.invariant-loop-low
invariant-loop-low l = record {
  ordered : l.low ≤ l.high;
  within : l.high ≤ length l.pairs;
  below : (i : ℕ) → i < l.low → key_at l.pairs i < l.key;
  above : (i : ℕ) → l.high ≤ i → i < length l.pairs → l.key ≤ key_at l.pairs i;
}

abbrev pub decreases-loop-low : goal.decreases-loop-low
decreases-loop-low l = l.high - l.low
