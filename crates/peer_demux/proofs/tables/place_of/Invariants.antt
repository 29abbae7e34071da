use Rattle.std.proofs.Common.{ℕ, ◌≤◌, ◌<◌, ◌-◌, length}
use Rattle.peer_demux.specs.Tables.{row_at}
use Rattle.peer_demux.proofs.tables.place_of.Given as goal

abbrev pub invariant-loop-low : goal.invariant-loop-low
invariant-loop-low l = record {
  ordered : l.low ≤ l.high;
  within : l.high ≤ length l.rows;
  below : (i : ℕ) → i < l.low → (row_at l.rows i).number < l.number;
  above : (i : ℕ) → l.high ≤ i → i < length l.rows → l.number ≤ (row_at l.rows i).number;
}

abbrev pub decreases-loop-low : goal.decreases-loop-low
decreases-loop-low l = l.high - l.low
