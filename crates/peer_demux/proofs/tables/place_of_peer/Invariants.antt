use Rattle.std.proofs.Common.{◌≢◌, ℕ, ◌<◌}
use Rattle.peer_demux.specs.Tables.{row_at}
use Rattle.peer_demux.proofs.tables.place_of_peer.Given as goal

abbrev pub invariant-loop-place : goal.invariant-loop-place
invariant-loop-place l = (i : ℕ) → i < l.place → (row_at l.rows i).peer ≢ l.peer
