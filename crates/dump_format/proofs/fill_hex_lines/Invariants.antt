use Rattle.std.proofs.Common.{◌≡◌, ◌+◌, ◌*◌, ◌≤◌, ◌++◌, length, drop, take}
use Rattle.relay_model.specs.Dumps.{hex_lines}
use Rattle.dump_format.proofs.fill_hex_lines.Given as goal

abbrev pub invariant-loop-i : goal.invariant-loop-i
invariant-loop-i l = record {
  lines : take l.filled l.into ++ hex_lines (length l.bytes) l.i (drop l.i l.bytes) ≡ take l.at l.initial.into ++ hex_lines (length l.bytes) 0 l.bytes;
  within : l.filled ≤ l.at + 5 * l.i;
  len : length l.into ≡ length l.initial.into;
}
