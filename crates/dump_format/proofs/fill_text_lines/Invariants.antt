use Rattle.std.proofs.Common.{◌≡◌, ◌+◌, ◌*◌, ◌≤◌, ◌++◌, length, drop, take}
use Rattle.relay_model.specs.Dumps.{text_lines}
use Rattle.dump_format.proofs.fill_text_lines.Given as goal

abbrev pub invariant-loop-i : goal.invariant-loop-i
invariant-loop-i l = record {
  lines : take l.filled l.into ++ text_lines (drop l.i l.bytes) ≡ take l.at l.initial.into ++ text_lines l.bytes;
  within : l.filled ≤ l.at + 5 * l.i;
  len : length l.into ≡ length l.initial.into;
}
