use Rattle.std.proofs.Common.{◌≡◌, ◌++◌, drop}
use Rattle.journal_text.specs.Fields.{digits_text}
use Rattle.journal_text.specs.Ranges.{IsBytes}
use Rattle.journal_text.proofs.writing.push_digits.Given as goal

abbrev pub invariant-loop-byte : goal.invariant-loop-byte
invariant-loop-byte l = record {
  written : l.text.items ++ digits_text (drop l.byte-index l.bytes) ≡ l.initial.text.items ++ digits_text l.bytes;
  each : IsBytes (drop l.byte-index l.bytes) → IsBytes l.bytes;
}
