use Rattle.std.proofs.Common.{◌≡◌, ◌++◌, drop}
use Rattle.journal_report.specs.Elements.{xml_text}
use Rattle.journal_report.proofs.elements.say_bytes.Given as goal

abbrev pub invariant-loop-byte : goal.invariant-loop-byte
invariant-loop-byte l = l.page ++ xml_text (drop l.byte-index l.bytes) ≡ l.initial.page ++ xml_text l.bytes
