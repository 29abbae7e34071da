use Rattle.std.proofs.Common.{◌≡◌, ◌++◌, drop}
use Rattle.journal_text.specs.Fields.{ready_text}
use Rattle.journal_text.proofs.WritingLemmas.{later, ArePlaces}
use Rattle.journal_text.proofs.writing.push_ready.Given as goal

abbrev pub invariant-loop-i : goal.invariant-loop-i
invariant-loop-i l = record {
  written : l.text.items ++ later (drop l.i l.ready.entries) ≡ l.fn.text.items ++ ready_text l.ready.entries;
  each : ArePlaces (drop l.i l.ready.entries) → ArePlaces l.ready.entries;
}
