use Rattle.std.proofs.Common.{◌≡◌, ◌+◌, ◌≤◌, length}
use Rattle.journal_text.proofs.TextLemmas.{IsRead}
use Rattle.journal_text.proofs.reading.read_journal.Given as goal

abbrev pub invariant-loop-rest : goal.invariant-loop-rest
invariant-loop-rest l = record {
  read : IsRead l.text l.journal.acts l.rest;
  count : l.number ≡ length l.journal.acts + 1;
  bound : l.number + length l.rest ≤ length l.text + 1;
  room : 256 ≤ l.scratch.ready.room;
}

abbrev pub decreases-loop-rest : goal.decreases-loop-rest
decreases-loop-rest l = length l.rest
