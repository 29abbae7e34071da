use Rattle.std.proofs.Common.{◌≡◌, ◌≤◌, eqb, length, drop}
use Rattle.std.specs.List.{slice_split}
use Rattle.journal_text.specs.Reading.{entries_in}
use Rattle.journal_text.proofs.LoopLemmas.{after}
use Rattle.journal_text.proofs.lines.read_ready.Given as goal

abbrev pub invariant-loop-piece : goal.invariant-loop-piece
invariant-loop-piece l = record {
  room : l.ready.room ≡ l.initial.ready.room;
  few : length l.ready.entries ≤ 256;
  read : after l.ready.entries (entries_in (drop (length l.yielded) (slice_split (λ b. eqb b 44) l.fn.field))) ≡ entries_in (slice_split (λ b. eqb b 44) l.fn.field);
}
