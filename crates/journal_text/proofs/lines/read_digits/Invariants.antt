use Rattle.std.proofs.Common.{◌≡◌, length}
use Rattle.journal_text.specs.Reading.{digits_in}
use Rattle.journal_text.proofs.LoopLemmas.{after}
use Rattle.journal_text.proofs.lines.read_digits.Given as goal

abbrev pub invariant-loop-digits : goal.invariant-loop-digits
invariant-loop-digits l = after l.bytes.items (digits_in l.digits) ≡ digits_in l.initial.digits

abbrev pub decreases-loop-digits : goal.decreases-loop-digits
decreases-loop-digits l = length l.digits
