use Rattle.std.proofs.Common.{◌≡◌, ◌++◌, drop}
use Rattle.addr_words.specs.Writing.{written}
use Rattle.addr_words.proofs.writing.write_word.Given as goal

-- what is written so far, and what is to be written for the rest
abbrev pub invariant-loop-byte : goal.invariant-loop-byte
invariant-loop-byte l = l.out.items ++ written (drop l.byte-index l.bytes) ≡ written l.bytes
