use Rattle.std.proofs.Common.{◌≡◌, ◌-◌, ◌≤◌, length, drop, []}
use Rattle.addr_words.specs.Reading.{tokens_from, after_front}
use Rattle.addr_words.proofs.scanning.words_of.Given as goal

-- the tokens so far, and those of the rest, are those of the text
abbrev pub invariant-loop-at : goal.invariant-loop-at
invariant-loop-at l = record {
  inside : l.at ≤ length l.text;
  read : after_front l.tokens.items (tokens_from l.around l.at (drop l.at l.text)) ≡ tokens_from [] 0 l.text;
}

abbrev pub decreases-loop-at : goal.decreases-loop-at
decreases-loop-at l = length l.text - l.at
