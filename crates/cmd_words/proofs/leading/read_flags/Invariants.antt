use Rattle.std.proofs.Common.{◌≡◌, ◌-◌, ◌≤◌, length, drop}
use Rattle.cmd_words.specs.Flags.{flags_from, defaults, IsBounded}
use Rattle.cmd_words.proofs.leading.read_flags.Given as goal

-- what the words from here on lead to is what all of them lead to
abbrev pub invariant-loop-word : goal.invariant-loop-word
invariant-loop-word l = record {
  inside : l.at ≤ length l.words;
  read : flags_from l.settings l.at (drop l.at l.words) ≡ flags_from defaults 0 l.words;
  bounded : IsBounded l.settings;
}

abbrev pub decreases-loop-word : goal.decreases-loop-word
decreases-loop-word l = length l.words - l.at
