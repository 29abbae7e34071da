use Rattle.std.proofs.Common.{◌≡◌, length, map}
use Rattle.cmd_words.specs.Flags.{found, as_named}
use Rattle.cmd_words.proofs.flags.find_flag.Given as goal

abbrev pub invariant-loop-table : goal.invariant-loop-table
invariant-loop-table l = found (map as_named l.table) l.word ≡ found (map as_named l.initial.table) l.word

abbrev pub decreases-loop-table : goal.decreases-loop-table
decreases-loop-table l = length l.table
