use Rattle.std.proofs.Common.{take}
use Rattle.child_ports.specs.Commands.{RunsWords}
use Rattle.child_ports.proofs.start.command_of_words.Given as goal

abbrev pub invariant-loop-i : goal.invariant-loop-i
invariant-loop-i l = RunsWords (take l.i l.words) l.command
