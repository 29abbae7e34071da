-- those that are named, and those that are left to be named
use Rattle.std.proofs.Common.{◌≡◌, ◌≤◌, ◌++◌, drop, length, take}
use Rattle.scripted_world.specs.Scripts.{ready_ones}
use Rattle.scripted_world.proofs.script.Script.name_those.Given as goal

abbrev pub invariant-loop-entry : goal.invariant-loop-entry
invariant-loop-entry l = record {
  room : 256 ≤ l.ready.room;
  few : length l.ready.entries ≤ 256;
  named : take 256 (l.ready.entries ++ ready_ones l.self l.at (drop l.entry-index l.entries)) ≡ take 256 (ready_ones l.self l.at l.entries);
}
