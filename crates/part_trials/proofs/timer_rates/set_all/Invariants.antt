use Rattle.std.proofs.Common.{◌+◌, ◌≤◌}
use Rattle.part_trials.proofs.timer_rates.set_all.Given as goal

abbrev pub invariant-loop-key : goal.invariant-loop-key
invariant-loop-key l = l.keys ≤ l.timers.room + l.key
