use Rattle.std.proofs.Common.{◌≡◌, ◌≤◌}
use Rattle.relay_model.specs.Choices.{count}
use Rattle.socat_top.specs.Sums.{was_finished}
use Rattle.socat_top.proofs.summaries.finished_sessions.Given as goal

abbrev pub invariant-loop-session : goal.invariant-loop-session
invariant-loop-session l = record {
  counted : l.count ≡ count (was_finished l.journal.acts) l.session;
  few : l.count ≤ l.session;
}
