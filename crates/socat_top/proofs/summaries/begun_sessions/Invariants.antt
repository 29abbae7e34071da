use Rattle.std.proofs.Common.{◌≡◌, ◌≤◌, ◌-◌, length, drop}
use Rattle.relay_model.specs.Sessions.{admitted}
use Rattle.socat_top.specs.Command.{load_command}
use Rattle.socat_top.proofs.summaries.begun_sessions.Given as goal

abbrev pub invariant-loop-i : goal.invariant-loop-i
invariant-loop-i l = record {
  counted : l.count ≡ admitted load_command (drop (length l.journal.acts - l.i) l.journal.acts);
  few : l.count ≤ l.i;
}
