use Rattle.std.specs.Prelude.{Some}
use Rattle.socat_top.proofs.runs.run.Given as goal

abbrev pub ghosts-follow : goal.ghosts-follow
ghosts-follow g a = record {
  start = Some (record { told = a.desk.log.recording.told; gave = a.desk.ports.table.input.port.gave; took = a.desk.ports.table.output.port.took; said = a.desk.ports.table.errors.port.took; ended = a.desk.ports.table.input.port.ended });
}
