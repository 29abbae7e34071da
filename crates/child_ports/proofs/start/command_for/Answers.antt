use Rattle.child_ports.proofs.Words.{no_command}
use Rattle.child_ports.proofs.start.command_for.Goals as goal

pub returns-in_default-clause-command : goal.returns-in_default-clause-command
returns-in_default-clause-command c = no_command _ _ _ c.in_default.is c.in_ok-command.ensures.words
