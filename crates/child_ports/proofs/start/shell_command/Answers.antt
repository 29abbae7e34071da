use Rattle.child_ports.proofs.Words.{unreadable_text}
use Rattle.child_ports.proofs.start.shell_command.Goals as goal

pub returns-in_default : goal.returns-in_default
returns-in_default c = unreadable_text c.args.text.now c.as_slice.result.now c.as_slice.ensures c.in_default.ensures.cases.0
