use Rattle.child_ports.specs.Commands.{words_of, told_texts}
use Rattle.child_ports.specs.Programs.{wordless, refused}
use Rattle.child_ports.proofs.Words.{no_command, some_command, runs_on}
use Rattle.child_ports.proofs.start.make_child.Goals as goal

pub returns-in-Ok-None-clause-failed : goal.returns-in-Ok-None-clause-failed
returns-in-Ok-None-clause-failed g c = λ _. wordless (no_command _ _ _ c.in-Ok-None.field-0-is c.in-Ok-None.ensures.command)

pub returns-in-Ok-start-clause-started : goal.returns-in-Ok-start-clause-started
returns-in-Ok-start-clause-started g c = (
  c.pipe_ends.new.command,
  runs_on (words_of c.args.target.now) (told_texts c.args.peer) c.in-Ok-Some.command c.pipe_ends.new.command (some_command _ _ _ _ c.in-Ok-Some.field-0-is c.in-Ok-Some.ensures.command) c.in-Ok.ensures.call c.in-Ok.ensures.environment,
  c.in-Ok-start.ensures.started,
)

pub returns-clause-failed : goal.returns-clause-failed
returns-clause-failed g c = λ _. refused c.pipe_ends.new.command (runs_on (words_of c.args.target.now) (told_texts c.args.peer) c.in-Ok-Some.command c.pipe_ends.new.command (some_command _ _ _ _ c.in-Ok-Some.field-0-is c.in-Ok-Some.ensures.command) c.in-Ok.ensures.call c.in-Ok.ensures.environment) c.in-Err-start.ensures.refused
