-- What a list of words asks.
use Rattle.std.specs.Prelude.{ℕ, List, Result, Ok, Err}
use Rattle.relay_model.specs.{Config, Refused}
use Rattle.exit_status.specs.{usage, version}
use Rattle.cmd_words.specs.{Command, CommandFault, command}
use Rattle.cmd_words.specs.declared.commands.Command.TheVariants as commands
use Rattle.cmd_words.specs.declared.faults.CommandFault.TheVariants as faults

-- a relay, a text to be printed, a generated run, or a refusal; with `Unread` there was no memory to read them
pub data WordsTask : Type 0 where
  Relaying : Config → WordsTask
  Telling : List ℕ → WordsTask
  Loading : ℕ → WordsTask
  Refusing : Refused → WordsTask
  Unread : WordsTask

-- what is done about a command: relay, print, make the generated run or refuse
abbrev pub command_task : Command → WordsTask
command_task (commands.Relay c) = Relaying c
command_task commands.Usage = Telling usage
command_task commands.Version = Telling version
command_task (commands.Load number) = Loading number

-- what is done about words that make a command, or are refused
abbrev pub task_of : Result Command CommandFault → WordsTask
task_of (Ok asked) = command_task asked
task_of (Err (faults.Refused refused)) = Refusing refused
task_of (Err faults.Memory) = Unread

-- what is done about a list of words
abbrev pub task : List (List ℕ) → WordsTask
task words = task_of (command words)
