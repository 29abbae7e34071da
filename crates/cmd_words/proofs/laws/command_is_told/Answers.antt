use Rattle.cmd_words.proofs.Told.{command_told}
use Rattle.cmd_words.proofs.laws.command_is_told.Goals as goal

pub returns : goal.returns
returns c = command_told
