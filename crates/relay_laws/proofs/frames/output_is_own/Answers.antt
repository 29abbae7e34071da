-- What is written at a place is among the things that are said of it.
use Rattle.relay_laws.proofs.Stories.{own_output}
use Rattle.relay_laws.proofs.frames.output_is_own.Goals as goal

pub returns : goal.returns
returns c = own_output
