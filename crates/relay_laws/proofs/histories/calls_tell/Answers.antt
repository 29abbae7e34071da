-- By the choices that a call is made of.
use Rattle.relay_laws.proofs.CallLemmas.{called_tells}
use Rattle.relay_laws.proofs.histories.calls_tell.Goals as goal

pub returns : goal.returns
returns c = called_tells
