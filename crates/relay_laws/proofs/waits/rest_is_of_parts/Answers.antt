-- A session that has not begun rests.
use Rattle.relay_laws.proofs.RestLemmas.{rest_of_parts}
use Rattle.relay_laws.proofs.waits.rest_is_of_parts.Goals as goal

pub returns : goal.returns
returns c = rest_of_parts
