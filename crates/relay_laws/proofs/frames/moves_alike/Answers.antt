-- What licenses a read, a write or a passed end is among the things that are said of the session.
use Rattle.relay_laws.proofs.Stories.{alike_moves}
use Rattle.relay_laws.proofs.frames.moves_alike.Goals as goal

pub returns : goal.returns
returns c = alike_moves
