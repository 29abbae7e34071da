-- All that is said of a session is made of what is said of its places.
use Rattle.relay_laws.proofs.Apart.{apart}
use Rattle.relay_laws.proofs.frames.sessions_are_apart.Goals as goal

pub returns : goal.returns
returns c = apart
