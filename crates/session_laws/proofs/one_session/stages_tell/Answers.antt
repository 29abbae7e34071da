-- How a thing stands follows from its stage.
use Rattle.relay_session.proofs.Standings.{standing_of}
use Rattle.session_laws.proofs.one_session.stages_tell.Goals as goal

pub returns : goal.returns
returns c = standing_of
