-- No other session and no program door has a moment.
use Rattle.relay_session.proofs.Waiting.{until_alone}
use Rattle.session_laws.proofs.one_session.until_is_of_one.Goals as goal

pub returns : goal.returns
returns c = until_alone
