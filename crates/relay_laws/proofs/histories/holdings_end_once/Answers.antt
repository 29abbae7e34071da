-- Each holding ends once.
use Rattle.relay_laws.proofs.Ended.{ended_once}
use Rattle.relay_laws.proofs.histories.holdings_end_once.Goals as goal

pub returns : goal.returns
returns c = ended_once
