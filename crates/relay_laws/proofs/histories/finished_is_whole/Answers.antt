-- Each formed direction has passed its end.
use Rattle.relay_laws.proofs.Finishes.{finished_whole}
use Rattle.relay_laws.proofs.histories.finished_is_whole.Goals as goal

pub returns : goal.returns
returns c = finished_whole
