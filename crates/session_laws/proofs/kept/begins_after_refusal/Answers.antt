use Rattle.session_laws.proofs.Beginnings.{begins_once}
use Rattle.session_laws.proofs.kept.begins_after_refusal.Goals as goal

pub returns : goal.returns
returns c = begins_once
