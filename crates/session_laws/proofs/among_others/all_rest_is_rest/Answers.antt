use Rattle.session_laws.proofs.Rests.{all_rest}
use Rattle.session_laws.proofs.among_others.all_rest_is_rest.Goals as goal

pub returns : goal.returns
returns c = all_rest
