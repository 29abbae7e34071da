use Rattle.session_laws.proofs.Members.{others_named}
use Rattle.session_laws.proofs.among_others.names_of_others_pass.Goals as goal

pub returns : goal.returns
returns c = others_named
