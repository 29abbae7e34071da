use Rattle.addr_grammar.proofs.Spelled.{at_most_one}
use Rattle.addr_grammar.proofs.parsing.one_address.Goals as goal

pub returns : goal.returns
returns c = at_most_one
