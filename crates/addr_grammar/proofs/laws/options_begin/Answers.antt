use Rattle.addr_grammar.proofs.FirstFaults.{options_begin}
use Rattle.addr_grammar.proofs.laws.options_begin.Goals as goal

pub returns : goal.returns
returns c = options_begin
