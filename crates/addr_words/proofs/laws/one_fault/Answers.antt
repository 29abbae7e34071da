use Rattle.addr_words.proofs.FirstFaults.{have_at_most_one, closed_have_none}
use Rattle.addr_words.proofs.laws.one_fault.Goals as goal

pub returns-clause-most : goal.returns-clause-most
returns-clause-most c = have_at_most_one

pub returns-clause-none : goal.returns-clause-none
returns-clause-none c = closed_have_none
