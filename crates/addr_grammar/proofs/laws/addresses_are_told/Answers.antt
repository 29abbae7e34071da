use Rattle.addr_grammar.proofs.Told.{text_is_told, address_told, single_told, head_told, options_told}
use Rattle.addr_grammar.proofs.laws.addresses_are_told.Goals as goal

pub returns-clause-text : goal.returns-clause-text
returns-clause-text c = text_is_told

pub returns-clause-address : goal.returns-clause-address
returns-clause-address c = address_told

pub returns-clause-single : goal.returns-clause-single
returns-clause-single c = single_told

pub returns-clause-head : goal.returns-clause-head
returns-clause-head c = head_told

pub returns-clause-options : goal.returns-clause-options
returns-clause-options c = options_told
