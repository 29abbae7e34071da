use Rattle.addr_kinds.proofs.Told.{kind_told, target_told, options_told, resolution_told}
use Rattle.addr_kinds.proofs.laws.resolutions_are_told.Goals as goal

pub returns-clause-whole : goal.returns-clause-whole
returns-clause-whole c = resolution_told

pub returns-clause-kind : goal.returns-clause-kind
returns-clause-kind c = kind_told

pub returns-clause-target : goal.returns-clause-target
returns-clause-target c = target_told

pub returns-clause-options : goal.returns-clause-options
returns-clause-options c = options_told
