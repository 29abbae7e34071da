use Rattle.std.proofs.Common.{◌≡◌, ◌++◌, drop}
use Rattle.addr_grammar.specs.Printing.{printed_params}
use Rattle.addr_grammar.proofs.printing.push_params.Given as goal

abbrev pub invariant-loop-param : goal.invariant-loop-param
invariant-loop-param l = l.out.items ++ printed_params (drop l.param-index l.params) ≡ l.initial.out.items ++ printed_params l.params
