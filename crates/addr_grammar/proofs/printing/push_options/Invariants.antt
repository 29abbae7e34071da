use Rattle.std.proofs.Common.{◌≡◌, ◌++◌, drop}
use Rattle.std.specs.Prelude.{map}
use Rattle.addr_grammar.specs.Addresses.{named}
use Rattle.addr_grammar.specs.Printing.{printed_options}
use Rattle.addr_grammar.proofs.printing.push_options.Given as goal

abbrev pub invariant-loop-option : goal.invariant-loop-option
invariant-loop-option l =
    l.out.items ++ printed_options (map named (drop l.option-index l.options)) ≡ l.initial.out.items ++ printed_options (map named l.options)
