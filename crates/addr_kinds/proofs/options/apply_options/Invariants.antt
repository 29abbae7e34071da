use Rattle.std.proofs.Common.{◌≡◌, drop}
use Rattle.std.specs.Prelude.{map}
use Rattle.addr_grammar.specs.Addresses.{named}
use Rattle.addr_kinds.specs.Kinds.{known_of}
use Rattle.addr_kinds.specs.Resolving.{with_options}
use Rattle.addr_kinds.proofs.options.apply_options.Given as goal

-- the options that are left make of those so far what all make of the first
abbrev pub invariant-loop-option : goal.invariant-loop-option
invariant-loop-option l =
    with_options (known_of l.known) l.general l.place (map named (drop l.option-index l.written)) l.options
    ≡ with_options (known_of l.known) l.general 1 (map named l.written) l.initial.options
