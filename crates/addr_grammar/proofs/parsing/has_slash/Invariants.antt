use Rattle.std.proofs.Common.{◌≡◌, drop}
use Rattle.addr_grammar.specs.Addresses.{has_slash}
use Rattle.addr_grammar.proofs.parsing.has_slash.Given as goal

abbrev pub invariant-loop-byte : goal.invariant-loop-byte
invariant-loop-byte l = has_slash (drop l.byte-index l.bytes) ≡ has_slash l.bytes
