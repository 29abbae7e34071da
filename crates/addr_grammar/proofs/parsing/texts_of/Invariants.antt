use Rattle.std.proofs.Common.{◌≡◌, ◌++◌, length}
use Rattle.addr_grammar.specs.declared.cutting.Mark.TheVariants.{Colon}
use Rattle.addr_grammar.specs.Grammar.{texts, pieces}
use Rattle.addr_grammar.proofs.parsing.texts_of.Given as goal

-- the texts so far and those of the rest are those of all tokens
abbrev pub invariant-loop-found : goal.invariant-loop-found
invariant-loop-found l = l.found.items ++ texts (pieces Colon l.begin l.rest) ≡ texts (pieces Colon l.at l.tokens)

abbrev pub decreases-loop-found : goal.decreases-loop-found
decreases-loop-found l = length l.rest
