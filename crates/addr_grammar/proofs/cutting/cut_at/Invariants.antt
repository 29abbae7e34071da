use Rattle.std.proofs.Common.{◌≡◌, ◌++◌, take, drop}
use Rattle.addr_grammar.specs.Grammar.{before, after}
use Rattle.addr_grammar.proofs.cutting.cut_at.Given as goal

-- no mark stands so far
abbrev pub invariant-loop-i : goal.invariant-loop-i
invariant-loop-i l = record {
  front : take l.i l.tokens ++ before l.mark (drop l.i l.tokens) ≡ before l.mark l.tokens;
  back : after l.mark (drop l.i l.tokens) ≡ after l.mark l.tokens;
}
