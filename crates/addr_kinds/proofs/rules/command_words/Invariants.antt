use Rattle.std.proofs.Common.{◌≡◌, ◌++◌, drop}
use Rattle.std.specs.Prelude.{filter, map, not}
use Rattle.addr_grammar.specs.Addresses.{is_empty}
use Rattle.addr_kinds.proofs.rules.command_words.Given as goal

-- the words so far and those among the parts that are left
abbrev pub invariant-loop-part : goal.invariant-loop-part
invariant-loop-part l =
    l.words ++ filter (λ word. not (is_empty word)) (map (λ part. part.now) (drop l.part-index l.part-items))
    ≡ filter (λ word. not (is_empty word)) (map (λ part. part.now) l.part-items)
