use Rattle.std.proofs.Common.{◌∙◌, ap, sym}
use Rattle.std.specs.Prelude.{option_map}
use Rattle.addr_grammar.specs.Grammar.{decoded}
use Rattle.addr_grammar.specs.declared.cutting.Mark.TheVariants.{Colon}
use Rattle.addr_grammar.proofs.Pieces.{shorter, texts_go_on, texts_end}
use Rattle.addr_grammar.proofs.parsing.texts_of.Goals as goal

pub loop-found-smaller : goal.loop-found-smaller
loop-found-smaller c =
    shorter Colon c.loop-found.rest.now c.in-Some.colon c.in-Some.after.now (sym c.cut_at-cut.ensures.back ∙ ap (option_map (λ b. (b.0, b.1.now))) c.in-Some.is)

pub loop-found-preserved : goal.loop-found-preserved
loop-found-preserved c =
    rw c.in_ok-push.ensures.items (texts_go_on c.loop-found.found.items c.loop-found.begin c.loop-found.rest.now c.in-Some.colon c.in-Some.after.now _ _
    (sym c.cut_at-cut.ensures.back ∙ ap (option_map (λ b. (b.0, b.1.now))) c.in-Some.is) (c.in_ok-decode.ensures ∙ ap decoded c.cut_at-cut.ensures.front) c.loop-found.invariant)

pub returns-in-None : goal.returns-in-None
returns-in-None c =
    c.in_ok-push.ensures.items ∙ texts_end c.loop-found.found.items c.loop-found.begin c.loop-found.rest.now _ _
    (sym c.cut_at-cut.ensures.back ∙ ap (option_map (λ b. (b.0, b.1.now))) c.in-None.is) (c.in_ok-decode.ensures ∙ ap decoded c.cut_at-cut.ensures.front) c.loop-found.invariant
