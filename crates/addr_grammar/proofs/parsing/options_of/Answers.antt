use Rattle.std.proofs.Common.{◌≡◌, ◌∷◌, [], ◌++◌, ◌∙◌, ap, sym, subst, Ok, List, ℕ}
use Rattle.std.specs.Prelude.{option_map, map}
use Rattle.std.proofs.lemmas.Result.{err_from_is_err_and}
use Rattle.std.proofs.lemmas.List.{map_push}
use Rattle.addr_words.specs.declared.token_list.Token.{Token}
use Rattle.addr_grammar.specs.declared.cutting.Mark.TheVariants.{Comma}
use Rattle.addr_grammar.specs.Addresses.{named, Named}
use Rattle.addr_grammar.specs.Grammar.{option_of, Reports}
use Rattle.addr_grammar.proofs.Pieces.{shorter, begins_go_on, begins_end}
use Rattle.addr_grammar.proofs.OptionRuns.{options_go_on, options_end, options_fault}
use Rattle.addr_grammar.proofs.parsing.options_of.Goals as goal

pub loop-found-smaller : goal.loop-found-smaller
loop-found-smaller c =
    shorter Comma c.loop-found.rest.now c.in-Some.comma c.in-Some.after.now (sym c.cut_at-cut.ensures.back ∙ ap (option_map (λ b. (b.0, b.1.now))) c.in-Some.is)

pub loop-found-preserved : goal.loop-found-preserved
loop-found-preserved c =
    let option = named c.in_ok-option_of.field-0 in
    let e : map named c.push.new.self.items ≡ map named c.loop-found.found.items ++ option ∷ [] = rw c.in_ok-push.ensures.items (map_push _ c.loop-found.found.items c.in_ok-option_of.field-0) in
    let f : map (λ option. option.at) c.push.new.self.items ≡ map (λ option. option.at) c.loop-found.found.items ++ c.loop-found.begin ∷ [] =
    rw c.in_ok-push.ensures.items (map_push (λ option. option.at) c.loop-found.found.items c.in_ok-option_of.field-0 ∙ ap (λ (at : ℕ). map (λ option. option.at) c.loop-found.found.items ++ at ∷ []) c.in_ok-option_of.ensures.begins) in
    let back = sym c.cut_at-cut.ensures.back ∙ ap (option_map (λ b. (b.0, b.1.now))) c.in-Some.is in
    record {
      options = rw e (options_go_on (map named c.loop-found.found.items) c.loop-found.begin c.loop-found.rest.now option c.in-Some.comma c.in-Some.after.now _
          (ap (λ (front : List Token). option_of (record { at = c.loop-found.begin; tokens = front })) (sym c.cut_at-cut.ensures.front) ∙ c.in_ok-option_of.ensures.exact) back c.loop-found.invariant.options);
      begins = rw f (begins_go_on (map (λ option. option.at) c.loop-found.found.items) c.loop-found.begin c.loop-found.rest.now c.in-Some.comma c.in-Some.after.now _ back c.loop-found.invariant.begins);
    }

pub returns-in-None-clause-exact : goal.returns-in-None-clause-exact
returns-in-None-clause-exact c =
    let option = named c.in_ok-option_of.field-0 in
    let e : map named c.push.new.self.items ≡ map named c.loop-found.found.items ++ option ∷ [] = rw c.in_ok-push.ensures.items (map_push _ c.loop-found.found.items c.in_ok-option_of.field-0) in
    options_end (map named c.loop-found.found.items) c.loop-found.begin c.loop-found.rest.now option _
    (ap (λ (front : List Token). option_of (record { at = c.loop-found.begin; tokens = front })) (sym c.cut_at-cut.ensures.front) ∙ c.in_ok-option_of.ensures.exact)
    (sym c.cut_at-cut.ensures.back ∙ ap (option_map (λ b. (b.0, b.1.now))) c.in-None.is) c.loop-found.invariant.options
    ∙ ap (λ (found : List Named). Ok found) (sym e)

pub returns-in_err-option_of-clause-exact : goal.returns-in_err-option_of-clause-exact
returns-in_err-option_of-clause-exact c =
    let p = err_from_is_err_and c.from_residual.result c.from_residual.ensures.1 in
    rw (p.1, p.2) (options_fault c.in_err-option_of.field-0.0 (map named c.loop-found.found.items) c.loop-found.begin c.loop-found.rest.now _
    (subst (λ (front : List Token). Reports c.in_err-option_of.field-0.0 (option_of (record { at = c.loop-found.begin; tokens = front }))) c.cut_at-cut.ensures.front c.in_err-option_of.ensures.exact) c.loop-found.invariant.options)

pub returns-in-None-clause-begins : goal.returns-in-None-clause-begins
returns-in-None-clause-begins c =
    let e : map (λ option. option.at) c.push.new.self.items ≡ map (λ option. option.at) c.loop-found.found.items ++ c.loop-found.begin ∷ [] =
    rw c.in_ok-push.ensures.items (map_push (λ option. option.at) c.loop-found.found.items c.in_ok-option_of.field-0 ∙ ap (λ (at : ℕ). map (λ option. option.at) c.loop-found.found.items ++ at ∷ []) c.in_ok-option_of.ensures.begins) in
    e ∙ begins_end (map (λ option. option.at) c.loop-found.found.items) c.loop-found.begin c.loop-found.rest.now _
    (sym c.cut_at-cut.ensures.back ∙ ap (option_map (λ b. (b.0, b.1.now))) c.in-None.is) c.loop-found.invariant.begins
