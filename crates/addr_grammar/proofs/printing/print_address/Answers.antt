use Rattle.std.proofs.Common.{◌∙◌, ap, List, ℕ, ◌++◌}
use Rattle.addr_grammar.specs.Printing.{printed}
use Rattle.addr_grammar.proofs.Again.{again}
use Rattle.addr_grammar.proofs.Spelled.{spelled_again}
use Rattle.addr_grammar.proofs.printing.print_address.Goals as goal

pub returns-clause-again : goal.returns-clause-again
returns-clause-again c =
    again c.args.address.now c.deref.result.now c.of.result c.in_ok-push_address.ensures.fits
    (c.deref.ensures.value ∙ c.in_ok-push_address.ensures.text ∙ ap (λ (xs : List ℕ). xs ++ printed c.args.address.now) c.new-out.ensures.items) c.of.ensures

pub returns-clause-spells : goal.returns-clause-spells
returns-clause-spells c = spelled_again c.args.address.now c.of.result (returns-clause-again c)
