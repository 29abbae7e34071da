use Rattle.std.proofs.Common.{◌∙◌, sym}
use Rattle.session_direction.proofs.Holding.{holding_wants_nothing}
use Rattle.session_direction.proofs.Wanted.{passed_wants_nothing}
use Rattle.session_direction.proofs.directions.Direction.want.Goals as goal

pub returns-then-has_passed-clause-wants : goal.returns-then-has_passed-clause-wants
returns-then-has_passed-clause-wants c =
    λ k past s w f clock runs blocks. passed_wants_nothing k past s w _ f (sym (c.has_passed.ensures.stands k past s w f) ∙ c.if-has_passed.true)

pub returns-in-Read-clause-wants : goal.returns-in-Read-clause-wants
returns-in-Read-clause-wants c =
    λ k past s w f clock runs blocks.
    c.want_to_read.ensures.reads k past s w _ f clock runs (sym (c.is_broken.ensures.stands k past s w f) ∙ c.if-is_broken.false) (sym (c.has_passed.ensures.stands k past s w f) ∙ c.if-has_passed.false) c.in-Read.is

pub returns-then-holds_enough-clause-wants : goal.returns-then-holds_enough-clause-wants
returns-then-holds_enough-clause-wants c =
    λ k past s w f clock runs blocks.
    holding_wants_nothing k past s w _ f blocks (sym (c.is_spent.ensures k past s w f) ∙ c.if-is_spent.false) (c.holds_enough.ensures.asked c.if-holds_enough.true) (c.holds_enough.ensures.waits c.if-holds_enough.true)
