use Rattle.std.proofs.Common.{sym, ap, ◌∙◌}
use Rattle.place_openings.specs.Queries.{first_of, child_by}
use Rattle.place_openings.proofs.Asked.{some_child}
use Rattle.place_openings.proofs.session_openings.Openings.child.Goals as goal

pub returns-clause-some : goal.returns-clause-some
returns-clause-some c = λ cfg past s q are e.
    some_child cfg past s c.args.self.now q are (ap (first_of child_by) (sym c.as_slice.ensures) ∙ (sym c.first_child.ensures ∙ e))

pub returns-clause-none : goal.returns-clause-none
returns-clause-none c = λ e. ap (first_of child_by) (sym c.as_slice.ensures) ∙ (sym c.first_child.ensures ∙ e)

pub returns-clause-state : goal.returns-clause-state
returns-clause-state c = c.first_child.ensures ∙ ap (first_of child_by) c.as_slice.ensures
