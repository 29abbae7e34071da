use Rattle.std.proofs.Common.{sym, ap, ◌∙◌}
use Rattle.place_openings.specs.Queries.{first_of, held_by}
use Rattle.place_openings.proofs.Asked.{some_held, none_held}
use Rattle.place_openings.proofs.session_openings.Openings.held_thing.Goals as goal

pub returns-clause-some : goal.returns-clause-some
returns-clause-some c = λ cfg past s q are e.
    some_held cfg past s c.args.self.now q are (ap (first_of held_by) (sym c.as_slice.ensures) ∙ (sym c.first_held.ensures ∙ e))

pub returns-clause-none : goal.returns-clause-none
returns-clause-none c = λ cfg past s are e.
    none_held cfg past s c.args.self.now are (ap (first_of held_by) (sym c.as_slice.ensures) ∙ (sym c.first_held.ensures ∙ e))
