use Rattle.std.proofs.Common.{sym, subst, ◌∙◌}
use Rattle.relay_model.specs.Configs.{places}
use Rattle.place_openings.specs.Stands.{Each}
use Rattle.place_openings.proofs.GivingUp.{doors_told}
use Rattle.place_openings.proofs.session_openings.Openings.failed_listening.Goals as goal

pub returns-clause-first : goal.returns-clause-first
returns-clause-first c = λ cfg past s are.
    c.attempts_told.ensures ∙ (doors_told cfg past (places cfg s) _ (c.first_given_up.ensures cfg past (places cfg s) (subst (Each cfg past (places cfg s)) (sym c.as_slice.ensures) are.each))).first

pub returns-clause-can_count : goal.returns-clause-can_count
returns-clause-can_count c = λ cfg past s are.
    (doors_told cfg past (places cfg s) _ (c.first_given_up.ensures cfg past (places cfg s) (subst (Each cfg past (places cfg s)) (sym c.as_slice.ensures) are.each))).can_count
