use Rattle.std.proofs.Common.{refl, sym, ◌∙◌, ◌∷◌, false}
use Rattle.relay_model.specs.declared.acts.Act.TheVariants as acts
use Rattle.place_openings.specs.Stands.{kept}
use Rattle.place_openings.proofs.Lifting.{moved, asked_before}
use Rattle.place_openings.proofs.Others.{others_named}
use Rattle.place_openings.proofs.session_openings.Openings.hear_entry.Goals as goal

pub returns-then-is_of_session-clause-goes : goal.returns-then-is_of_session-clause-goes
returns-then-is_of_session-clause-goes c = λ cfg past s until at names are. moved _ _ _ cfg (acts.Turn until at (kept names) false ∷ past) _ s c.take.ensures (record { until = until; at = at; names = names; older = past; past_is = refl; later_is = refl }) are

pub returns-else-is_of_session-clause-goes : goal.returns-else-is_of_session-clause-goes
returns-else-is_of_session-clause-goes c = λ cfg past s until at names are. others_named cfg past s until at names c.args.entry _ (sym c.is_of_session.ensures ∙ c.if-is_of_session.false) are

pub returns-then-is_of_session-clause-asked : goal.returns-then-is_of_session-clause-asked
returns-then-is_of_session-clause-asked c = asked_before _ _ _ c.take.ensures (λ p. refl)
