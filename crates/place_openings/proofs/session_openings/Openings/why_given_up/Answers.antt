use Rattle.std.proofs.Common.{sym, subst}
use Rattle.relay_model.specs.Configs.{places}
use Rattle.place_openings.specs.Stands.{Each}
use Rattle.place_openings.proofs.Summing.{each_tried}
use Rattle.place_openings.proofs.session_openings.Openings.why_given_up.Goals as goal

pub returns : goal.returns
returns c = λ cfg past s are.
    c.self.invariant.1.given_up_is cfg past s (each_tried cfg past (places cfg s) _ (subst (Each cfg past (places cfg s)) (sym c.self.view_is) are.each))
