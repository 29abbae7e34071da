use Rattle.std.proofs.Common.{ap, ◌∙◌}
use Rattle.relay_model.specs.Configs.{places}
use Rattle.relay_session.specs.Told.{told_opening}
use Rattle.relay_session.proofs.Attempts.{opening_exact}
use Rattle.relay_session.proofs.sessions.Session.failed_opening.Goals as goal

pub returns : goal.returns
returns c = λ cfg n past s stands legal.
    let are = stands.fields.ground.openings_are in
    ap told_opening (c.failed_opening.ensures.first cfg past s are) ∙ opening_exact cfg n past (places cfg s) legal (c.failed_opening.ensures.can_count cfg past s are)
