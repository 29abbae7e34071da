use Rattle.std.proofs.Common.{ap, ◌∙◌}
use Rattle.relay_model.specs.Configs.{own_doors}
use Rattle.relay_session.specs.Told.{told_listening}
use Rattle.relay_session.proofs.Attempts.{listening_exact}
use Rattle.relay_session.proofs.sessions.Session.failed_listening.Goals as goal

pub returns : goal.returns
returns c = λ cfg n past s stands legal.
    let are = stands.fields.ground.openings_are in
    ap told_listening (c.failed_listening.ensures.first cfg past s are) ∙ listening_exact cfg n past (own_doors cfg s) legal (c.failed_listening.ensures.can_count cfg past s are)
