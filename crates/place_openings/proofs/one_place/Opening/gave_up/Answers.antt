use Rattle.std.proofs.Common.{ap, ◌&&◌}
use Rattle.relay_model.specs.Places.{same_bool}
use Rattle.relay_model.specs.Openings.{out_of_tries}
use Rattle.place_openings.specs.Stands.{tried_at}
use Rattle.place_openings.proofs.Asked.{out_by}
use Rattle.place_openings.proofs.one_place.Opening.gave_up.Goals as goal

pub returns : goal.returns
returns c = λ cfg past p i.
    let e = c.gives_up.ensures _ _ _ _ i.tries_are in
    rw (e, out_by c.args.self.now.has_door cfg past p) (ap (λ b. same_bool b c.args.has_door && out_of_tries cfg past (tried_at b p)) i.has_door_is)
