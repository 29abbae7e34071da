use Rattle.std.proofs.Common.{refl, ◌∙◌, inl, arith}
use Rattle.std.proofs.lemmas.Bool.{false≢true}
use Rattle.relay_model.specs.declared.places.Side.TheVariants.{Left}
use Rattle.relay_model.specs.declared.acts.Why.TheVariants as whys
use Rattle.relay_model.specs.Places.{same_place}
use Rattle.relay_model.specs.Configs.{program_door, parts}
use Rattle.relay_model.specs.History.{stage}
use Rattle.relay_model.specs.declared.stages.Stage.TheVariants.{Gone}
use Rattle.relay_model.specs.Sessions.{admitted, next_place, first_part}
use Rattle.relay_model.specs.declared.calls.Call.TheVariants.{Serve}
use Rattle.relay_model.specs.May.{by_service}
use Rattle.program_door.proofs.Calling.{door_apart}
use Rattle.program_door.proofs.Moves.{called_door, held_of_service, kept_held, unended_by_service, door_weight, held_door}
use Rattle.program_door.proofs.doors.Door.hear_serving.Goals as goal

pub returns : goal.returns
returns c = λ cfg n past s e.
    let h = held_of_service cfg past program_door e in
    let weight = door_weight c.args.self.now.stage c.args.self.now.tried (held_door c.args.self.now.stage (stage past program_door) s.stage_is h) in
    record {
      may = λ o. record { is_held = h; licensed = by_service refl (called_door cfg past (Serve program_door) s.fork e); timely = inl o };
      stands = record {
        fork = s.fork;
        part_is = s.part_is;
        filter_is = s.filter_is;
        max_children_is = s.max_children_is;
        stop_after_is = s.stop_after_is;
        stage_is = refl;
        armed_is = s.armed_is;
        unasked = λ x. absurd (false≢true x);
        asked_is = s.asked_is;
        tries_are = s.tries_are;
        tried_is = s.tried_is;
        admitted_is = s.admitted_is;
        refused_is = s.refused_is ∙ kept_held (same_place program_door (next_place cfg past)) (Gone whys.Served) (stage past (next_place cfg past)) (door_apart (admitted cfg past) (first_part (parts cfg Left)));
        cut_is = s.cut_is;
        unended = λ x. unended_by_service cfg past (admitted cfg past) ∙ s.unended x;
      };
      fewer = omega (arith, weight);
    }
