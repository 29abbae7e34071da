use Rattle.std.proofs.Common.{sym, refl, ◌∙◌, arith}
use Rattle.relay_model.specs.declared.places.Side.TheVariants.{Left}
use Rattle.relay_model.specs.Places.{same_place}
use Rattle.relay_model.specs.Configs.{program_door, parts}
use Rattle.relay_model.specs.History.{stage, held, holds_at, failures}
use Rattle.relay_model.specs.declared.stages.Stage.TheVariants.{Gone, Met}
use Rattle.relay_model.specs.Sessions.{admitted, next_place, first_part, door_options}
use Rattle.relay_model.specs.declared.calls.Call.TheVariants.{Listen}
use Rattle.program_door.proofs.Calling.{door_apart}
use Rattle.program_door.proofs.Moves.{called_door, can_listen, kept_held}
use Rattle.relay_model.specs.declared.stages.Stage.TheVariants as stages
use Rattle.program_door.proofs.doors.Door.hear_listen_failure.Goals as goal

pub returns : goal.returns
returns c = λ cfg n past s e same.
    let k = can_listen cfg past c.args.self.now.stage c.args.self.now.tried s.stage_is s.tried_is e in
    let weight = k.weight in
    record {
      may = λ o. (o, called_door cfg past (Listen program_door) s.fork e);
      stands = record {
        fork = s.fork;
        part_is = s.part_is;
        filter_is = s.filter_is;
        max_children_is = s.max_children_is;
        stop_after_is = s.stop_after_is;
        stage_is = refl;
        armed_is = s.armed_is;
        unasked = λ _. s.unasked k.before;
        asked_is = s.asked_is;
        tries_are = rw (sym same) (c.failed.ensures (door_options cfg).tries.retry (door_options cfg).tries.forever (door_options cfg).tries.interval (failures past program_door) s.tries_are);
        tried_is = λ _. refl;
        admitted_is = s.admitted_is;
        refused_is = s.refused_is ∙ kept_held (same_place program_door (next_place cfg past)) stages.Failed (stage past (next_place cfg past)) (door_apart (admitted cfg past) (first_part (parts cfg Left)));
        cut_is = s.cut_is;
        unended = s.unended;
      };
      fewer = omega (arith, weight);
    }
