use Rattle.std.proofs.Common.{sym, ◌∙◌, refl}
use Rattle.std.proofs.lemmas.Bool.{false≢true}
use Rattle.relay_model.specs.declared.places.Side.TheVariants.{Left}
use Rattle.relay_model.specs.Places.{same_place}
use Rattle.relay_model.specs.Configs.{program_door, parts}
use Rattle.relay_model.specs.History.{stage}
use Rattle.relay_model.specs.declared.stages.Stage.TheVariants.{Waiting}
use Rattle.relay_model.specs.Arming.{armed_to_accept, asked_to_accept}
use Rattle.relay_model.specs.Sessions.{admitted, next_place, first_part}
use Rattle.relay_model.specs.declared.calls.Call.TheVariants.{Listen}
use Rattle.program_door.specs.Steps.{stage_weight, weight_if}
use Rattle.program_door.proofs.Calling.{door_apart}
use Rattle.program_door.proofs.Moves.{called_door, can_listen, kept_held, asked_not, fewer_listens}
use Rattle.program_door.proofs.doors.Door.hear_listening.Goals as goal

pub returns : goal.returns
returns c = λ cfg n past s e.
    let k = can_listen cfg past c.args.self.now.stage c.args.self.now.tried s.stage_is s.tried_is e in
    let unasked = s.unasked k.before in
    record {
      may = λ o. (o, called_door cfg past (Listen program_door) s.fork e);
      stands = record {
        fork = s.fork;
        part_is = s.part_is;
        filter_is = s.filter_is;
        max_children_is = s.max_children_is;
        stop_after_is = s.stop_after_is;
        stage_is = refl;
        armed_is = refl;
        unasked = λ x. absurd (false≢true x);
        asked_is = s.asked_is ∙ asked_not (armed_to_accept past program_door) (asked_to_accept cfg past program_door) unasked ∙ sym unasked;
        tries_are = s.tries_are;
        tried_is = s.tried_is;
        admitted_is = s.admitted_is;
        refused_is = s.refused_is ∙ kept_held (same_place program_door (next_place cfg past)) Waiting (stage past (next_place cfg past)) (door_apart (admitted cfg past) (first_part (parts cfg Left)));
        cut_is = s.cut_is;
        unended = s.unended;
      };
      fewer = fewer_listens (stage_weight c.args.self.now.stage c.args.self.now.tried) (weight_if c.args.self.now.refused 1) c.args.self.now.armed c.args.self.now.asked k.weight;
    }
