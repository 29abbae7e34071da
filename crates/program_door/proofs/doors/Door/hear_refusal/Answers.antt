use Rattle.std.proofs.Common.{sym, refl, ◌∙◌, ◌≡◌, true, inl, ◌&&◌, not}
use Rattle.relay_model.specs.declared.places.Side.TheVariants.{Left}
use Rattle.relay_model.specs.declared.acts.Why.TheVariants as whys
use Rattle.relay_model.specs.Places.{same_place}
use Rattle.relay_model.specs.Configs.{program_door, parts}
use Rattle.relay_model.specs.History.{stage}
use Rattle.relay_model.specs.declared.stages.Stage.TheVariants.{Gone}
use Rattle.relay_model.specs.Sessions.{admitted, next_place, first_part}
use Rattle.relay_model.specs.declared.calls.Call.TheVariants.{Refuse}
use Rattle.relay_model.specs.May.{by_refusal}
use Rattle.program_door.specs.Steps.{stage_weight, weight_if}
use Rattle.program_door.proofs.Calling.{place_apart}
use Rattle.program_door.proofs.Moves.{called_next, held_of_refusal, kept_stage, free_after, unended_by_refusal, fewer_refused, or_true}
use Rattle.program_door.proofs.doors.Door.hear_refusal.Goals as goal

pub returns : goal.returns
returns c = λ cfg n past s e.
    let h = held_of_refusal cfg past (next_place cfg past) e in
    let stands : c.args.self.now.refused ≡ true = s.refused_is ∙ h in
    record {
      may = λ o. record { is_held = h; licensed = by_refusal refl (called_next cfg past (Refuse (next_place cfg past)) s.fork e); timely = inl o };
      stands = record {
        fork = s.fork;
        part_is = s.part_is;
        filter_is = s.filter_is;
        max_children_is = s.max_children_is;
        stop_after_is = s.stop_after_is;
        stage_is = s.stage_is ∙ kept_stage (same_place (next_place cfg past) program_door) (Gone whys.Refused) (stage past program_door) (place_apart (admitted cfg past) (first_part (parts cfg Left)));
        armed_is = s.armed_is;
        unasked = s.unasked;
        asked_is = s.asked_is;
        tries_are = s.tries_are;
        tried_is = s.tried_is;
        admitted_is = s.admitted_is;
        refused_is = sym (free_after past (next_place cfg past) whys.Refused);
        cut_is = s.cut_is;
        unended = λ _. unended_by_refusal cfg past (next_place cfg past) (admitted cfg past) ∙ s.unended (or_true c.args.self.now.refused _ stands);
      };
      fewer = fewer_refused (stage_weight c.args.self.now.stage c.args.self.now.tried) (weight_if (c.args.self.now.armed && not c.args.self.now.asked) 2) c.args.self.now.refused stands;
    }
