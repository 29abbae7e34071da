use Rattle.std.proofs.Common.{sym, refl, ◌∙◌, ◌≡◌, true, false}
use Rattle.relay_model.specs.Configs.{program_door}
use Rattle.relay_model.specs.History.{stage}
use Rattle.relay_model.specs.Arming.{armed_to_accept, asked_to_accept}
use Rattle.relay_model.specs.Sessions.{next_place}
use Rattle.relay_model.specs.declared.calls.Call.TheVariants.{Accept}
use Rattle.program_door.specs.Steps.{stage_weight, weight_if}
use Rattle.program_door.proofs.Moves.{called_door, armed_of, fewer_tries, listens_already, asked_not, armed_asked, uncut_of, cut_after_failure, or_uncut, no_cause}
use Rattle.program_door.proofs.doors.Door.hear_accept_failure.Goals as goal

pub returns : goal.returns
returns c = λ cfg n past s e unasked.
    let t = armed_of cfg past (next_place cfg past) e in
    let uncut = uncut_of cfg past (Accept program_door (next_place cfg past)) e (λ x. cc) in
    let armed : c.args.self.now.armed ≡ true = s.armed_is ∙ t.1 in
    let asked : c.args.self.now.asked ≡ false = s.asked_is ∙ asked_not (armed_to_accept past program_door) (asked_to_accept cfg past program_door) unasked in
    record {
      may = λ o. (o, (next_place cfg past, called_door cfg past (Accept program_door (next_place cfg past)) s.fork e));
      stands = record {
        fork = s.fork;
        part_is = s.part_is;
        filter_is = s.filter_is;
        max_children_is = s.max_children_is;
        stop_after_is = s.stop_after_is;
        stage_is = s.stage_is;
        armed_is = s.armed_is;
        unasked = λ h. absurd (listens_already c.args.self.now.stage (stage past program_door) s.stage_is t.0 h);
        asked_is = armed_asked (armed_to_accept past program_door) true t.1 refl;
        tries_are = s.tries_are;
        tried_is = s.tried_is;
        admitted_is = s.admitted_is;
        refused_is = s.refused_is;
        cut_is = sym (cut_after_failure past uncut);
        unended = λ h. s.unended (or_uncut c.args.self.now.refused c.args.self.now.cut (s.cut_is ∙ no_cause past uncut));
      };
      fewer = fewer_tries (stage_weight c.args.self.now.stage c.args.self.now.tried) (weight_if c.args.self.now.refused 1) c.args.self.now.armed c.args.self.now.asked armed asked;
    }
