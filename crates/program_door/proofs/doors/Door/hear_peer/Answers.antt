use Rattle.std.proofs.Common.{sym, ap, ◌∙◌, ◌≡◌, suc, true, false, ◌∷◌, arith}
use Rattle.relay_model.specs.declared.places.Side.TheVariants.{Left}
use Rattle.relay_model.specs.declared.acts.Act.TheVariants as acts
use Rattle.relay_model.specs.Places.{same_place}
use Rattle.relay_model.specs.Configs.{program_door, parts}
use Rattle.relay_model.specs.History.{stage}
use Rattle.relay_model.specs.declared.stages.Stage.TheVariants.{Met}
use Rattle.relay_model.specs.Arming.{armed_to_accept, asked_to_accept}
use Rattle.relay_model.specs.Sessions.{admitted, next_place, first_part, is_admission}
use Rattle.relay_model.specs.declared.calls.Call.TheVariants.{Accept}
use Rattle.program_door.specs.Steps.{stage_weight, weight_if}
use Rattle.program_door.proofs.Calling.{place_apart}
use Rattle.relay_model.specs.Permits.{is_permitted}
use Rattle.program_door.proofs.Moves.{called_next, armed_of, fewer_tries, fewer_peers, listens_already, asked_not, armed_asked, uncut_of, free_of, or_uncut, no_cause, admission_is, admitted_more, admitted_same, door_asked, kept_stage, free_after_admission, met_after, unclosed_beyond, more_wanted}
use Rattle.program_door.proofs.doors.Door.hear_peer.Goals as goal

pub returns-then-permits : goal.returns-then-permits
returns-then-permits c = λ cfg n past s e unasked legal.
    let t = armed_of cfg past (next_place cfg past) e in
    let free = free_of cfg past (Accept program_door (next_place cfg past)) e (λ x. cc) (λ x. cc) in
    let armed : c.args.self.now.armed ≡ true = s.armed_is ∙ t.1 in
    let asked : c.args.self.now.asked ≡ false = s.asked_is ∙ asked_not (armed_to_accept past program_door) (asked_to_accept cfg past program_door) unasked in
    let admits : is_admission cfg (next_place cfg past) c.args.peer ≡ true = admission_is cfg past c.args.peer s.fork ∙ ap (λ f. is_permitted f c.args.peer) (sym s.filter_is) ∙ sym c.permits.ensures ∙ c.if-permits.true in
    let wanted = more_wanted cfg past program_door (next_place cfg past) e in
    let more = admitted_more cfg past c.args.peer admits in
    record {
      may = λ o. (o, (program_door, called_next cfg past (Accept program_door (next_place cfg past)) s.fork e));
      stands = record {
        fork = s.fork;
        part_is = s.part_is;
        filter_is = s.filter_is;
        max_children_is = s.max_children_is;
        stop_after_is = s.stop_after_is;
        stage_is = s.stage_is ∙ kept_stage (same_place (next_place cfg past) program_door) (Met c.args.peer) (stage past program_door) (place_apart (admitted cfg past) (first_part (parts cfg Left)));
        armed_is = s.armed_is;
        unasked = λ h. absurd (listens_already c.args.self.now.stage (stage past program_door) s.stage_is t.0 h);
        asked_is = armed_asked (armed_to_accept past program_door) (asked_to_accept cfg (acts.Accepted (next_place cfg past) c.args.peer ∷ past) program_door) t.1 (door_asked cfg past c.args.peer s.fork);
        tries_are = s.tries_are;
        tried_is = s.tried_is;
        admitted_is =
            let h = c.saturating_add.ensures in
            let r = c.min-self.ensures in
            let a = s.admitted_is in
            let m = s.stop_after_is in
            let k : c.min-self.result ≡ suc (admitted cfg past) = omega (arith, h, r, a, m, wanted) in
            k ∙ sym more;
        refused_is = s.refused_is ∙ free.0 ∙ sym (rw more (free_after_admission cfg n past c.args.peer legal s.fork));
        cut_is = s.cut_is;
        unended = λ h. rw more (unclosed_beyond cfg n past (suc (admitted cfg past)) legal s.fork (omega arith));
      };
      fewer = fewer_tries (stage_weight c.args.self.now.stage c.args.self.now.tried) (weight_if c.args.self.now.refused 1) c.args.self.now.armed c.args.self.now.asked armed asked;
    }

pub returns-else-permits : goal.returns-else-permits
returns-else-permits c = λ cfg n past s e unasked legal.
    let t = armed_of cfg past (next_place cfg past) e in
    let uncut = uncut_of cfg past (Accept program_door (next_place cfg past)) e (λ x. cc) in
    let armed : c.args.self.now.armed ≡ true = s.armed_is ∙ t.1 in
    let asked : c.args.self.now.asked ≡ false = s.asked_is ∙ asked_not (armed_to_accept past program_door) (asked_to_accept cfg past program_door) unasked in
    let admits : is_admission cfg (next_place cfg past) c.args.peer ≡ false = admission_is cfg past c.args.peer s.fork ∙ ap (λ f. is_permitted f c.args.peer) (sym s.filter_is) ∙ sym c.permits.ensures ∙ c.if-permits.false in
    let same = admitted_same cfg past c.args.peer admits in
    record {
      may = λ o. (o, (program_door, called_next cfg past (Accept program_door (next_place cfg past)) s.fork e));
      stands = record {
        fork = s.fork;
        part_is = s.part_is;
        filter_is = s.filter_is;
        max_children_is = s.max_children_is;
        stop_after_is = s.stop_after_is;
        stage_is = s.stage_is ∙ kept_stage (same_place (next_place cfg past) program_door) (Met c.args.peer) (stage past program_door) (place_apart (admitted cfg past) (first_part (parts cfg Left)));
        armed_is = s.armed_is;
        unasked = λ h. absurd (listens_already c.args.self.now.stage (stage past program_door) s.stage_is t.0 h);
        asked_is = armed_asked (armed_to_accept past program_door) (asked_to_accept cfg (acts.Accepted (next_place cfg past) c.args.peer ∷ past) program_door) t.1 (door_asked cfg past c.args.peer s.fork);
        tries_are = s.tries_are;
        tried_is = s.tried_is;
        admitted_is = s.admitted_is ∙ sym same;
        refused_is = sym (rw same (met_after past (next_place cfg past) c.args.peer));
        cut_is = s.cut_is;
        unended = λ h. rw same (s.unended (or_uncut c.args.self.now.refused c.args.self.now.cut (s.cut_is ∙ no_cause past uncut)));
      };
      fewer = fewer_peers (stage_weight c.args.self.now.stage c.args.self.now.tried) c.args.self.now.armed c.args.self.now.asked c.args.self.now.refused armed asked;
    }
