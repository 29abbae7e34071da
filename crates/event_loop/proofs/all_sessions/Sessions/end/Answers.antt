use Rattle.std.proofs.Common.{◌∷◌, true, [], arith}
use Rattle.relay_model.specs.declared.acts.Act.TheVariants.{Turn}
use Rattle.relay_model.specs.Readiness.{copied_list}
use Rattle.relay_model.specs.declared.acts.Why.TheVariants as whys
use Rattle.event_loop.proofs.AfterCuts.{after_cut, after_stop}
use Rattle.event_loop.proofs.Leavings.{leaving_at}
use Rattle.event_loop.proofs.Turning.{stopped_all}
use Rattle.event_loop.proofs.all_sessions.Sessions.end.Goals as goal

pub leave-requires : goal.leave-requires
leave-requires g c = let at = c.requires in let e = rw c.in-Ends.is at at.end_is in record { n = at.n; start = at.start; left = record { past = e.past; leaving = leaving_at c.args.config.now at.n at.start _ c.in-Ends.why c.args.self.now _ e c.cut_rows.ensures.cuts } }

pub returns-in-Ends : goal.returns-in-Ends
returns-in-Ends g c = rw c.in-Ends.is (λ n start e.
    let l = c.leave.ensures n start (record { past = e.past; leaving = leaving_at c.args.config.now n start _ c.in-Ends.why c.args.self.now _ e c.cut_rows.ensures.cuts }) in
    after_cut c.args.config.now n start _ e.past c.in-Ends.why c.args.self.now _ _ _ _ _ c.cut_rows.ensures.cuts c.cut_rows.ensures.looks l)

pub leave-requires-in-Short : goal.leave-requires-in-Short
leave-requires-in-Short g c = let at = c.requires in let e = rw c.in-Short.is at at.end_is in record { n = at.n; start = at.start; left = record { past = e.ends.past; leaving = leaving_at c.args.config.now at.n at.start _ whys.Memory c.args.self.now _ e.ends c.cut_rows-in-Short.ensures.cuts } }

pub returns-in-Short : goal.returns-in-Short
returns-in-Short g c = rw c.in-Short.is (λ n start e.
    let l = c.leave-in-Short.ensures n start (record { past = e.ends.past; leaving = leaving_at c.args.config.now n start _ whys.Memory c.args.self.now _ e.ends c.cut_rows-in-Short.ensures.cuts }) in
    after_cut c.args.config.now n start _ e.ends.past whys.Memory c.args.self.now _ _ _ _ _ c.cut_rows-in-Short.ensures.cuts c.cut_rows-in-Short.ensures.looks l)

pub leave-requires-in-Stops : goal.leave-requires-in-Stops
leave-requires-in-Stops g c = let at = c.requires in let e = rw c.in-Stops.is at at.end_is in record { n = at.n; start = at.start; left = record { past = Turn e.until c.args.self.now.clock (copied_list c.args.self.now.ready) true ∷ e.past; leaving = stopped_all c.args.config.now at.n at.start _ c.args.self.now _ e c.stop_all.ensures.heard } }

pub returns-in-Stops : goal.returns-in-Stops
returns-in-Stops g c = rw c.in-Stops.is (λ n start e.
    let l = c.leave-in-Stops.ensures n start (record { past = Turn e.until c.args.self.now.clock (copied_list c.args.self.now.ready) true ∷ e.past; leaving = stopped_all c.args.config.now n start _ c.args.self.now _ e c.stop_all.ensures.heard }) in
    after_stop c.args.config.now n start _ (Turn e.until c.args.self.now.clock (copied_list c.args.self.now.ready) true ∷ e.past) c.args.self.now _ _ _ _ _ c.stop_all.ensures.heard c.stop_all.ensures.looks l)

pub returns-in-Over : goal.returns-in-Over
returns-in-Over g c = rw c.in-Over.is (λ n start e. record { made = []; ended = c.outcome_over.ensures c.args.config.now n start _ e.0 e.1; turned_is = e.0.course.frame.made_is; few = omega arith })

pub outcome_over-requires : goal.outcome_over-requires
outcome_over-requires g c = let at = c.requires in let e = rw c.in-Over.is at at.end_is in record { c = c.args.config.now; n = at.n; start = at.start; now = _; over = e.0 }
