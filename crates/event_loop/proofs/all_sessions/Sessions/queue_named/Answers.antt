use Rattle.std.proofs.Common.{refl, sym, ap, subst, ◌∙◌, inl, slice_get, arith}
use Rattle.relay_model.specs.Readiness.{Listed}
use Rattle.event_loop.specs.Rows.{Has}
use Rattle.event_loop.proofs.Hearing.{none_queued, door_queued, row_queued, one_longer, name_came, none_came, names_all}
use Rattle.event_loop.proofs.all_sessions.Sessions.queue_named.Goals.{then-not-is_program_door+in_ok-push_back, else-not-is_program_door}
use Rattle.event_loop.proofs.all_sessions.Sessions.queue_named.Goals as goal

pub loop-i-init : goal.loop-i-init
loop-i-init c = record { queued = none_queued c.args.config.now c.args.self.now; few = omega arith; came = λ s h. inl h }

pub loop-i-preserved : goal.loop-i-preserved
loop-i-preserved c =
    let got = (ap (λ (l : Listed). slice_get l.entries c.loop-i.i) (sym c.loop-i.invariant.queued.same.ready_same) ∙ c.get.ensures) in
    elim c.if-not-is_program_door.branch [
      | then-not-is_program_door+in_ok-push_back w ↦
          record {
            queued = row_queued c.args.config.now c.args.self.now c.loop-i.self c.if-not-is_program_door.self c.loop-i.i c.get.result got (sym c.is_program_door.ensures ∙ w.if-not-is_program_door.true) c.loop-i.invariant.queued (rw w.self-is w.in_ok-push_back.ensures.items)
                (rw w.self-is (record { table_same = refl; timers_same = refl; same = record { door_same = refl; pending_session_same = refl; clock_same = refl; made_same = refl; scratch_same = refl; admitted_same = refl; bounds_same = (refl, refl) }; ready_same = refl }));
            few = (let l = c.loop-i.invariant.few in let m = one_longer c.loop-i.self.work.items c.if-not-is_program_door.self.work.items c.get.result.place.session (rw w.self-is w.in_ok-push_back.ensures.items) in omega (arith, l, m));
            came = name_came c.args.config.now c.args.self.now c.loop-i.self c.if-not-is_program_door.self.work.items c.loop-i.i c.get.result got (sym c.is_program_door.ensures ∙ w.if-not-is_program_door.true) (rw w.self-is w.in_ok-push_back.ensures.items) c.loop-i.invariant.came;
          }
      | else-not-is_program_door w ↦ rw w.self-is (record { queued = door_queued c.args.config.now c.args.self.now c.loop-i.self c.loop-i.i c.get.result got (sym c.is_program_door.ensures ∙ w.if-not-is_program_door.false) c.loop-i.invariant.queued; few = (let l = c.loop-i.invariant.few in omega (arith, l)); came = none_came c.args.config.now c.args.self.now c.loop-i.self c.loop-i.i c.get.result got c.loop-i.invariant.came })
    ]

pub returns-clause-came : goal.returns-clause-came
returns-clause-came c = names_all c.args.config.now c.args.self.now c.loop-i.self c.loop-i.i c.loop-i.invariant.came

pub returns-in_err-push_back-clause-came : goal.returns-in_err-push_back-clause-came
returns-in_err-push_back-clause-came c = λ s h. names_all c.args.config.now c.args.self.now c.loop-i.self c.loop-i.i c.loop-i.invariant.came s (subst (Has s) c.in_err-push_back.ensures.items h)
