use Rattle.std.proofs.Common.{◌∙◌, ap, length, arith}
use Rattle.event_loop.proofs.Looking.{works_waited, works_named, works_alone, as_many, named_alone, came_then}
use Rattle.event_loop.proofs.Hearing.{on_ok, all_queued, all_came, named_came, parts_of}
use Rattle.event_loop.proofs.all_sessions.Sessions.hear_turn.Goals as goal

pub returns-clause-queued : goal.returns-clause-queued
returns-clause-queued g c = on_ok c.queue_due.result (λ d. all_queued c.args.config.now c.args.self.now c.hear_named.new.self c.queue_named.new.self c.queue_due.new.self c.hear_named.ensures.heard.same c.in_ok-queue_named.ensures.named d) c.queue_due.ensures.due

pub returns-clause-ready : goal.returns-clause-ready
returns-clause-ready g c = c.queue_due.ensures.same.ready_same ∙ (c.queue_named.ensures.same.ready_same ∙ c.hear_named.ensures.heard.same.ready_same)

pub returns-clause-few : goal.returns-clause-few
returns-clause-few g c =
    let e = as_many _ _ c.hear_named.ensures.heard.same.ready_same in
    works_waited _ _ c.args.self.now c.hear_named.new.self c.queue_due.new.self c.hear_named.ensures.heard.same.lists.work_same c.hear_named.ensures.heard.same.lists.timers_same (works_named _ c.hear_named.new.self c.queue_named.new.self c.queue_due.new.self c.queue_named.ensures.few c.queue_named.ensures.same.timers_same c.queue_due.ensures.few) (omega (arith, e))

pub returns-in_err-queue_named-clause-few : goal.returns-in_err-queue_named-clause-few
returns-in_err-queue_named-clause-few g c =
    let e = as_many _ _ c.hear_named.ensures.heard.same.ready_same in
    works_waited _ _ c.args.self.now c.hear_named.new.self c.queue_named.new.self c.hear_named.ensures.heard.same.lists.work_same c.hear_named.ensures.heard.same.lists.timers_same (works_alone _ c.hear_named.new.self c.queue_named.new.self c.queue_named.ensures.few c.queue_named.ensures.same.timers_same) (omega (arith, e))

pub returns-in_err-queue_named-clause-ready : goal.returns-in_err-queue_named-clause-ready
returns-in_err-queue_named-clause-ready g c = c.queue_named.ensures.same.ready_same ∙ c.hear_named.ensures.heard.same.ready_same

pub returns-clause-alone : goal.returns-clause-alone
returns-clause-alone g c =
    let h = c.hear_named.ensures.heard.same in
    let e = as_many _ _ h.ready_same in
    came_then _ c.args.self.now c.hear_named.new.self c.queue_due.new.self h.lists.work_same h.same.clock_same h.lists.timers_same
    (named_alone _ _ c.hear_named.new.self c.queue_named.new.self c.queue_due.new.self c.queue_named.ensures.few c.queue_named.ensures.same.same.clock_same c.queue_named.ensures.same.timers_same (omega (arith, e)) c.queue_due.ensures.alone)

pub returns-in_err-queue_named-clause-alone : goal.returns-in_err-queue_named-clause-alone
returns-in_err-queue_named-clause-alone g c = λ none.
    let h = c.hear_named.ensures.heard.same in
    let e = as_many _ _ h.ready_same in
    let few = c.queue_named.ensures.few in
    let w = ap length h.lists.work_same in
    omega (arith, e, few, w)

pub returns-clause-came : goal.returns-clause-came
returns-clause-came g c = all_came c.args.config.now c.args.self.now c.hear_named.new.self c.queue_named.new.self c.queue_due.new.self c.hear_named.ensures.heard.same c.queue_named.ensures.came c.queue_named.ensures.same c.queue_due.ensures.came

pub returns-in_err-queue_named-clause-came : goal.returns-in_err-queue_named-clause-came
returns-in_err-queue_named-clause-came g c = named_came c.args.config.now c.args.self.now c.hear_named.new.self c.queue_named.new.self c.hear_named.ensures.heard.same c.queue_named.ensures.came

pub returns-clause-parts : goal.returns-clause-parts
returns-clause-parts g c = on_ok c.queue_due.result (λ d. parts_of c.args.self.now c.hear_named.new.self c.queue_named.new.self c.queue_due.new.self c.hear_named.ensures.heard.same c.queue_named.ensures.few c.queue_named.ensures.same d) c.queue_due.ensures.parts
