use Rattle.event_loop.proofs.Hearing.{lives_first, lives_next, queued_first, queued_next, work_itself}
use Rattle.event_loop.proofs.all_sessions.Sessions.queue_all.Goals as goal

pub loop-next-init : goal.loop-next-init
loop-next-init c = record { queued = queued_first c.args.self.now _ c.first_from-next.ensures; same = work_itself c.args.self.now; lives = lives_first c.args.self.now _ c.first_from-next.ensures }

pub loop-next-preserved : goal.loop-next-preserved
loop-next-preserved c = record {
  queued = queued_next c.in-Some.number c.loop-next.self.table c.loop-next.self.work.items c.push_back.new.self.items _ (rw c.in-Some.is at c.loop-next.invariant.queued) c.in_ok-push_back.ensures.items c.next_after-next.ensures;
  same = (let i = c.loop-next.invariant.same in record { table_same = i.table_same; timers_same = i.timers_same; same = (let r = i.same in record { door_same = r.door_same; pending_session_same = r.pending_session_same; clock_same = r.clock_same; made_same = r.made_same; scratch_same = r.scratch_same; admitted_same = r.admitted_same; bounds_same = r.bounds_same }); ready_same = i.ready_same });
  lives = λ idle. lives_next c.in-Some.number c.loop-next.self.table c.loop-next.self.work.items c.push_back.new.self.items _ ((rw c.in-Some.is at c.loop-next.invariant.lives) idle) c.in_ok-push_back.ensures.items c.next_after-next.ensures;
}

pub returns-clause-all : goal.returns-clause-all
returns-clause-all c = rw c.in_default.is at c.loop-next.invariant.queued

pub returns-clause-lives : goal.returns-clause-lives
returns-clause-lives c = λ idle. (let r = (rw c.in_default.is at c.loop-next.invariant.lives) idle in record { once = r.0; lives = r.1 })
