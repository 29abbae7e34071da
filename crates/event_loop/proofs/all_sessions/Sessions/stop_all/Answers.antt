use Rattle.std.proofs.Common.{true}
use Rattle.event_loop.specs.Turns.{HearsRow}
use Rattle.event_loop.proofs.LivingRows.{looks_first, looks_next}
use Rattle.event_loop.proofs.RowLoops.{rows_first}
use Rattle.event_loop.proofs.Hearing.{heard_none, rows_heard_next, besides_itself, besides_then}
use Rattle.event_loop.proofs.all_sessions.Sessions.stop_all.Goals as goal

pub loop-next-init : goal.loop-next-init
loop-next-init g c = record {
  rows = rows_first (λ s. HearsRow c.args.self.now.made c.args.self.now.clock c.args.self.now.ready true) (heard_none c.args.self.now.made c.args.self.now.clock c.args.self.now.ready true) c.args.self.now _ c.first_from-next.ensures;
  same = besides_itself c.args.self.now;
  looks = looks_first c.args.self.now _ _ c.first_from-next.ensures;
}

pub loop-next-preserved : goal.loop-next-preserved
loop-next-preserved g c =
    let i = c.loop-next.invariant in
    let r = c.stop_row.ensures.heard in
    record {
      rows = rows_heard_next c.in-Some.number c.args.self.now c.loop-next.self _ _ (rw c.in-Some.is at i.rows) i.same r c.next_after-next.ensures;
      same = besides_then c.args.self.now c.loop-next.self _ i.same r.same;
      looks = looks_next c.in-Some.number c.args.self.now c.loop-next.self c.stop_row.new.self _ _ _ _ (rw c.in-Some.is at i.looks) (rw c.in-Some.is at i.rows).1 r.others c.stop_row.ensures.looks c.next_after-next.ensures;
    }

pub returns-clause-looks : goal.returns-clause-looks
returns-clause-looks g c = rw c.in_default.is at c.loop-next.invariant.looks

pub returns-clause-heard : goal.returns-clause-heard
returns-clause-heard g c = let i = c.loop-next.invariant in record { rows = rw c.in_default.is at i.rows; same = i.same }
