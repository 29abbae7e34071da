use Rattle.event_loop.specs.Endings.{CutRow}
use Rattle.event_loop.proofs.RowRuns.{rest_itself, rest_then, lists_itself, lists_then}
use Rattle.event_loop.proofs.LivingRows.{looks_first, looks_next}
use Rattle.event_loop.proofs.RowLoops.{rows_first, rows_next}
use Rattle.event_loop.proofs.Spreading.{cut_none}
use Rattle.event_loop.proofs.all_sessions.Sessions.cut_rows.Goals as goal

pub loop-next-init : goal.loop-next-init
loop-next-init g c = record { rows = rows_first (CutRow c.args.self.now.made c.args.self.now.clock c.args.why) (cut_none c.args.self.now.made c.args.self.now.clock c.args.why) c.args.self.now _ c.first_from-next.ensures; same = rest_itself c.args.self.now; lists = lists_itself c.args.self.now; looks = looks_first c.args.self.now _ _ c.first_from-next.ensures }

pub loop-next-preserved : goal.loop-next-preserved
loop-next-preserved g c = record {
  rows = rows_next (CutRow c.args.self.now.made c.args.self.now.clock c.args.why) (cut_none c.args.self.now.made c.args.self.now.clock c.args.why) c.in-Some.number c.args.self.now c.loop-next.self _ _ (rw c.in-Some.is at c.loop-next.invariant.rows) (rw (c.loop-next.invariant.same.made_same, c.loop-next.invariant.same.clock_same) at c.cut_row.ensures.cuts.row) c.cut_row.ensures.cuts.others c.next_after-next.ensures;
  same = rest_then c.args.self.now c.loop-next.self _ c.loop-next.invariant.same c.cut_row.ensures.cuts.same;
  lists = lists_then c.args.self.now c.loop-next.self _ c.loop-next.invariant.lists c.cut_row.ensures.cuts.lists;
  looks = looks_next c.in-Some.number c.args.self.now c.loop-next.self c.cut_row.new.self _ _ _ _ (rw c.in-Some.is at c.loop-next.invariant.looks) (rw c.in-Some.is at c.loop-next.invariant.rows).1 c.cut_row.ensures.cuts.others c.cut_row.ensures.looks c.next_after-next.ensures;
}

pub returns-clause-looks : goal.returns-clause-looks
returns-clause-looks g c = rw c.in_default.is at c.loop-next.invariant.looks

pub returns-clause-cuts : goal.returns-clause-cuts
returns-clause-cuts g c = record { rows = rw c.in_default.is at c.loop-next.invariant.rows; same = c.loop-next.invariant.same; lists = c.loop-next.invariant.lists }
