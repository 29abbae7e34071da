use Rattle.std.proofs.Common.{◌∙◌}
use Rattle.event_loop.proofs.Cutting.{some_cut, some_on, lives_on, ends_first, ends_next, ends_by, ends_done}
use Rattle.event_loop.proofs.RowRuns.{fewer_works, rest_itself, rest_then}
use Rattle.event_loop.proofs.all_sessions.Sessions.end_queued.Goals as goal

pub loop-number-init : goal.loop-number-init
loop-number-init g c = record { ends = ends_first c.args.config.now _ _ c.args.self.now; lives = c.requires.lives; same = rest_itself c.args.self.now }

pub run_row-requires : goal.run_row-requires
run_row-requires g c = record { course = some_cut c.args.config.now _ c.in-Some.number c.loop-number.self c.take_work.new.self c.cut_row.new.self (some_on c.args.config.now _ _ _ _ c.args.self.now c.loop-number.self c.requires.ending c.loop-number.invariant.ends) c.in-Some.ensures c.cut_row.ensures.cuts }

pub loop-number-preserved : goal.loop-number-preserved
loop-number-preserved g c = record {
  ends = ends_next c.args.config.now _ _ _ _ _ _ _ c.in-Some.number c.args.self.now c.loop-number.self c.take_work.new.self c.cut_row.new.self c.run_row.new.self c.loop-number.invariant.ends c.loop-number.invariant.lives c.in-Some.ensures c.cut_row.ensures.cuts c.in_default-run_row.ensures.runs c.cut_row.ensures.looks c.run_row.ensures.looks;
  lives = lives_on c.in-Some.number c.loop-number.self c.take_work.new.self c.cut_row.new.self c.run_row.new.self c.loop-number.invariant.lives c.in-Some.ensures c.cut_row.ensures.cuts c.in_default-run_row.ensures.runs.1;
  same = rest_then c.args.self.now c.loop-number.self c.run_row.new.self c.loop-number.invariant.same (rest_then c.loop-number.self c.take_work.new.self c.run_row.new.self c.in-Some.ensures.same (rest_then c.take_work.new.self c.cut_row.new.self c.run_row.new.self c.cut_row.ensures.cuts.same c.run_row.ensures.rest));
}

pub loop-number-smaller : goal.loop-number-smaller
loop-number-smaller g c = fewer_works c.in-Some.number c.loop-number.self c.take_work.new.self c.run_row.new.self c.in-Some.ensures (c.in_default-run_row.ensures.runs.1.work_same ∙ c.cut_row.ensures.cuts.lists.work_same)

pub returns-clause-paid : goal.returns-clause-paid
returns-clause-paid g c = ends_done c.args.config.now _ _ _ _ c.args.self.now c.loop-number.self c.take_work.new.self c.loop-number.invariant.ends c.in_default.ensures

pub returns-clause-rest : goal.returns-clause-rest
returns-clause-rest g c = rest_then c.args.self.now c.loop-number.self c.take_work.new.self c.loop-number.invariant.same c.in_default.ensures.same

pub returns-in-Some-run_row-clause-paid : goal.returns-in-Some-run_row-clause-paid
returns-in-Some-run_row-clause-paid g c = ends_by c.args.config.now _ _ _ _ _ _ _ c.in-Some.number _ c.args.self.now c.loop-number.self c.take_work.new.self c.cut_row.new.self c.run_row.new.self c.loop-number.invariant.ends c.in-Some.ensures c.cut_row.ensures.cuts c.in-Some-run_row.ensures.runs c.cut_row.ensures.looks c.run_row.ensures.looks

pub returns-in-Some-run_row-clause-rest : goal.returns-in-Some-run_row-clause-rest
returns-in-Some-run_row-clause-rest g c = rest_then c.args.self.now c.loop-number.self c.run_row.new.self c.loop-number.invariant.same (rest_then c.loop-number.self c.take_work.new.self c.run_row.new.self c.in-Some.ensures.same (rest_then c.take_work.new.self c.cut_row.new.self c.run_row.new.self c.cut_row.ensures.cuts.same c.run_row.ensures.rest))
