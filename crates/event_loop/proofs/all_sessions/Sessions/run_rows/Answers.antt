use Rattle.std.proofs.Common.{arith}
use Rattle.event_loop.proofs.RowLoops.{keeps_all, kept_on}
use Rattle.event_loop.proofs.RowRuns.{rest_then, rest_itself, some_taken, taken_at, keeps_run, keeps_none, fewer_works, one_fewer, one_run, here_of, ran_ends}
use Rattle.event_loop.proofs.Paying.{rows_first, rows_next, rows_end, rows_done}
use Rattle.event_loop.proofs.all_sessions.Sessions.run_rows.Goals as goal

pub loop-number-init : goal.loop-number-init
loop-number-init g c = record { keeps = keeps_all c.args.config.now _ c.args.self.now; same = rest_itself c.args.self.now; looks = omega arith; paid = λ n start past k on p. rows_first c.args.config.now n start _ past k _ c.args.self.now on p }

pub run_row-requires : goal.run_row-requires
run_row-requires g c = record { course = some_taken c.args.config.now _ c.in-Some.number c.loop-number.self c.take_work.new.self (kept_on c.args.config.now _ _ c.args.self.now c.loop-number.self c.requires c.loop-number.invariant.keeps) c.in-Some.ensures }

pub returns-in-Some-run_row-clause-runs : goal.returns-in-Some-run_row-clause-runs
returns-in-Some-run_row-clause-runs g c = λ n start past on.
    let a = c.loop-number.invariant.keeps n start past on in
    let at = taken_at c.args.config.now n start _ a.past c.in-Some.number c.loop-number.self c.take_work.new.self a.course c.in-Some.ensures in
    ran_ends c.args.config.now n start _ _ a.past c.in-Some.number _ c.take_work.new.self c.run_row.new.self at (c.in-Some-run_row.ensures.runs.0 n start a.past (here_of c.args.config.now n start _ a.past c.in-Some.number c.take_work.new.self at)) c.in-Some-run_row.ensures.runs.1

pub loop-number-preserved : goal.loop-number-preserved
loop-number-preserved g c = record {
  keeps = keeps_run c.args.config.now _ _ _ c.in-Some.number c.args.self.now c.loop-number.self c.take_work.new.self c.run_row.new.self c.loop-number.invariant.keeps c.in-Some.ensures c.in_default-run_row.ensures.runs;
  same = rest_then c.args.self.now c.take_work.new.self c.run_row.new.self (rest_then c.args.self.now c.loop-number.self c.take_work.new.self c.loop-number.invariant.same c.in-Some.ensures.same) c.run_row.ensures.rest;
  looks = one_run c.in-Some.number c.loop-number.self c.take_work.new.self c.run_row.new.self _ _ _ _ c.in-Some.ensures c.in_default-run_row.ensures.runs.1.work_same c.run_row.ensures.looks c.loop-number.invariant.looks;
  paid = λ n start past k on p. rows_next c.args.config.now n start _ _ past k _ _ _ c.in-Some.number c.loop-number.self c.take_work.new.self c.run_row.new.self (c.loop-number.invariant.paid n start past k on p) c.in-Some.ensures c.in_default-run_row.ensures.runs c.run_row.ensures.looks;
}

pub loop-number-smaller : goal.loop-number-smaller
loop-number-smaller g c = fewer_works c.in-Some.number c.loop-number.self c.take_work.new.self c.run_row.new.self c.in-Some.ensures c.in_default-run_row.ensures.runs.1.work_same

pub returns-clause-runs : goal.returns-clause-runs
returns-clause-runs g c = (
  keeps_none c.args.config.now _ _ c.args.self.now c.loop-number.self c.take_work.new.self c.loop-number.invariant.keeps c.in_default.ensures,
  c.in_default.ensures.idle,
  rest_then c.args.self.now c.loop-number.self c.take_work.new.self c.loop-number.invariant.same c.in_default.ensures.same,
)

pub returns-clause-rest : goal.returns-clause-rest
returns-clause-rest g c = rest_then c.args.self.now c.loop-number.self c.take_work.new.self c.loop-number.invariant.same c.in_default.ensures.same

pub returns-in-Some-run_row-clause-rest : goal.returns-in-Some-run_row-clause-rest
returns-in-Some-run_row-clause-rest g c = rest_then c.args.self.now c.take_work.new.self c.run_row.new.self (rest_then c.args.self.now c.loop-number.self c.take_work.new.self c.loop-number.invariant.same c.in-Some.ensures.same) c.run_row.ensures.rest

pub returns-clause-looks : goal.returns-clause-looks
returns-clause-looks g c = (let l = c.loop-number.invariant.looks in omega (arith, l))

pub returns-in-Some-run_row-clause-looks : goal.returns-in-Some-run_row-clause-looks
returns-in-Some-run_row-clause-looks g c = (let l = c.loop-number.invariant.looks in let m = one_fewer c.in-Some.number c.loop-number.self c.take_work.new.self c.in-Some.ensures in let n = c.run_row.ensures.looks in omega (arith, l, m, n))

pub returns-clause-paid : goal.returns-clause-paid
returns-clause-paid g c = λ n start past k on p. rows_done c.args.config.now n start _ past k _ _ c.loop-number.self c.take_work.new.self (c.loop-number.invariant.paid n start past k on p) c.in_default.ensures

pub returns-in-Some-run_row-clause-paid : goal.returns-in-Some-run_row-clause-paid
returns-in-Some-run_row-clause-paid g c = λ n start past k on p. rows_end c.args.config.now n start _ _ past k _ _ _ c.in-Some.number _ c.loop-number.self c.take_work.new.self c.run_row.new.self (c.loop-number.invariant.paid n start past k on p) c.in-Some.ensures c.in-Some-run_row.ensures.runs c.run_row.ensures.looks
