use Rattle.std.proofs.Common.{sym, subst, Option, IfSome}
use Rattle.session_loop.specs.Pauses.{PauseIs, SpreadsNot}
use Rattle.session_loop.specs.declared.pauses.Pause.{Pause}
use Rattle.session_loop.proofs.DrainGoing.{fewer_for, meets, owed_fewer, owed_runs, settled_pause, settled_runs, stays_on}
use Rattle.session_loop.proofs.drains.go_on.Goals as goal

pub returns-in-Some-clause-runs : goal.returns-in-Some-clause-runs
returns-in-Some-clause-runs g c = stays_on c.args.config.now _ _

pub step_owing-requires-clause-meets : goal.step_owing-requires-clause-meets
step_owing-requires-clause-meets g c = meets c.args.config.now _ c.args.member.now c.requires.runs (subst SpreadsNot c.wish.ensures.wish c.in_default.ensures)

pub returns-in-Some-step_owing-clause-runs : goal.returns-in-Some-step_owing-clause-runs
returns-in-Some-step_owing-clause-runs g c = settled_runs c.args.config.now _ _ c.args.member.now _ c.in-Some-step_owing.stepped (subst SpreadsNot c.wish.ensures.wish c.in_default.ensures) c.in-Some-step_owing.ensures.step

pub returns-in-Some-step_owing-clause-pause : goal.returns-in-Some-step_owing-clause-pause
returns-in-Some-step_owing-clause-pause g c = subst (λ (p : Option Pause). IfSome p (PauseIs c.step_owing.new.session)) (sym c.pause_after.ensures) (settled_pause c.args.config.now _ _ _ _ _ _ c.in-Some-step_owing.stepped c.in-Some-step_owing.ensures.step)

pub returns-in-Some-step_owing-clause-fewer : goal.returns-in-Some-step_owing-clause-fewer
returns-in-Some-step_owing-clause-fewer g c = fewer_for c.args.config.now _ _ c.args.member.now (record { session = c.step_owing.new.session; dumper = c.step_owing.new.dumper }) c.in-Some-step_owing.stepped c.pause_after.result c.pause_after.ensures c.requires.runs c.in-Some-step_owing.ensures.step

pub returns-in-None-clause-runs : goal.returns-in-None-clause-runs
returns-in-None-clause-runs g c = owed_runs c.args.config.now _ _ c.args.member.now _ (subst SpreadsNot c.wish.ensures.wish c.in_default.ensures) c.in-None.ensures.step

pub returns-in-None-clause-fewer : goal.returns-in-None-clause-fewer
returns-in-None-clause-fewer g c = owed_fewer c.args.config.now _ _ c.args.member.now (record { session = c.step_owing.new.session; dumper = c.step_owing.new.dumper }) c.requires.runs c.in-None.ensures.step
