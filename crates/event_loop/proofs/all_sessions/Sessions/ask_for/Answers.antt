use Rattle.event_loop.proofs.Looking.{acted_uncut, failed_cut, same_cut}
use Rattle.std.proofs.Common.{arith, refl, ◌∙◌}
use Rattle.event_loop.proofs.DoorSteps.{acts_behind, door_for, door_meets, given_behind, may_accept, next_of, memory_ends, door_idled, goes_acted, goes_waiting, goes_over, some_admitted, goes_admitted, ends_admitted, some_failed, goes_failed, ends_failed}
use Rattle.event_loop.proofs.DoorPays.{paid_acted, paid_admitted, ended_admitted, paid_failed, ended_failed, paid_idled, paid_waiting, paid_over}
use Rattle.event_loop.proofs.all_sessions.Sessions.ask_for.Goals as goal

pub step_door-requires : goal.step_door-requires
step_door-requires g c = door_meets c.args.config.now _ c.args.self.now c.live-live.result c.live-live.ensures c.requires.course

pub admit-number-requires-clause-may_accept : goal.admit-number-requires-clause-may_accept
admit-number-requires-clause-may_accept g c =
    let at = c.requires.course in
    let s = c.in-Admitted.ensures in
    may_accept c.args.config.now at.n at.start _ at.past c.args.self.now at.course (s.2 at.n at.past (door_for c.args.config.now at.n at.start _ at.past c.args.self.now c.live-live.result c.live-live.ensures at.course)).called

pub run_row-requires : goal.run_row-requires
run_row-requires g c = let s = c.in-Admitted.ensures in record { course = some_admitted c.args.config.now _ _ c.live-live.result c.admit-number.result c.args.self.now c.admit-number.new.self s.0 c.in-Admitted.peer _ c.live-live.ensures c.requires.course (acts_behind _ _ _ _ _ _ _ _ c.admit-number.ensures.door s.1) s.2 (c.admit-number.ensures.gives.begun c.args.config.now (next_of c.args.config.now _ c.args.self.now c.requires.course)) (given_behind c.step_door.new.door c.admit-number.ensures.gives.born c.args.self.now c.admit-number.new.self _ c.admit-number.ensures.gives.more) c.admit-number.ensures.number }

pub end_rows-requires : goal.end_rows-requires
end_rows-requires g c = some_failed c.args.config.now _ _ c.live-live.result c.args.self.now _ c.live-live.ensures c.requires.course c.requires.idle c.in-AcceptFailed.ensures (record { clock_same = refl; made_same = refl; scratch_same = refl; table_same = refl; lists = record { work_same = refl; timers_same = refl }; next = next_of c.args.config.now _ c.args.self.now c.requires.course })

pub returns-in-Acted-clause-asks : goal.returns-in-Acted-clause-asks
returns-in-Acted-clause-asks g c = let s = c.in-Acted.ensures in goes_acted c.args.config.now _ _ c.live-live.result c.args.self.now _ s.0 c.live-live.ensures c.requires.course c.requires.idle s.1 s.2 (record { clock_same = refl; made_same = refl; scratch_same = refl; table_same = refl; lists = record { work_same = refl; timers_same = refl }; next = next_of c.args.config.now _ c.args.self.now c.requires.course })

pub returns-in-Some-clause-asks : goal.returns-in-Some-clause-asks
returns-in-Some-clause-asks g c = let s = c.in-Admitted.ensures in ends_admitted c.args.config.now _ _ _ c.live-live.result c.admit-number.result _ c.args.self.now c.admit-number.new.self _ s.0 c.in-Admitted.peer _ c.live-live.ensures (acts_behind _ _ _ _ _ _ _ _ c.admit-number.ensures.door s.1) s.2 (c.admit-number.ensures.gives.begun c.args.config.now (next_of c.args.config.now _ c.args.self.now c.requires.course)) (given_behind c.step_door.new.door c.admit-number.ensures.gives.born c.args.self.now c.admit-number.new.self _ c.admit-number.ensures.gives.more) c.admit-number.ensures.number c.in-Some.ensures.runs

pub returns-in-None-clause-asks : goal.returns-in-None-clause-asks
returns-in-None-clause-asks g c = let s = c.in-Admitted.ensures in goes_admitted c.args.config.now _ _ _ c.live-live.result c.admit-number.result c.args.self.now c.admit-number.new.self _ s.0 c.in-Admitted.peer _ c.live-live.ensures c.requires.course c.requires.idle (acts_behind _ _ _ _ _ _ _ _ c.admit-number.ensures.door s.1) s.2 (c.admit-number.ensures.gives.begun c.args.config.now (next_of c.args.config.now _ c.args.self.now c.requires.course)) (given_behind c.step_door.new.door c.admit-number.ensures.gives.born c.args.self.now c.admit-number.new.self _ c.admit-number.ensures.gives.more) c.admit-number.ensures.number c.in-None.ensures.runs

pub returns-in-Some-end_rows-clause-asks : goal.returns-in-Some-end_rows-clause-asks
returns-in-Some-end_rows-clause-asks g c = ends_failed c.args.config.now _ _ _ c.live-live.result _ c.args.self.now _ _ c.live-live.ensures c.requires.idle c.in-AcceptFailed.ensures (record { clock_same = refl; made_same = refl; scratch_same = refl; table_same = refl; lists = record { work_same = refl; timers_same = refl }; next = next_of c.args.config.now _ c.args.self.now c.requires.course }) c.in-Some-end_rows.ensures.ends

pub returns-in-None-end_rows-clause-asks : goal.returns-in-None-end_rows-clause-asks
returns-in-None-end_rows-clause-asks g c = goes_failed c.args.config.now _ _ _ c.live-live.result c.args.self.now _ _ c.live-live.ensures c.requires.course c.requires.idle c.in-AcceptFailed.ensures (record { clock_same = refl; made_same = refl; scratch_same = refl; table_same = refl; lists = record { work_same = refl; timers_same = refl }; next = next_of c.args.config.now _ c.args.self.now c.requires.course }) c.in-None-end_rows.ensures.ends

pub returns-in-Memory-clause-asks : goal.returns-in-Memory-clause-asks
returns-in-Memory-clause-asks g c = λ n start past on. memory_ends c.args.config.now n start _ past _ (door_idled c.args.config.now n start _ _ past c.args.self.now _ on c.in-Memory.ensures (record { clock_same = refl; made_same = refl; scratch_same = refl; table_same = refl; lists = record { work_same = refl; timers_same = refl }; next = next_of c.args.config.now _ c.args.self.now c.requires.course }))

pub returns-in-Sleep-clause-asks : goal.returns-in-Sleep-clause-asks
returns-in-Sleep-clause-asks g c = let s = c.in-Sleep.ensures in goes_waiting c.args.config.now _ _ c.live-live.result c.args.self.now _ c.in-Sleep.until c.live-live.ensures c.requires.idle s.0 s.1 s.2 (record { clock_same = refl; made_same = refl; scratch_same = refl; table_same = refl; lists = record { work_same = refl; timers_same = refl }; next = next_of c.args.config.now _ c.args.self.now c.requires.course })

pub returns-in-Done-clause-asks : goal.returns-in-Done-clause-asks
returns-in-Done-clause-asks g c = let s = c.in-Done.ensures in goes_over c.args.config.now _ _ c.live-live.result c.args.self.now _ c.live-live.ensures c.requires.idle s.0 s.1 s.2 (record { clock_same = refl; made_same = refl; scratch_same = refl; table_same = refl; lists = record { work_same = refl; timers_same = refl }; next = next_of c.args.config.now _ c.args.self.now c.requires.course })

pub returns-in-Acted-clause-looks : goal.returns-in-Acted-clause-looks
returns-in-Acted-clause-looks g c = λ k. (let s = c.in-Acted.ensures in acted_uncut c.args.config.now _ _ c.live-live.result c.args.self.now c.step_door.new.door s.0 c.live-live.ensures c.requires.course s.1 k, omega arith)

pub returns-in-Some-clause-looks : goal.returns-in-Some-clause-looks
returns-in-Some-clause-looks g c = λ k. (let s = c.in-Admitted.ensures in let r = c.run_row.ensures.rest in let n = c.run_row.ensures.looks in let m = c.admit-number.ensures.gives.more.admitted_is in let a = r.admitted_same in (acted_uncut c.args.config.now _ _ c.live-live.result c.args.self.now c.step_door.new.door _ c.live-live.ensures c.requires.course s.1 (same_cut c.step_door.new.door _ (r.door_same ∙ c.admit-number.ensures.door) k), omega (arith, n, m, a)))

pub returns-in-None-clause-looks : goal.returns-in-None-clause-looks
returns-in-None-clause-looks g c = λ k. (let s = c.in-Admitted.ensures in let r = c.run_row.ensures.rest in let n = c.run_row.ensures.looks in let m = c.admit-number.ensures.gives.more.admitted_is in let a = r.admitted_same in (acted_uncut c.args.config.now _ _ c.live-live.result c.args.self.now c.step_door.new.door _ c.live-live.ensures c.requires.course s.1 (same_cut c.step_door.new.door _ (r.door_same ∙ c.admit-number.ensures.door) k), omega (arith, n, m, a)))

pub returns-in-Some-end_rows-clause-looks : goal.returns-in-Some-end_rows-clause-looks
returns-in-Some-end_rows-clause-looks g c = λ k. failed_cut c.args.config.now _ _ c.live-live.result c.args.self.now c.step_door.new.door c.live-live.ensures c.requires.course c.in-AcceptFailed.ensures (same_cut c.step_door.new.door _ c.end_rows.ensures.rest.door_same k)

pub returns-in-None-end_rows-clause-looks : goal.returns-in-None-end_rows-clause-looks
returns-in-None-end_rows-clause-looks g c = λ k. failed_cut c.args.config.now _ _ c.live-live.result c.args.self.now c.step_door.new.door c.live-live.ensures c.requires.course c.in-AcceptFailed.ensures (same_cut c.step_door.new.door _ c.end_rows.ensures.rest.door_same k)

pub returns-in-Memory-clause-looks : goal.returns-in-Memory-clause-looks
returns-in-Memory-clause-looks g c = λ k. (same_cut c.args.self.now.door c.step_door.new.door c.in-Memory.ensures.same k, omega arith)

pub returns-in-Sleep-clause-looks : goal.returns-in-Sleep-clause-looks
returns-in-Sleep-clause-looks g c = λ k. (same_cut c.args.self.now.door c.step_door.new.door c.in-Sleep.ensures.1 k, omega arith)

pub returns-in-Done-clause-looks : goal.returns-in-Done-clause-looks
returns-in-Done-clause-looks g c = λ k. (same_cut c.args.self.now.door c.step_door.new.door c.in-Done.ensures.1 k, omega arith)

pub returns-in-Acted-clause-paid : goal.returns-in-Acted-clause-paid
returns-in-Acted-clause-paid g c = let s = c.in-Acted.ensures in paid_acted c.args.config.now _ _ c.live-live.result _ c.args.self.now _ s.0 c.live-live.ensures s.1 s.2 (record { clock_same = refl; made_same = refl; scratch_same = refl; table_same = refl; lists = record { work_same = refl; timers_same = refl }; next = next_of c.args.config.now _ c.args.self.now c.requires.course })

pub returns-in-Some-clause-paid : goal.returns-in-Some-clause-paid
returns-in-Some-clause-paid g c = let s = c.in-Admitted.ensures in ended_admitted c.args.config.now _ _ _ c.live-live.result c.admit-number.result _ _ c.in-Some.why c.args.self.now c.admit-number.new.self c.run_row.new.self s.0 c.in-Admitted.peer _ c.live-live.ensures (acts_behind _ _ _ _ _ _ _ _ c.admit-number.ensures.door s.1) s.2 (c.admit-number.ensures.gives.begun c.args.config.now (next_of c.args.config.now _ c.args.self.now c.requires.course)) (given_behind c.step_door.new.door c.admit-number.ensures.gives.born c.args.self.now c.admit-number.new.self _ c.admit-number.ensures.gives.more) c.admit-number.ensures.number c.in-Some.ensures.runs c.run_row.ensures.looks

pub returns-in-None-clause-paid : goal.returns-in-None-clause-paid
returns-in-None-clause-paid g c = let s = c.in-Admitted.ensures in paid_admitted c.args.config.now _ _ _ c.live-live.result c.admit-number.result _ _ c.args.self.now c.admit-number.new.self _ s.0 c.in-Admitted.peer _ c.live-live.ensures (acts_behind _ _ _ _ _ _ _ _ c.admit-number.ensures.door s.1) s.2 (c.admit-number.ensures.gives.begun c.args.config.now (next_of c.args.config.now _ c.args.self.now c.requires.course)) (given_behind c.step_door.new.door c.admit-number.ensures.gives.born c.args.self.now c.admit-number.new.self _ c.admit-number.ensures.gives.more) c.admit-number.ensures.number c.in-None.ensures.runs c.run_row.ensures.looks

pub returns-in-Some-end_rows-clause-paid : goal.returns-in-Some-end_rows-clause-paid
returns-in-Some-end_rows-clause-paid g c = ended_failed c.args.config.now _ _ _ c.live-live.result _ _ c.in-Some-end_rows.why c.args.self.now _ c.end_rows.new.self c.live-live.ensures c.requires.idle c.in-AcceptFailed.ensures (record { clock_same = refl; made_same = refl; scratch_same = refl; table_same = refl; lists = record { work_same = refl; timers_same = refl }; next = next_of c.args.config.now _ c.args.self.now c.requires.course }) c.in-Some-end_rows.ensures.paid

pub returns-in-None-end_rows-clause-paid : goal.returns-in-None-end_rows-clause-paid
returns-in-None-end_rows-clause-paid g c = paid_failed c.args.config.now _ _ _ c.live-live.result _ _ c.args.self.now _ _ c.live-live.ensures c.requires.idle c.in-AcceptFailed.ensures (record { clock_same = refl; made_same = refl; scratch_same = refl; table_same = refl; lists = record { work_same = refl; timers_same = refl }; next = next_of c.args.config.now _ c.args.self.now c.requires.course }) c.in-None-end_rows.ensures.paid

pub returns-in-Memory-clause-paid : goal.returns-in-Memory-clause-paid
returns-in-Memory-clause-paid g c = λ n start past on. paid_idled c.args.config.now n start _ past _ _ (door_idled c.args.config.now n start _ _ past c.args.self.now _ on c.in-Memory.ensures (record { clock_same = refl; made_same = refl; scratch_same = refl; table_same = refl; lists = record { work_same = refl; timers_same = refl }; next = next_of c.args.config.now _ c.args.self.now c.requires.course }))

pub returns-in-Sleep-clause-paid : goal.returns-in-Sleep-clause-paid
returns-in-Sleep-clause-paid g c = let s = c.in-Sleep.ensures in paid_waiting c.args.config.now _ _ c.live-live.result _ c.args.self.now _ c.in-Sleep.until c.live-live.ensures s.0 s.1 s.2 (record { clock_same = refl; made_same = refl; scratch_same = refl; table_same = refl; lists = record { work_same = refl; timers_same = refl }; next = next_of c.args.config.now _ c.args.self.now c.requires.course })

pub returns-in-Done-clause-paid : goal.returns-in-Done-clause-paid
returns-in-Done-clause-paid g c = let s = c.in-Done.ensures in paid_over c.args.config.now _ _ c.live-live.result _ c.args.self.now _ c.live-live.ensures s.0 s.1 s.2 (record { clock_same = refl; made_same = refl; scratch_same = refl; table_same = refl; lists = record { work_same = refl; timers_same = refl }; next = next_of c.args.config.now _ c.args.self.now c.requires.course })
