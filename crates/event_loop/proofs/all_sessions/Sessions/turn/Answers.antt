use Rattle.event_loop.proofs.Looking.{looks_run, looks_after, looks_then, looks_more}
use Rattle.std.proofs.Common.{refl, inl, inr, arith, ◌∙◌, None}
use Rattle.event_loop.specs.declared.asked.DoorAsked.TheVariants as asks
use Rattle.event_loop.specs.declared.turned.RunEnd.TheVariants as ends
use Rattle.program_door.specs.declared.wishes.DoorWish.TheVariants as wishes
use Rattle.event_loop.proofs.RowLoops.{kept_on}
use Rattle.event_loop.proofs.InOrder.{further_then, some_within, door_waits, door_over}
use Rattle.event_loop.proofs.CallPays.{call_ends, call_asked, call_waited}
use Rattle.event_loop.proofs.all_sessions.Sessions.turn.Goals as goal

pub returns-in-Some-clause-turns : goal.returns-in-Some-clause-turns
returns-in-Some-clause-turns g c = (λ start past on. c.in-Some.ensures.runs c.args.turns start past on, c.run_rows.ensures.rest.made_same)

pub run_rows-requires : goal.run_rows-requires
run_rows-requires g c = some_within c.args.config.now c.args.turns _ c.args.self.now c.requires.course

pub ask_door-requires-clause-course : goal.ask_door-requires-clause-course
ask_door-requires-clause-course g c = kept_on c.args.config.now _ _ c.args.self.now _ (some_within c.args.config.now c.args.turns _ c.args.self.now c.requires.course) c.in_default.ensures.runs.0

pub wait_for-requires-clause-course : goal.wait_for-requires-clause-course
wait_for-requires-clause-course g c = door_waits c.args.config.now _ _ _ c.args.self.now c.run_rows.new.self _ c.in-Waits.first (some_within c.args.config.now c.args.turns _ c.args.self.now c.requires.course) c.in_default.ensures.runs.0 c.in-Waits.ensures.asks.0

pub wait_for-requires-clause-idle : goal.wait_for-requires-clause-idle
wait_for-requires-clause-idle g c = c.in-Waits.ensures.asks.1

pub wait_for-requires-in-Some-first_from-clause-course : goal.wait_for-requires-in-Some-first_from-clause-course
wait_for-requires-in-Some-first_from-clause-course g c = door_over c.args.config.now _ _ _ c.args.self.now c.run_rows.new.self _ (some_within c.args.config.now c.args.turns _ c.args.self.now c.requires.course) c.in_default.ensures.runs.0 c.in-Over.ensures.asks.0

pub wait_for-requires-in-Some-first_from-clause-idle : goal.wait_for-requires-in-Some-first_from-clause-idle
wait_for-requires-in-Some-first_from-clause-idle g c = c.in-Over.ensures.asks.1

pub returns-in-Waits-clause-turns : goal.returns-in-Waits-clause-turns
returns-in-Waits-clause-turns g c = (
  λ start past on.
      let o = c.in_default.ensures.runs.0 c.args.turns start past on in
      let w = c.in-Waits.ensures.asks.0 c.args.turns start o.past o.course in
      c.wait_for.ensures.waits.0 start w.past w.course (record { door = w.wished.0; remains = inl w.wished.1 }),
  further_then c.args.turns c.args.self.now c.ask_door.new.self c.wait_for.new.self _ (c.in-Waits.ensures.asks.2 ∙ c.in_default.ensures.runs.2.made_same) c.wait_for.ensures.waits.1,
)

pub returns-in-Some-first_from-clause-turns : goal.returns-in-Some-first_from-clause-turns
returns-in-Some-first_from-clause-turns g c = (
  λ start past on.
      let o = c.in_default.ensures.runs.0 c.args.turns start past on in
      let w = c.in-Over.ensures.asks.0 c.args.turns start o.past o.course in
      c.wait_for-in-Some-first_from.ensures.waits.0 start w.past w.course (record { door = w.wished.sleeps; remains = inr (_, c.in-Some-first_from.ensures.1) }),
  further_then c.args.turns c.args.self.now c.ask_door.new.self c.wait_for-in-Some-first_from.new.self _ (c.in-Over.ensures.asks.2 ∙ c.in_default.ensures.runs.2.made_same) c.wait_for-in-Some-first_from.ensures.waits.1,
)

pub returns-in-None-clause-turns : goal.returns-in-None-clause-turns
returns-in-None-clause-turns g c = (
  λ start past on.
      let o = c.in_default.ensures.runs.0 c.args.turns start past on in
      (c.in-Over.ensures.asks.0 c.args.turns start o.past o.course, λ s. c.in-None.ensures s (omega arith)),
  c.ask_door.ensures.made ∙ c.run_rows.ensures.rest.made_same,
)

pub returns-in-Ends-clause-turns : goal.returns-in-Ends-clause-turns
returns-in-Ends-clause-turns g c = (
  λ start past on.
      let o = c.in_default.ensures.runs.0 c.args.turns start past on in
      c.in-Ends.ensures.asks c.args.turns start o.past o.course,
  c.ask_door.ensures.made ∙ c.run_rows.ensures.rest.made_same,
)

pub returns-in-Some-clause-few : goal.returns-in-Some-clause-few
returns-in-Some-clause-few g c = looks_run _ _ _ _ c.args.self.now c.run_rows.new.self c.run_rows.ensures.rest c.run_rows.ensures.looks

pub returns-in-Waits-clause-few : goal.returns-in-Waits-clause-few
returns-in-Waits-clause-few g c = looks_after _ _ _ _ _ c.args.self.now c.run_rows.new.self c.wait_for.new.self c.run_rows.ensures.rest c.run_rows.ensures.looks (looks_then _ _ _ _ c.run_rows.new.self c.ask_door.new.self c.wait_for.new.self c.ask_door.ensures.looks c.wait_for.ensures.looks)

pub returns-in-Some-first_from-clause-few : goal.returns-in-Some-first_from-clause-few
returns-in-Some-first_from-clause-few g c = looks_after _ _ _ _ _ c.args.self.now c.run_rows.new.self c.wait_for-in-Some-first_from.new.self c.run_rows.ensures.rest c.run_rows.ensures.looks (looks_then _ _ _ _ c.run_rows.new.self c.ask_door.new.self c.wait_for-in-Some-first_from.new.self c.ask_door.ensures.looks c.wait_for-in-Some-first_from.ensures.looks)

pub returns-in-None-clause-few : goal.returns-in-None-clause-few
returns-in-None-clause-few g c = looks_after _ _ _ _ _ c.args.self.now c.run_rows.new.self c.ask_door.new.self c.run_rows.ensures.rest c.run_rows.ensures.looks (looks_more _ _ _ c.run_rows.new.self c.ask_door.new.self c.ask_door.ensures.looks)

pub returns-in-Ends-clause-few : goal.returns-in-Ends-clause-few
returns-in-Ends-clause-few g c = looks_after _ _ _ _ _ c.args.self.now c.run_rows.new.self c.ask_door.new.self c.run_rows.ensures.rest c.run_rows.ensures.looks (looks_more _ _ _ c.run_rows.new.self c.ask_door.new.self c.ask_door.ensures.looks)

pub returns-in-Some-clause-looks : goal.returns-in-Some-clause-looks
returns-in-Some-clause-looks g c = call_ends c.args.config.now c.args.turns _ _ _ _ c.args.self.now c.run_rows.new.self c.in-Some.why c.in-Some.ensures.paid

pub returns-in-Waits-clause-looks : goal.returns-in-Waits-clause-looks
returns-in-Waits-clause-looks g c = call_waited c.args.config.now c.args.turns _ _ _ _ _ _ _ _ c.args.self.now c.run_rows.new.self c.ask_door.new.self c.wait_for.new.self (wishes.Sleep c.in-Waits.first) c.in-Waits.first _ c.in_default.ensures.paid c.in-Waits.ensures.paid (λ since wished. record { door = wished.0; remains = inl wished.1 }) c.wait_for.ensures.paid

pub returns-in-Some-first_from-clause-looks : goal.returns-in-Some-first_from-clause-looks
returns-in-Some-first_from-clause-looks g c = call_waited c.args.config.now c.args.turns _ _ _ _ _ _ _ _ c.args.self.now c.run_rows.new.self c.ask_door.new.self c.wait_for-in-Some-first_from.new.self wishes.Done None _ c.in_default.ensures.paid c.in-Over.ensures.paid (λ since wished. record { door = wished.sleeps; remains = inr (_, c.in-Some-first_from.ensures.1) }) c.wait_for-in-Some-first_from.ensures.paid

pub returns-in-None-clause-looks : goal.returns-in-None-clause-looks
returns-in-None-clause-looks g c = call_asked c.args.config.now c.args.turns _ _ _ _ _ _ c.args.self.now c.run_rows.new.self c.ask_door.new.self asks.Over ends.Over (λ start since a. (record { past = since; course = a.0; wished = a.1 }, refl)) c.in_default.ensures.paid c.in-Over.ensures.paid

pub returns-in-Ends-clause-looks : goal.returns-in-Ends-clause-looks
returns-in-Ends-clause-looks g c = call_asked c.args.config.now c.args.turns _ _ _ _ _ _ c.args.self.now c.run_rows.new.self c.ask_door.new.self (asks.Ends c.in-Ends.why) (ends.Ends c.in-Ends.why) (λ start since a. a) c.in_default.ensures.paid c.in-Ends.ensures.paid
