use Rattle.fork_table.specs.Tables.{Table}
use Rattle.relay_model.specs.Readiness.{copied_list}
use Rattle.event_loop.specs.declared.all_sessions.Row.{Row}
use Rattle.event_loop.proofs.Looking.{looks_waited, works_waited, works_alone, as_many, turned_few}
use Rattle.event_loop.proofs.RowRuns.{rest_itself}
use Rattle.std.proofs.Common.{[], ap, refl, inl, inr, ◌∙◌, add-one, arith}
use Rattle.std.proofs.lemmas.Bool.{false≢true}
use Rattle.session_loop.proofs.DrainGoing.{idle_run}
use Rattle.event_loop.proofs.Turning.{has_waited, turned_there, all_unheard, run_turned, when_going, when_short, when_stopped}
use Rattle.event_loop.proofs.DoorSteps.{memory_rows}
use Rattle.event_loop.proofs.InOrder.{came_for, left_by}
use Rattle.session_loop.specs.Runs.{Run}
use Rattle.event_loop.proofs.DoorPays.{led_turned}
use Rattle.event_loop.proofs.all_sessions.Sessions.wait.Goals as goal

pub hear_turn-requires : goal.hear_turn-requires
hear_turn-requires g c =
    let h = has_waited c.in-Turned.at c.in-Turned.stop _ c.take_turn.new.self c.take_turn.ensures in
    all_unheard c.args.config.now _ c.in-Turned.at c.in-Turned.stop c.args.self.now c.take_turn.new.self c.requires.course c.requires.idle (record { door = h.door; table_same = h.table_same; lists = record { work_same = h.lists.work_same; timers_same = h.lists.timers_same }; pending_session_same = h.pending_session_same; clock_is = h.clock_is; made_is = h.made_is; scratch_same = h.scratch_same })

pub returns-then-stop-clause-waits : goal.returns-then-stop-clause-waits
returns-then-stop-clause-waits g c = (
  λ start past on order.
      let h = has_waited c.in-Turned.at c.in-Turned.stop _ c.take_turn.new.self c.take_turn.ensures in
      when_stopped c.args.config.now c.args.turns start _ _ past c.args.until c.in-Turned.at c.in-Turned.stop c.args.self.now c.take_turn.new.self c.if-stop.true (record {
        course = on;
        few = c.requires.few;
        idle = c.requires.idle;
        order = order;
        turns = turned_there _ _ c.args.until c.in-Turned.at _ c.take_turn.new.self.ready c.in-Turned.stop c.take_turn.ensures.ready_same (record { did = c.in-Turned.ensures.act; named = c.in-Turned.ensures.named; later = c.in-Turned.ensures.faults; counts = c.in-Turned.ensures.counts });
        has = record { door = h.door; table_same = h.table_same; lists = record { work_same = h.lists.work_same; timers_same = h.lists.timers_same }; pending_session_same = h.pending_session_same; clock_is = h.clock_is; made_is = h.made_is; scratch_same = h.scratch_same };
        on_clock = c.take_turn.ensures.on_clock;
      }),
  c.take_turn.ensures.made_is ∙ add-one _,
)

pub returns-in-Ok-clause-waits : goal.returns-in-Ok-clause-waits
returns-in-Ok-clause-waits g c = (
  λ start past on order longest.
      let h = has_waited c.in-Turned.at c.in-Turned.stop _ c.take_turn.new.self c.take_turn.ensures in
      record {
        at = c.in-Turned.at;
        ready = copied_list c.take_turn.new.self.ready;
        course = when_going c.args.config.now c.args.turns start _ _ past c.args.until c.in-Turned.at c.in-Turned.stop c.args.self.now c.take_turn.new.self c.hear_turn.new.self c.if-stop.false (record {
          course = on;
          few = c.requires.few;
          idle = c.requires.idle;
          order = order;
          turns = turned_there _ _ c.args.until c.in-Turned.at _ c.take_turn.new.self.ready c.in-Turned.stop c.take_turn.ensures.ready_same (record { did = c.in-Turned.ensures.act; named = c.in-Turned.ensures.named; later = c.in-Turned.ensures.faults; counts = c.in-Turned.ensures.counts });
          has = record { door = h.door; table_same = h.table_same; lists = record { work_same = h.lists.work_same; timers_same = h.lists.timers_same }; pending_session_same = h.pending_session_same; clock_is = h.clock_is; made_is = h.made_is; scratch_same = h.scratch_same };
          on_clock = c.take_turn.ensures.on_clock;
        }) c.hear_turn.ensures.heard c.in-Ok.ensures.queued;
        came = came_for c.args.config.now c.args.turns start _ past c.in-Turned.at c.args.self.now c.take_turn.new.self c.hear_turn.new.self on c.requires.idle c.take_turn.ensures.clock_is (record { work_same = h.lists.work_same; timers_same = h.lists.timers_same }) c.hear_turn.ensures.came;
        few = λ early. turned_few c.in-Turned.at c.args.until c.args.self.now c.take_turn.new.self c.hear_turn.new.self c.take_turn.ensures.clock_is (record { work_same = h.lists.work_same; timers_same = h.lists.timers_same }) c.requires.idle c.hear_turn.ensures.alone longest early;
        begins = left_by c.args.config.now c.args.turns start _ past c.args.until c.in-Turned.at c.args.self.now c.take_turn.new.self c.hear_turn.new.self on c.requires.idle c.take_turn.ensures.clock_is (record { work_same = h.lists.work_same; timers_same = h.lists.timers_same }) longest c.in-Ok.ensures.parts;
      },
  c.hear_turn.ensures.heard.same.made_same ∙ (c.take_turn.ensures.made_is ∙ add-one _),
)

pub returns-in-Err-clause-waits : goal.returns-in-Err-clause-waits
returns-in-Err-clause-waits g c = (
  λ start past on order.
      let h = has_waited c.in-Turned.at c.in-Turned.stop _ c.take_turn.new.self c.take_turn.ensures in
      when_short c.args.config.now c.args.turns start _ _ past c.args.until c.in-Turned.at c.in-Turned.stop c.args.self.now c.take_turn.new.self c.hear_turn.new.self c.if-stop.false (record {
        course = on;
        few = c.requires.few;
        idle = c.requires.idle;
        order = order;
        turns = turned_there _ _ c.args.until c.in-Turned.at _ c.take_turn.new.self.ready c.in-Turned.stop c.take_turn.ensures.ready_same (record { did = c.in-Turned.ensures.act; named = c.in-Turned.ensures.named; later = c.in-Turned.ensures.faults; counts = c.in-Turned.ensures.counts });
        has = record { door = h.door; table_same = h.table_same; lists = record { work_same = h.lists.work_same; timers_same = h.lists.timers_same }; pending_session_same = h.pending_session_same; clock_is = h.clock_is; made_is = h.made_is; scratch_same = h.scratch_same };
        on_clock = c.take_turn.ensures.on_clock;
      }) c.hear_turn.ensures.heard,
  c.hear_turn.ensures.heard.same.made_same ∙ (c.take_turn.ensures.made_is ∙ add-one _),
)

pub returns-in-Memory-clause-waits : goal.returns-in-Memory-clause-waits
returns-in-Memory-clause-waits g c = (
  λ start past on order.
      let f = on.frame in
      record {
        past = past;
        frame = record {
          fork = f.fork;
          run = idle_run c.args.config.now c.args.turns start _ _ past f.run c.in-Memory.ensures.act (record { later = c.in-Memory.ensures.faults; rose = λ e. absurd (false≢true e) }) c.in-Memory.ensures.counts;
          door = f.door;
          counts = f.counts;
          next = f.next;
          clock_is = f.clock_is;
          made_is = f.made_is;
          room = f.room;
          unsaid = f.unsaid;
        };
        all = refl;
        ends = inl refl;
        owes = inr refl;
        rows = memory_rows c.args.config.now c.args.turns start _ past c.args.self.now on;
      },
  refl,
)

pub returns-in-Ok-clause-looks : goal.returns-in-Ok-clause-looks
returns-in-Ok-clause-looks g c =
    let e = as_many _ _ c.hear_turn.ensures.ready in
    let l = c.hear_turn.ensures.looks in
    looks_waited c.args.config.now _ c.in-Turned.at c.wait.new.ready c.in-Turned.stop _ _ _ c.args.self.now c.take_turn.new.self c.hear_turn.new.self c.requires.course c.take_turn.ensures.door (ap (λ (t : Table Row). t.admitted) c.take_turn.ensures.table_same) c.hear_turn.ensures.heard.same (omega (arith, e, l))

pub returns-in-Ok-clause-few : goal.returns-in-Ok-clause-few
returns-in-Ok-clause-few g c =
    let e = as_many _ _ c.hear_turn.ensures.ready in
    works_waited _ _ c.args.self.now c.take_turn.new.self c.hear_turn.new.self c.take_turn.ensures.lists.work_same c.take_turn.ensures.lists.timers_same c.hear_turn.ensures.few (omega (arith, e))

pub returns-in-Err-clause-looks : goal.returns-in-Err-clause-looks
returns-in-Err-clause-looks g c =
    let e = as_many _ _ c.hear_turn.ensures.ready in
    let l = c.hear_turn.ensures.looks in
    looks_waited c.args.config.now _ c.in-Turned.at c.wait.new.ready c.in-Turned.stop _ _ _ c.args.self.now c.take_turn.new.self c.hear_turn.new.self c.requires.course c.take_turn.ensures.door (ap (λ (t : Table Row). t.admitted) c.take_turn.ensures.table_same) c.hear_turn.ensures.heard.same (omega (arith, e, l))

pub returns-in-Err-clause-few : goal.returns-in-Err-clause-few
returns-in-Err-clause-few g c =
    let e = as_many _ _ c.hear_turn.ensures.ready in
    works_waited _ _ c.args.self.now c.take_turn.new.self c.hear_turn.new.self c.take_turn.ensures.lists.work_same c.take_turn.ensures.lists.timers_same c.hear_turn.ensures.few (omega (arith, e))

pub returns-then-stop-clause-looks : goal.returns-then-stop-clause-looks
returns-then-stop-clause-looks g c = looks_waited c.args.config.now _ c.in-Turned.at c.wait.new.ready c.in-Turned.stop _ _ _ c.args.self.now c.take_turn.new.self c.take_turn.new.self c.requires.course c.take_turn.ensures.door (ap (λ (t : Table Row). t.admitted) c.take_turn.ensures.table_same) (rest_itself c.take_turn.new.self) (omega arith)

pub returns-then-stop-clause-few : goal.returns-then-stop-clause-few
returns-then-stop-clause-few g c = works_waited 0 _ c.args.self.now c.take_turn.new.self c.take_turn.new.self c.take_turn.ensures.lists.work_same c.take_turn.ensures.lists.timers_same (works_alone 0 c.take_turn.new.self c.take_turn.new.self (omega arith) refl) (omega arith)

pub returns-in-Memory-clause-looks : goal.returns-in-Memory-clause-looks
returns-in-Memory-clause-looks g c = λ k. (k, omega arith)

pub returns-in-Memory-clause-few : goal.returns-in-Memory-clause-few
returns-in-Memory-clause-few g c = omega arith

pub returns-in-Ok-clause-paid : goal.returns-in-Ok-clause-paid
returns-in-Ok-clause-paid g c = λ start past on order longest.
    let h = has_waited c.in-Turned.at c.in-Turned.stop _ c.take_turn.new.self c.take_turn.ensures in
    led_turned past (Run c.args.config.now c.args.turns start _) c.args.until c.in-Turned.at _ _ (copied_list c.take_turn.new.self.ready) c.in-Turned.stop (run_turned c.args.config.now c.args.turns start _ _ past c.args.until c.in-Turned.at c.in-Turned.stop c.args.self.now c.take_turn.new.self (record {
      course = on;
      few = c.requires.few;
      idle = c.requires.idle;
      order = order;
      turns = turned_there _ _ c.args.until c.in-Turned.at _ c.take_turn.new.self.ready c.in-Turned.stop c.take_turn.ensures.ready_same (record { did = c.in-Turned.ensures.act; named = c.in-Turned.ensures.named; later = c.in-Turned.ensures.faults; counts = c.in-Turned.ensures.counts });
      has = record { door = h.door; table_same = h.table_same; lists = record { work_same = h.lists.work_same; timers_same = h.lists.timers_same }; pending_session_same = h.pending_session_same; clock_is = h.clock_is; made_is = h.made_is; scratch_same = h.scratch_same };
      on_clock = c.take_turn.ensures.on_clock;
    })) c.hear_turn.ensures.looks

pub returns-in-Err-clause-paid : goal.returns-in-Err-clause-paid
returns-in-Err-clause-paid g c = λ start past on order longest.
    let h = has_waited c.in-Turned.at c.in-Turned.stop _ c.take_turn.new.self c.take_turn.ensures in
    led_turned past (Run c.args.config.now c.args.turns start _) c.args.until c.in-Turned.at _ _ (copied_list c.take_turn.new.self.ready) c.in-Turned.stop (run_turned c.args.config.now c.args.turns start _ _ past c.args.until c.in-Turned.at c.in-Turned.stop c.args.self.now c.take_turn.new.self (record {
      course = on;
      few = c.requires.few;
      idle = c.requires.idle;
      order = order;
      turns = turned_there _ _ c.args.until c.in-Turned.at _ c.take_turn.new.self.ready c.in-Turned.stop c.take_turn.ensures.ready_same (record { did = c.in-Turned.ensures.act; named = c.in-Turned.ensures.named; later = c.in-Turned.ensures.faults; counts = c.in-Turned.ensures.counts });
      has = record { door = h.door; table_same = h.table_same; lists = record { work_same = h.lists.work_same; timers_same = h.lists.timers_same }; pending_session_same = h.pending_session_same; clock_is = h.clock_is; made_is = h.made_is; scratch_same = h.scratch_same };
      on_clock = c.take_turn.ensures.on_clock;
    })) c.hear_turn.ensures.looks

pub returns-then-stop-clause-paid : goal.returns-then-stop-clause-paid
returns-then-stop-clause-paid g c = λ start past on order longest.
    let h = has_waited c.in-Turned.at c.in-Turned.stop _ c.take_turn.new.self c.take_turn.ensures in
    led_turned past (Run c.args.config.now c.args.turns start _) c.args.until c.in-Turned.at _ _ (copied_list c.take_turn.new.self.ready) c.in-Turned.stop (run_turned c.args.config.now c.args.turns start _ _ past c.args.until c.in-Turned.at c.in-Turned.stop c.args.self.now c.take_turn.new.self (record {
      course = on;
      few = c.requires.few;
      idle = c.requires.idle;
      order = order;
      turns = turned_there _ _ c.args.until c.in-Turned.at _ c.take_turn.new.self.ready c.in-Turned.stop c.take_turn.ensures.ready_same (record { did = c.in-Turned.ensures.act; named = c.in-Turned.ensures.named; later = c.in-Turned.ensures.faults; counts = c.in-Turned.ensures.counts });
      has = record { door = h.door; table_same = h.table_same; lists = record { work_same = h.lists.work_same; timers_same = h.lists.timers_same }; pending_session_same = h.pending_session_same; clock_is = h.clock_is; made_is = h.made_is; scratch_same = h.scratch_same };
      on_clock = c.take_turn.ensures.on_clock;
    })) (omega arith)

pub returns-in-Memory-clause-paid : goal.returns-in-Memory-clause-paid
unfolding returns-in-Memory-clause-waits
returns-in-Memory-clause-paid g c = λ start past on order longest. record { made = []; holds = ((returns-in-Memory-clause-waits g c).0 start past on order, refl); few = omega arith }
