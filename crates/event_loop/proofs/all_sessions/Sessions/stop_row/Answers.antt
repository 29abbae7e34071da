use Rattle.std.proofs.Common.{refl, sym, true}
use Rattle.event_loop.proofs.Hearing.{row_hears}
use Rattle.event_loop.proofs.all_sessions.Sessions.stop_row.Goals as goal

pub returns-in-Some-clause-heard : goal.returns-in-Some-clause-heard
returns-in-Some-clause-heard g c =
    let ch = c.in-Some.ensures.changes _ in
    record {
      row = row_hears c.args.self.now.made c.args.self.now.clock c.args.self.now.ready true _ _ c.in-Some.row.now _ (sym c.in-Some.ensures.value) ch.row c.hear_turn.ensures.hears refl refl;
      others = ch.others;
      same = record {
        same = record { door_same = refl; pending_session_same = refl; clock_same = refl; made_same = refl; scratch_same = refl; admitted_same = ch.admitted; bounds_same = ch.bounds };
        lists = record { work_same = refl; timers_same = refl };
        ready_same = refl;
      };
    }
