use Rattle.std.proofs.Common.{refl, sym}
use Rattle.event_loop.proofs.Spreading.{row_cut}
use Rattle.event_loop.proofs.all_sessions.Sessions.cut_row.Goals as goal

pub returns-in-Some-clause-cuts : goal.returns-in-Some-clause-cuts
returns-in-Some-clause-cuts g c =
    let ch = c.in-Some.ensures.changes _ in
    record {
      row = row_cut c.args.self.now.made c.args.self.now.clock c.args.why c.args.number _ _ c.in-Some.row.now c.wake_row.new.row _ (sym c.in-Some.ensures.value) ch.row c.wake_row.ensures refl c.cut.ensures.early c.cut.ensures.ending refl;
      others = ch.others;
      same = record { door_same = refl; pending_session_same = refl; clock_same = refl; made_same = refl; scratch_same = refl; admitted_same = ch.admitted; bounds_same = ch.bounds };
      lists = record { work_same = refl; timers_same = refl };
    }
