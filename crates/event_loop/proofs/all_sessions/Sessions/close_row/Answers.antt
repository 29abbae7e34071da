use Rattle.std.proofs.Common.{refl}
use Rattle.event_loop.proofs.Emptying.{row_gone}
use Rattle.event_loop.proofs.all_sessions.Sessions.close_row.Goals as goal

pub returns-clause-leaves : goal.returns-clause-leaves
returns-clause-leaves g c = row_gone c.args.config.now _ _ c.args.number c.args.why c.args.self.now c.empty_row.new.self _ c.empty_row.ensures.empties refl (record { made_same = refl; scratch_same = refl; admitted_same = c.retire.ensures.admitted; bounds_same = c.retire.ensures.bounds; others = c.retire.ensures.others }) c.retire.ensures.row
