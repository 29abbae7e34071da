use Rattle.std.proofs.Common.{refl, sym}
use Rattle.event_loop.proofs.Emptying.{some_leaves, row_emptied, no_row_emptied}
use Rattle.event_loop.proofs.all_sessions.Sessions.empty_row.Goals as goal

pub close_all-requires-clause-leaves : goal.close_all-requires-clause-leaves
close_all-requires-clause-leaves g c = some_leaves c.args.config.now _ c.args.number c.args.why c.args.self.now c.in-Some.row.now c.requires (sym c.in-Some.ensures.value)

pub close_all-requires-clause-block : goal.close_all-requires-clause-block
close_all-requires-clause-block g c = c.requires.leaving.room

pub returns-in-Some-clause-empties : goal.returns-in-Some-clause-empties
returns-in-Some-clause-empties g c =
    let ch = c.in-Some.ensures.changes _ in
    row_emptied c.args.config.now _ _ c.args.number c.args.why c.args.self.now _ c.in-Some.row.now c.close_all.new.session (sym c.in-Some.ensures.value) c.close_all.ensures.leaves c.close_all.ensures.over (record { made_same = refl; scratch_same = c.close_all.ensures.scratch; admitted_same = ch.admitted; bounds_same = ch.bounds; others = ch.others })

pub returns-in_default-clause-empties : goal.returns-in_default-clause-empties
returns-in_default-clause-empties g c = no_row_emptied c.args.config.now _ c.args.number c.args.why c.args.self.now _ (sym c.in_default.ensures.value) refl (record { made_same = refl; scratch_same = refl; admitted_same = refl; bounds_same = (refl, refl); others = λ s apart. refl })
