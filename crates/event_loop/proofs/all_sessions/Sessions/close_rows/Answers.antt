use Rattle.std.proofs.Common.{refl, ◌∙◌}
use Rattle.event_loop.proofs.Emptying.{gone_first, gone_next, leave_all, leave_first, leave_next, some_leaving_on}
use Rattle.event_loop.proofs.LivingRows.{same_first, same_next}
use Rattle.event_loop.proofs.all_sessions.Sessions.close_rows.Goals as goal

pub loop-next-init : goal.loop-next-init
loop-next-init g c = record {
  keeps = leave_first c.args.config.now _ c.args.why c.args.self.now _ _ c.first_from-next.ensures;
  same = same_first c.args.self.now _;
  gone = gone_first c.args.self.now _ c.first_from-next.ensures;
  made = refl;
}

pub close_row-requires : goal.close_row-requires
close_row-requires g c = some_leaving_on c.args.config.now _ _ c.args.why c.args.self.now _ _ _ _ c.requires c.loop-next.invariant.keeps

pub loop-next-preserved : goal.loop-next-preserved
loop-next-preserved g c = record {
  keeps = leave_next c.args.config.now _ _ _ c.args.why c.in-Some.number c.args.self.now c.loop-next.self c.close_row.new.self _ _ _ _ (rw c.in-Some.is at c.loop-next.invariant.keeps) (rw c.in-Some.is at c.loop-next.invariant.same) c.close_row.ensures.leaves c.close_row.ensures.looks c.next_after-next.ensures;
  same = same_next c.in-Some.number c.args.self.now c.loop-next.self c.close_row.new.self _ (rw c.in-Some.is at c.loop-next.invariant.same) c.close_row.ensures.leaves.others c.next_after-next.ensures;
  gone = gone_next c.in-Some.number c.args.self.now c.loop-next.self _ _ (rw c.in-Some.is at c.loop-next.invariant.gone) c.close_row.ensures.leaves.gone c.close_row.ensures.leaves.others c.next_after-next.ensures;
  made = c.close_row.ensures.made ∙ c.loop-next.invariant.made;
}

pub returns-clause-leave : goal.returns-clause-leave
returns-clause-leave g c = record { keeps = leave_all c.args.config.now _ _ c.args.why c.args.self.now c.loop-next.self _ _ (rw c.in_default.is at c.loop-next.invariant.keeps); none = rw c.in_default.is at c.loop-next.invariant.gone }
