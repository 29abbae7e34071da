use Rattle.std.proofs.Common.{refl, ◌∙◌}
use Rattle.event_loop.proofs.Closings.{leaves_first, leaves_then, some_leaves_on}
use Rattle.event_loop.proofs.leaving.close_all.Goals as goal

pub loop-why-init : goal.loop-why-init
loop-why-init g c = record { leaves = leaves_first c.args.config.now _ c.args.why c.args.session.now c.args.door.now; room = refl }

pub close_next-requires-clause-leaves : goal.close_next-requires-clause-leaves
close_next-requires-clause-leaves g c = some_leaves_on c.args.config.now _ _ c.args.why c.args.session.now _ c.args.door.now _ c.requires.leaves c.loop-why.invariant.leaves

pub returns-then-close_next-clause-leaves : goal.returns-then-close_next-clause-leaves
returns-then-close_next-clause-leaves g c = leaves_then c.args.config.now _ _ _ c.args.why c.args.session.now _ _ c.args.door.now _ _ c.loop-why.invariant.leaves c.close_next.ensures.leaves

pub loop-why-preserved : goal.loop-why-preserved
loop-why-preserved g c = record {
  leaves = leaves_then c.args.config.now _ _ _ c.args.why c.args.session.now _ _ c.args.door.now _ _ c.loop-why.invariant.leaves c.close_next.ensures.leaves;
  room = c.close_next.ensures.scratch ∙ c.loop-why.invariant.room;
}
