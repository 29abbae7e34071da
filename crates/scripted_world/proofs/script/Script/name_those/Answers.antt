use Rattle.scripted_world.proofs.LookLemmas.{ready_all, ready_more}
use Rattle.scripted_world.proofs.script.Script.name_those.Goals as goal

pub loop-entry-preserved : goal.loop-entry-preserved
loop-entry-preserved c = record {
  room = c.name_if_ready.ensures.room;
  few = c.name_if_ready.ensures.few;
  named = rw c.name_if_ready.ensures.named (ready_more c.args.self.now c.args.at c.args.entries.now c.loop-entry.entry-index _ c.loop-entry.ready.entries 256 _ c.loop-entry-test.true c.loop-entry.invariant.named);
}

pub returns-clause-named : goal.returns-clause-named
returns-clause-named c = ready_all c.args.self.now c.args.at c.args.entries.now c.loop-entry.entry-index c.loop-entry.ready.entries 256 _ c.loop-entry-test.false c.loop-entry.invariant.few c.loop-entry.invariant.named
