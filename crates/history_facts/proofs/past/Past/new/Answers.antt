use Rattle.history_facts.proofs.past.Past.new.Goals as goal

pub invariant_of-result : goal.invariant_of-result
invariant_of-result c = record {
  clock = c.new.ensures;
  openings = c.new-2.ensures;
  armings = c.new-3.ensures c.args.config.now;
  traffic = c.new-4.ensures;
  sessions = c.new-5.ensures c.args.config.now;
}
