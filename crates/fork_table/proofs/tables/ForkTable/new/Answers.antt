use Rattle.fork_table.proofs.Rows.{empty_table}
use Rattle.fork_table.proofs.tables.ForkTable.new.Goals as goal

pub invariant_of-result : goal.invariant_of-result
invariant_of-result g c = empty_table c.new.result c.new-2.result c.args.max_children c.args.stop_after c.new.ensures
