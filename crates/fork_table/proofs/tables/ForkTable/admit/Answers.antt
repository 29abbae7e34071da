use Rattle.std.proofs.Common.{ap, ◌∙◌}
use Rattle.fork_table.specs.Tables.{may_accept_in}
use Rattle.fork_table.proofs.Rows.{next_row, next_others, next_table, fewer_live}
use Rattle.fork_table.proofs.tables.ForkTable.admit.Goals as goal

pub invariant_of-self : goal.invariant_of-self
invariant_of-self g c =
    next_table _ c.put.new.self c.insert_reserved-key.new.self c.insert_reserved-key.result c.args.session c.self.invariant c.put.ensures.values c.insert_reserved-key.ensures.was_vacant c.insert_reserved-key.ensures.updates
    (fewer_live _ c.self.invariant (ap may_accept_in c.self.view_is ∙ c.requires.may_accept))

pub returns-clause-row : goal.returns-clause-row
returns-clause-row g c = rw (← c.self.view_is) (next_row _ c.put.new.self c.insert_reserved-key.new.self c.insert_reserved-key.result c.args.session c.self.invariant c.put.ensures.values c.insert_reserved-key.ensures.updates)

pub returns-clause-others : goal.returns-clause-others
returns-clause-others g c = rw (← c.self.view_is) (next_others _ c.put.new.self c.insert_reserved-key.new.self c.insert_reserved-key.result c.args.session c.self.invariant c.put.ensures.values c.insert_reserved-key.ensures.was_vacant c.insert_reserved-key.ensures.updates)
