use Rattle.std.proofs.Common.{sym, ◌∙◌}
use Rattle.fork_table.proofs.Rows.{same_table, same_rows, unlived, gone_row, gone_others, gone_table, some_live}
use Rattle.fork_table.proofs.tables.ForkTable.retire.Goals as goal

pub invariant_of-self : goal.invariant_of-self
invariant_of-self g c = same_table _ c.remove.new.self c.args.number c.self.invariant (sym c.remove.ensures.value ∙ c.in_err-key.was) c.remove.ensures.values

pub returns-in_err-key-clause-row : goal.returns-in_err-key-clause-row
returns-in_err-key-clause-row g c = unlived _ c.remove.new.self c.args.number c.self.invariant (sym c.remove.ensures.value ∙ c.in_err-key.was) c.remove.ensures.values

pub returns-in_err-key-clause-others : goal.returns-in_err-key-clause-others
returns-in_err-key-clause-others g c = rw (← c.self.view_is) (λ n differ. same_rows _ c.remove.new.self c.args.number c.self.invariant (sym c.remove.ensures.value ∙ c.in_err-key.was) c.remove.ensures.values n)

pub overflow_sub-self : goal.overflow_sub-self
overflow_sub-self g c = some_live _ c.args.number c.in_ok-key.key c.self.invariant (sym c.remove.ensures.value ∙ c.in_ok-key.was)

pub invariant_of-self-2 : goal.invariant_of-self-2
invariant_of-self-2 g c = gone_table _ c.remove.new.self c.try_remove.new.self c.args.number c.in_ok-key.key c.self.invariant (sym c.remove.ensures.value ∙ c.in_ok-key.was) c.remove.ensures.values c.try_remove.ensures.updates

pub returns-clause-row : goal.returns-clause-row
returns-clause-row g c = gone_row _ c.remove.new.self c.try_remove.new.self c.args.number c.self.invariant c.remove.ensures.values

pub returns-clause-others : goal.returns-clause-others
returns-clause-others g c = rw (← c.self.view_is) (gone_others _ c.remove.new.self c.try_remove.new.self c.args.number c.in_ok-key.key c.self.invariant (sym c.remove.ensures.value ∙ c.in_ok-key.was) c.remove.ensures.values c.try_remove.ensures.updates)
