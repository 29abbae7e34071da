use Rattle.std.proofs.Common.{rules, sym, ◌∙◌}
use Rattle.fork_table.proofs.Rows.{lent_table, lent_to, changed}
use Rattle.fork_table.proofs.tables.ForkTable.session_mut.Goals as goal

pub invariant_of-self-lent : goal.invariant_of-self-lent
invariant_of-self-lent g c = λ r. (λ w. lent_table _ c.args.number c.in-Some.key w c.self.invariant (sym c.get.ensures ∙ c.in-Some.is), c.self.invariant)

pub returns-in-Some : goal.returns-in-Some
returns-in-Some g c =
    let found = sym c.get.ensures ∙ c.in-Some.is in (
      search rules,
      record {
        writes_back = tt;
        value = rw (← c.self.view_is, found) c.get_mut.ensures.value;
        changes = rw (← c.self.view_is) (lent_to c.get_mut.result _ (λ w. changed _ c.args.number c.in-Some.key w c.self.invariant found));
        ticks = c.tick.ensures;
      },
    )
