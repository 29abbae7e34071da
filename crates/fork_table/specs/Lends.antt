-- What a table ends as, where a session is lent.
use Rattle.std.specs.Prelude.{ℕ, Option}
use Rattle.std.specs.Borrow.{LendsIf, Fml, RattleType, MutBor}
use Rattle.fork_table.specs.Tables.{Table, with_session}
use Rattle.fork_table.specs.contracts.tables.ForkTable.{the_row}

-- once the borrow r ends, the number has the last session written through r; at `None` the table stays as it is
abbrev pub lends_session : (T : RattleType) (t : MutBor (Table T.Denot)) (number : ℕ) → Option (MutBor T.Denot) → Fml
lends_session T t number r = LendsIf (the_row T) T t r (with_session t.now number) t.now
