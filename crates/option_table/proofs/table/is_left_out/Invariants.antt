use Rattle.std.proofs.Common.{◌≡◌, length, map}
use Rattle.option_table.specs.Table.{is_listed}
use Rattle.option_table.proofs.table.is_left_out.Given as goal

abbrev pub invariant-loop-table : goal.invariant-loop-table
invariant-loop-table l = is_listed (map (λ known. known.now) l.table) l.name ≡ is_listed (map (λ known. known.now) l.initial.table) l.name

abbrev pub decreases-loop-table : goal.decreases-loop-table
decreases-loop-table l = length l.table
