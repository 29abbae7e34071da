use Rattle.std.proofs.Common.{◌≡◌, length, map}
use Rattle.option_table.specs.Table.{found, as_named}
use Rattle.option_table.proofs.table.find_option.Given as goal

abbrev pub invariant-loop-table : goal.invariant-loop-table
invariant-loop-table l = found (map as_named l.table) l.name ≡ found (map as_named l.initial.table) l.name

abbrev pub decreases-loop-table : goal.decreases-loop-table
decreases-loop-table l = length l.table
