use Rattle.std.proofs.Common.{◌≡◌, length, map}
use Rattle.addr_kinds.specs.Kinds.{row_of, as_named}
use Rattle.addr_kinds.proofs.table.find_kind.Given as goal

abbrev pub invariant-loop-table : goal.invariant-loop-table
invariant-loop-table l = row_of (map as_named l.table) l.keyword ≡ row_of (map as_named l.initial.table) l.keyword

abbrev pub decreases-loop-table : goal.decreases-loop-table
decreases-loop-table l = length l.table
