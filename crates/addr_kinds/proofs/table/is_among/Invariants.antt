use Rattle.std.proofs.Common.{◌≡◌, length, map}
use Rattle.option_table.specs.Table.{is_listed}
use Rattle.addr_kinds.proofs.table.is_among.Given as goal

abbrev pub invariant-loop-known : goal.invariant-loop-known
invariant-loop-known l = is_listed (map (λ one. one.now) l.known) l.keyword ≡ is_listed (map (λ one. one.now) l.initial.known) l.keyword

abbrev pub decreases-loop-known : goal.decreases-loop-known
decreases-loop-known l = length l.known
