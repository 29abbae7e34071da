use Rattle.std.proofs.Common.{◌≡◌, length}
use Rattle.journal_table.specs.Tables.{peers_beside}
use Rattle.journal_table.proofs.tables.say_peers.Given as goal

abbrev pub invariant-loop-places : goal.invariant-loop-places
invariant-loop-places l = peers_beside l.overview.config l.overview.acts l.page l.places ≡ peers_beside l.overview.config l.overview.acts l.initial.page l.initial.places

abbrev pub decreases-loop-places : goal.decreases-loop-places
decreases-loop-places l = length l.places
