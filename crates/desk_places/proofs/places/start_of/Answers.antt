use Rattle.std.proofs.Common.{nat_lt, rules}
use Rattle.std.proofs.lemmas.List.Sorted.{IsPartitionPoint-from_clause}
use Rattle.desk_places.specs.declared.places.PlaceEntry.{PlaceEntry}
use Rattle.desk_places.proofs.EntryLemmas.{parted, starts_at}
use Rattle.desk_places.proofs.places.start_of.Goals as goal

pub returns-clause-start : goal.returns-clause-start
returns-clause-start c = λ order.
    starts_at c.args.entries.now c.args.session c.partition_point.result
    (IsPartitionPoint-from_clause (λ (s : PlaceEntry). nat_lt s.place.session c.args.session) _ _ c.partition_point.ensures.partitioned (parted c.args.entries.now c.args.session order) (λ a r q k. search rules))
