use Rattle.desk_places.proofs.EntryLemmas.{listed_asked, listed_unasked, order_insert, entry-insert, puts_by}
use Rattle.std.proofs.Common.{Some, sym, ◌∙◌}
use Rattle.desk_places.specs.PlaceTables.{SetsEntry, entry_at}
use Rattle.desk_places.proofs.places.PlaceTable.add.Goals as goal

pub returns-then-is_standard-clause-put : goal.returns-then-is_standard-clause-put
returns-then-is_standard-clause-put c = rw (← c.self.view_is) (puts_by c.self.inside.entries.items c.insert.new.self.items c.args.entry.place (Some c.args.entry) (λ p. rw c.in-Ok.ensures.items (entry-insert c.self.inside.entries.items c.start_of-start.result c.args.entry (rw (← c.self.view_is) at c.requires.free) p)))

pub returns-else-is_standard-clause-put : goal.returns-else-is_standard-clause-put
returns-else-is_standard-clause-put c = rw (← c.self.view_is) (puts_by c.self.inside.entries.items c.insert.new.self.items c.args.entry.place (Some c.args.entry) (λ p. rw c.in-Ok.ensures.items (entry-insert c.self.inside.entries.items c.start_of-start.result c.args.entry (rw (← c.self.view_is) at c.requires.free) p)))

pub invariant_of-self : goal.invariant_of-self
invariant_of-self c =
    let starts = rw c.as_slice.ensures.value at c.start_of-start.ensures.start in
    let bound = rw c.as_slice.ensures.value at c.start_of-start.ensures.bound in
    let sets : SetsEntry c.args.entry.place (Some c.args.entry) (entry_at c.self.inside.entries.items) (entry_at c.insert.new.self.items) = λ p. rw c.in-Ok.ensures.items (entry-insert c.self.inside.entries.items c.start_of-start.result c.args.entry (rw (← c.self.view_is) at c.requires.free) p) in (
      rw c.in-Ok.ensures.items (order_insert c.self.inside.entries.items c.start_of-start.result c.args.entry bound (starts c.self.invariant.0) c.self.invariant.0),
      rw c.push_reserved.ensures.items (listed_asked c.self.inside.entries.items c.insert.new.self.items c.args.entry c.self.inside.asked.items sets c.self.invariant.1),
    )

pub invariant_of-self-else-is_standard : goal.invariant_of-self-else-is_standard
invariant_of-self-else-is_standard c =
    let starts = rw c.as_slice.ensures.value at c.start_of-start.ensures.start in
    let bound = rw c.as_slice.ensures.value at c.start_of-start.ensures.bound in
    let sets : SetsEntry c.args.entry.place (Some c.args.entry) (entry_at c.self.inside.entries.items) (entry_at c.insert.new.self.items) = λ p. rw c.in-Ok.ensures.items (entry-insert c.self.inside.entries.items c.start_of-start.result c.args.entry (rw (← c.self.view_is) at c.requires.free) p) in (
      rw c.in-Ok.ensures.items (order_insert c.self.inside.entries.items c.start_of-start.result c.args.entry bound (starts c.self.invariant.0) c.self.invariant.0),
      listed_unasked c.self.inside.entries.items c.insert.new.self.items c.args.entry c.self.inside.asked.items sets (sym c.is_standard.ensures ∙ c.if-is_standard.false) c.self.invariant.1,
    )
