use Rattle.std.proofs.Common.{sym, set, Some}
use Rattle.desk_places.specs.PlaceTables.{SetsEntry, entry_at, SameStanding}
use Rattle.desk_places.proofs.EntryLemmas.{listed_on, order_set, puts_by, sets_standing, entry-set}
use Rattle.desk_places.proofs.places.PlaceTable.replace.Goals as goal

sets : (c : goal.After-self-1) → SetsEntry c.args.entry.place (Some c.args.entry) (entry_at c.self.inside.entries.items) (entry_at (set c.self.inside.entries.items c.in-Some.i c.args.entry))
sets c = entry-set c.self.inside.entries.items c.in-Some.i c.args.entry (rw (← c.self.view_is) at (c.in-Some.ensures.first))

standing : (c : goal.After-self-1) → SameStanding c.self.inside.entries.items (set c.self.inside.entries.items c.in-Some.i c.args.entry)
standing c = sets_standing c.self.inside.entries.items _ c.args.entry.place (Some c.args.entry) (sets c) (sym (rw (← c.self.view_is) at (c.requires)))

pub returns-in-Some-clause-put : goal.returns-in-Some-clause-put
returns-in-Some-clause-put c = rw (← c.self.view_is) (puts_by c.self.inside.entries.items _ c.args.entry.place (Some c.args.entry) (sets c))

pub returns-in-Some-clause-standing : goal.returns-in-Some-clause-standing
returns-in-Some-clause-standing c = λ p. rw (← c.self.view_is) (standing c p)

pub invariant_of-self : goal.invariant_of-self
invariant_of-self c = (
  order_set c.self.inside.entries.items c.in-Some.i c.args.entry (rw (← c.self.view_is) at (c.in-Some.ensures.first)) c.self.invariant.0,
  listed_on c.self.inside.entries.items _ c.self.inside.asked.items (standing c) c.self.invariant.1,
)
