use Rattle.std.proofs.Common.{◌≡◌, ◌∙◌, sym, Some, slice_get}
use Rattle.desk_places.proofs.EntryLemmas.{first_found, first_within, found_place, got}
use Rattle.desk_places.proofs.places.PlaceTable.find.Goals as goal

pub returns-clause-value : goal.returns-clause-value
returns-clause-value c =
    let first = rw (← c.self.view_is) at (c.in_ok-i.ensures.first) in
    let value : slice_get c.self.inside.entries.items c.in_ok-i.i ≡ Some c.index.result.now = got c.self.inside.entries.items c.in_ok-i.i c.index.result.now (first_within c.self.inside.entries.items c.args.place c.in_ok-i.i first) (sym c.index.ensures) in
    rw (← c.self.view_is) (sym value ∙ first_found c.self.inside.entries.items c.args.place c.in_ok-i.i first)

pub returns-clause-here : goal.returns-clause-here
returns-clause-here c = found_place c.args.self.now.entries c.args.place c.index.result.now (sym (returns-clause-value c))
