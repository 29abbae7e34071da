use Rattle.std.proofs.Common.{sym, ◌∙◌}
use Rattle.desk_places.proofs.EntryLemmas.{not_found}
use Rattle.desk_places.proofs.places.PlaceTable.entry_of.Goals as goal

pub unreachable-requires : goal.unreachable-requires
unreachable-requires c = not_found c.args.self.now.entries c.args.place c.requires (sym c.find.ensures.value ∙ c.in-None.is)
