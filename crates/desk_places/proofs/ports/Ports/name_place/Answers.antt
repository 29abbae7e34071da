use Rattle.std.proofs.Common.{ap, rules, sym, ◌∙◌}
use Rattle.desk_places.specs.Naming.{told_by}
use Rattle.desk_places.specs.PlaceTables.{hold_at, entry_at}
use Rattle.desk_places.proofs.EntryLemmas.{found_held}
use Rattle.desk_places.proofs.OnlyLemmas.{entry_due}
use Rattle.desk_places.proofs.ports.Ports.name_place.Goals as goal

pub returns-then-entry-clause-list : goal.returns-then-entry-clause-list
returns-then-entry-clause-list g c =
    let entries = c.args.places.now.entries in
    let told = told_by c.args.self.now.table in
    let here = ap (entry_at entries) c.in-Some.ensures.here ∙ sym c.in-Some.ensures.value in
    record {
      room = c.name_hinted.ensures.list.room;
      grown = c.name_hinted.ensures.list.grown;
      only = λ keys only. c.name_hinted.ensures.only keys told entries (entry_due keys told entries c.in-Some.entry c.hint-hint.result here c.hint-hint.ensures.readable c.hint-hint.ensures.writable) only;
      held = c.name_hinted.ensures.list.held (hold_at entries) (found_held entries c.in-Some.entry.place c.in-Some.entry here) c.requires.held;
      same = search rules;
    }
