use Rattle.std.proofs.Common.{rules, ap, sym, Some, ◌≡◌, ◌∙◌}
use Rattle.slab.specs.Slab.{get}
use Rattle.port_table.specs.PortTables.{place_of}
use Rattle.desk_places.proofs.NamingLemmas.{not_free, not_unkeyed, made_for}
use Rattle.desk_places.proofs.ports.Ports.place_on.Goals as goal

pub returns-in_err-entry-clause-only : goal.returns-in_err-entry-clause-only
returns-in_err-entry-clause-only g c = λ p based.
    let at : place_of (get c.args.self.now.table.made c.args.key) ≡ Some c.branch.inside.place = search rules in
    let same = made_for c.args.places.now.entries c.args.self.now.table.made c.args.self.now.listed c.branch.inside.place p c.args.key c.requires at based in
    absurd (not_free c.args.places.now.entries p c.branch.inside.place c.args.key same (sym c.find.ensures.value ∙ c.in_err-entry.was) based)

pub returns-then-is_keyed-clause-only : goal.returns-then-is_keyed-clause-only
returns-then-is_keyed-clause-only g c = λ p based.
    let at : place_of (get c.args.self.now.table.made c.args.key) ≡ Some c.branch.inside.place = search rules in
    ap Some (made_for c.args.places.now.entries c.args.self.now.table.made c.args.self.now.listed c.branch.inside.place p c.args.key c.requires at based)

pub returns-else-is_keyed-clause-only : goal.returns-else-is_keyed-clause-only
returns-else-is_keyed-clause-only g c = λ p based.
    let at : place_of (get c.args.self.now.table.made c.args.key) ≡ Some c.branch.inside.place = search rules in
    let same = made_for c.args.places.now.entries c.args.self.now.table.made c.args.self.now.listed c.branch.inside.place p c.args.key c.requires at based in
    absurd (not_unkeyed c.args.places.now.entries p c.branch.inside.place c.args.key c.in_ok-entry.entry same (sym c.find.ensures.value ∙ c.in_ok-entry.was) (sym c.is_keyed.ensures ∙ c.if-is_keyed.false) based)
