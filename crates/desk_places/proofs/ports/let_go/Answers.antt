use Rattle.std.proofs.Common.{rules, refl, true, Some, ◌≡◌}
use Rattle.port_table.specs.Ports.{EntrySeen}
use Rattle.desk_places.specs.Changes.{LeftSo}
use Rattle.desk_places.proofs.PortLemmas.{leaves_parent}
use Rattle.desk_places.proofs.ports.let_go.Goals.{then-joined, else-joined}
use Rattle.desk_places.proofs.ports.let_go.Goals as goal

pub returns-in-Ok-clause-kept : goal.returns-in-Ok-clause-kept
returns-in-Ok-clause-kept g c =
    let left = c.if-joined.left-inside in
    let new : EntrySeen = record { place = left.place; port = g.T.Port.seen left.port } in
    let so : LeftSo c.args.joined c.args.entry.port (g.T.Port.seen left.port) = elim c.if-joined.branch [ then-joined w ↦ rw (w.left-inside-is, w.if-joined.true) (search rules) | else-joined w ↦ rw (w.left-inside-is, w.if-joined.false) (search rules) ] in
    let place : left.place ≡ c.args.entry.place = elim c.if-joined.branch [ then-joined w ↦ rw w.left-inside-is (search rules) | else-joined w ↦ rw w.left-inside-is (search rules) ] in
    leaves_parent c.args.joined (Some c.args.entry) c.args.entry new true c.args.parents.now.items c.insert.new.self.items refl place so (search rules) (search rules)
