use Rattle.std.proofs.Common.{rules, ap, arith, slice_get, subst, sym, None, Some, IfSome, ◌≡◌, ◌∙◌}
use Rattle.slab.specs.Slab.{get}
use Rattle.port_table.specs.PortTables.{place_of}
use Rattle.desk_places.specs.Keys.{KeyTable}
use Rattle.desk_places.specs.Naming.{PlaceNamed, told_by}
use Rattle.desk_places.proofs.NamingLemmas.{grown_same}
use Rattle.desk_places.proofs.OnlyLemmas.{names_then, told_still}
use Rattle.desk_places.proofs.TurnLemmas.{KeyPlaced, listed_all, listed_more, placed_told}
use Rattle.desk_places.proofs.ports.Ports.name_listed.Goals.{in-Some, in_default}
use Rattle.desk_places.proofs.ports.Ports.name_listed.Goals as goal

pub returns-clause-named : goal.returns-clause-named
returns-clause-named g c =
    listed_all (told_by c.args.self.now.table) c.args.places.now.entries c.args.self.now.table.made c.args.self.now.listed.keys c.loop-i.i c.loop-i.ready.entries
    (omega (arith, c.loop-i-test.false, c.len-i-end.ensures)) c.loop-i.invariant.named

pub loop-i-preserved : goal.loop-i-preserved
loop-i-preserved g c =
    let entries = c.args.places.now.entries in
    let before = c.loop-i.self.table in
    let told = told_by c.args.self.now.table in
    let same = told_still c.args.self.now.table before c.loop-i.invariant.list.same.streams c.loop-i.invariant.list.same.made in
    let at = ap (λ (t : KeyTable). slice_get t.keys c.loop-i.i) (sym c.loop-i.invariant.list.same.listed) ∙ c.get-key.ensures in
    elim c.match-get.branch [
      | in-Some w ↦
          let here : place_of (get before.made c.get-key.result) ≡ Some w.entry.inside.place = search rules in
          let placed : KeyPlaced (told_by before) entries before.made c.get-key.result w.name_place.new.ready.entries = subst (λ slot. IfSome slot (λ place. PlaceNamed (told_by before) entries place w.name_place.new.ready.entries)) (sym here) w.name_place.ensures.named in
          rw (w.self-is, w.ready-is) (record {
            list = names_then entries c.args.self.now c.loop-i.self w.name_place.new.self c.args.ready.now c.loop-i.ready w.name_place.new.ready c.loop-i.invariant.list w.name_place.ensures.list;
            named = listed_more told entries c.args.self.now.table.made c.args.self.now.listed.keys c.loop-i.i c.get-key.result c.loop-i.ready.entries w.name_place.new.ready.entries at w.name_place.ensures.list.grown c.loop-i.invariant.named
                (placed_told told (told_by before) entries c.args.self.now.table.made before.made c.get-key.result w.name_place.new.ready.entries same c.loop-i.invariant.list.same.made placed);
          })
      | in_default w ↦
          let none : place_of (get before.made c.get-key.result) ≡ None = search rules in
          let placed : KeyPlaced (told_by before) entries before.made c.get-key.result c.loop-i.ready.entries = subst (λ slot. IfSome slot (λ place. PlaceNamed (told_by before) entries place c.loop-i.ready.entries)) (sym none) tt in
          rw (w.self-is, w.ready-is) (record {
            list = c.loop-i.invariant.list;
            named = listed_more told entries c.args.self.now.table.made c.args.self.now.listed.keys c.loop-i.i c.get-key.result c.loop-i.ready.entries c.loop-i.ready.entries at (grown_same c.loop-i.ready.entries) c.loop-i.invariant.named
                (placed_told told (told_by before) entries c.args.self.now.table.made before.made c.get-key.result c.loop-i.ready.entries same c.loop-i.invariant.list.same.made placed);
          })
    ]
