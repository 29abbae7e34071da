use Rattle.std.proofs.Common.{arith}
use Rattle.std.proofs.lemmas.Option.{slice_get-get_or}
use Rattle.desk_places.specs.Naming.{told_by}
use Rattle.desk_places.proofs.OnlyLemmas.{names_then, told_still}
use Rattle.desk_places.proofs.TurnLemmas.{asked_more, place_told, standard_all}
use Rattle.desk_places.proofs.ports.Ports.name_standard.Goals as goal

pub returns-clause-named : goal.returns-clause-named
returns-clause-named g c =
    standard_all (told_by c.args.self.now.table) c.args.places.now.entries c.listed-listed.result.now c.loop-i.i c.loop-i.ready.entries
    (omega (arith, c.loop-i-test.false)) c.listed-listed.ensures c.loop-i.invariant.named

pub loop-i-preserved : goal.loop-i-preserved
loop-i-preserved g c =
    let same = told_still c.args.self.now.table c.loop-i.self.table c.loop-i.invariant.list.same.streams c.loop-i.invariant.list.same.made in
    record {
      list = names_then c.args.places.now.entries c.args.self.now c.loop-i.self c.name_place.new.self c.args.ready.now c.loop-i.ready c.name_place.new.ready c.loop-i.invariant.list c.name_place.ensures.list;
      named = asked_more (told_by c.args.self.now.table) c.args.places.now.entries c.listed-listed.result.now c.loop-i.i _ c.loop-i.ready.entries c.name_place.new.ready.entries
          (slice_get-get_or c.listed-listed.result.now c.loop-i.i _ c.loop-i-test.true) c.name_place.ensures.list.grown c.loop-i.invariant.named
          (place_told (told_by c.args.self.now.table) (told_by c.loop-i.self.table) c.args.places.now.entries _ c.name_place.new.ready.entries same c.name_place.ensures.named);
    }
