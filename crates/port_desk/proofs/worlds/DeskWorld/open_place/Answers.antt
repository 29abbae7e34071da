use Rattle.port_table.specs.Bases.{standard_of}
use Rattle.desk_places.specs.Causes.{asking}
use Rattle.desk_places.specs.PlaceTables.{base_at}
use Rattle.world_trait.specs.{open_act}
use Rattle.port_desk.proofs.CallLemmas.{asked_by}
use Rattle.port_desk.proofs.OpenLemmas.{no_ports, opened_from, ports_from, unopened}
use Rattle.std.proofs.Math.Logic.{∥∥₁_map}
use Rattle.port_desk.proofs.FollowLemmas.{open_follows}
use Rattle.port_desk.proofs.worlds.DeskWorld.open_place.Goals as goal

pub returns-clause-begun : goal.returns-clause-begun
returns-clause-begun g c =
    opened_from (standard_of c.args.place c.args.single.now.target) c.open-answer.result c.args.self.now.ports.table c.prepare_opening.new.self.ports.table c.open-answer.new.self.table
    c.prepare_opening.ensures.kept.ports.streams
    c.open-answer.ensures.begun

pub returns-clause-ports : goal.returns-clause-ports
returns-clause-ports g c =
    rw c.keep_opening.ensures.places (ports_from (g.M.Maker.makes c.args.self.now.ports.maker (asking c.args.place c.args.single.now c.args.behind) c.open-answer.new.self.maker) g.M.Made.Port.seen (standard_of c.args.place c.args.single.now.target) c.open-answer.result c.args.place (base_at c.open-answer.new.places.entries c.args.place) c.args.self.now.ports.table.made c.prepare_opening.new.self.ports.table.made c.open-answer.new.self.table.made c.prepare_opening.ensures.kept.ports.made (rw c.prepare_opening.ensures.kept.ports.maker at c.open-answer.ensures.ports))

pub returns-in_default-clause-begun : goal.returns-in_default-clause-begun
returns-in_default-clause-begun g c =
    unopened (standard_of c.args.place c.args.single.now.target) c.args.self.now.ports.table c.prepare_opening.new.self.ports.table
    c.prepare_opening.ensures.kept.ports.streams

pub returns-in_default-clause-ports : goal.returns-in_default-clause-ports
returns-in_default-clause-ports g c = no_ports (standard_of c.args.place c.args.single.now.target) c.args.self.now.ports.table.made c.prepare_opening.new.self.ports.table.made c.prepare_opening.ensures.kept.ports.made

pub invariant_of-self-2-clause-follows : goal.invariant_of-self-2-clause-follows
invariant_of-self-2-clause-follows g c =
    let before = c.prepare_opening.new.self in
    let table = c.open-answer.new.self.table in
    let stay = c.open-answer.ensures.stay in
    rw c.keep_opening.ensures.places (∥∥₁_map before.follows
    (λ on. record {
      follows = λ start. open_follows c.open-answer.result c.args.place c.args.single.now before.log.recording.told c.keep_opening.new.self.recording.told (base_at before.log.places.entries) (base_at c.open-answer.new.places.entries) before.ports.table.input table.input before.ports.table.output table.output before.ports.table.errors table.errors
          (asked_by c.args.place c.args.single.now c.in-Ok.copied (open_act c.args.place c.open-answer.result) _ _ c.in-Ok.ensures.can.copied c.keep_opening.ensures.told) stay.input stay.output stay.errors stay.input_end c.open-answer.ensures.bases (on.follows start);
    }))
