use Rattle.desk_places.specs.PlaceTables.{base_at}
use Rattle.port_desk.proofs.OpenLemmas.{doors_from, no_doors}
use Rattle.std.proofs.Math.Logic.{∥∥₁_map}
use Rattle.port_desk.proofs.FollowLemmas.{accept_follows}
use Rattle.port_desk.proofs.worlds.DeskWorld.accept.Goals as goal

pub returns-clause-ports : goal.returns-clause-ports
returns-clause-ports g c =
    rw c.keep_accepting.ensures.places (doors_from (g.M.Maker.accepts c.args.self.now.ports.maker c.accept-answer.new.self.maker) g.M.Made.Port.seen (base_at c.args.self.now.log.places.entries c.args.door) c.accept-answer.result c.args.place (base_at c.accept-answer.new.places.entries c.args.place) c.args.self.now.ports.table.made c.prepare_port.new.self.ports.table.made c.accept-answer.new.self.table.made c.prepare_port.ensures.kept.ports.made
    (rw (c.prepare_port.ensures.kept.log.entries, c.prepare_port.ensures.kept.ports.maker) at c.accept-answer.ensures.ports))

pub returns-in_default-clause-ports : goal.returns-in_default-clause-ports
returns-in_default-clause-ports g c = no_doors (base_at c.args.self.now.log.places.entries c.args.door) c.args.self.now.ports.table.made c.prepare_port.new.self.ports.table.made c.prepare_port.ensures.kept.ports.made

pub invariant_of-self-2-clause-follows : goal.invariant_of-self-2-clause-follows
invariant_of-self-2-clause-follows g c =
    let before = c.prepare_port.new.self in
    let table = c.accept-answer.new.self.table in
    rw c.keep_accepting.ensures.places (∥∥₁_map before.follows
    (λ on. record {
      follows = λ start. accept_follows c.accept-answer.result c.args.door c.args.place before.log.recording.told c.keep_accepting.new.self.recording.told (base_at before.log.places.entries) (base_at c.accept-answer.new.places.entries) before.ports.table.input table.input before.ports.table.output table.output before.ports.table.errors table.errors
          c.keep_accepting.ensures.told c.accept-answer.ensures.streams.input c.accept-answer.ensures.streams.output c.accept-answer.ensures.streams.errors c.accept-answer.ensures.bases (on.follows start);
    }))
