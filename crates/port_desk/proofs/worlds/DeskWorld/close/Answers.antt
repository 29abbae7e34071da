use Rattle.std.proofs.Math.Logic.{∥∥₁_map}
use Rattle.desk_places.specs.PlaceTables.{base_at}
use Rattle.port_desk.proofs.FollowLemmas.{close_follows}
use Rattle.port_desk.proofs.worlds.DeskWorld.close.Goals as goal

pub invariant_of-self-2-clause-follows : goal.invariant_of-self-2-clause-follows
invariant_of-self-2-clause-follows g c =
    let before = c.args.self.now in
    let table = c.close-self.new.self.table in
    rw c.put.ensures.keeps.places (∥∥₁_map before.follows
    (λ on. record {
      follows = λ start. close_follows c.args.place c.args.why before.log.recording.told c.put.new.self.recording.told (base_at before.log.places.entries) (base_at c.close-self.new.places.entries) before.ports.table.input table.input before.ports.table.output table.output before.ports.table.errors table.errors
          c.put.ensures.keeps.told c.close-self.ensures.streams.input c.close-self.ensures.streams.output c.close-self.ensures.streams.errors c.close-self.ensures.bases (on.follows start);
    }))
