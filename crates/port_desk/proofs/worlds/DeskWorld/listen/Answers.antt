use Rattle.desk_places.specs.PlaceTables.{base_at}
use Rattle.world_trait.specs.{listen_act}
use Rattle.port_desk.proofs.CallLemmas.{asked_by}
use Rattle.desk_places.proofs.MadeLemmas.{then_listens}
use Rattle.std.proofs.Math.Logic.{∥∥₁_map}
use Rattle.port_desk.proofs.FollowLemmas.{listen_follows}
use Rattle.port_desk.proofs.worlds.DeskWorld.listen.Goals as goal

pub returns-clause-ports : goal.returns-clause-ports
returns-clause-ports g c = rw c.keep_listening.ensures.places (then_listens (g.M.Maker.listens c.args.self.now.ports.maker c.args.single.now c.listen-answer.new.self.maker) g.M.Made.Port.seen c.listen-answer.result c.args.door (base_at c.listen-answer.new.places.entries c.args.door) c.args.self.now.ports.table.made c.prepare_opening.new.self.ports.table.made c.listen-answer.new.self.table.made c.prepare_opening.ensures.kept.ports.made (rw c.prepare_opening.ensures.kept.ports.maker at c.listen-answer.ensures.ports))

pub invariant_of-self-2-clause-follows : goal.invariant_of-self-2-clause-follows
invariant_of-self-2-clause-follows g c =
    let before = c.prepare_opening.new.self in
    let table = c.listen-answer.new.self.table in
    rw c.keep_listening.ensures.places (∥∥₁_map before.follows
    (λ on. record {
      follows = λ start. listen_follows c.listen-answer.result c.args.door c.args.single.now before.log.recording.told c.keep_listening.new.self.recording.told (base_at before.log.places.entries) (base_at c.listen-answer.new.places.entries) before.ports.table.input table.input before.ports.table.output table.output before.ports.table.errors table.errors
          (asked_by c.args.door c.args.single.now c.in-Ok.copied (listen_act c.args.door c.listen-answer.result) _ _ c.in-Ok.ensures.can.copied c.keep_listening.ensures.told) c.listen-answer.ensures.streams.input c.listen-answer.ensures.streams.output c.listen-answer.ensures.streams.errors c.listen-answer.ensures.bases (on.follows start);
    }))
