use Rattle.std.proofs.Math.Logic.{∥∥₁_map}
use Rattle.desk_places.specs.PlaceTables.{base_at}
use Rattle.std.proofs.Common.{ap, refl}
use Rattle.port_desk.proofs.FollowLemmas.{reap_follows}
use Rattle.port_desk.proofs.worlds.DeskWorld.reap.Goals as goal

pub invariant_of-self-2-clause-follows : goal.invariant_of-self-2-clause-follows
invariant_of-self-2-clause-follows g c =
    let before = c.args.self.now in
    let table = c.reap-answer.new.self.table in
    rw (c.keep_reap.ensures.keeps.places, c.reserve.ensures.rest.places) (∥∥₁_map before.follows
    (λ on. record {
      follows = λ start. reap_follows c.keep_reap.result c.args.place before.log.recording.told c.keep_reap.new.self.recording.told (base_at before.log.places.entries) (base_at before.log.places.entries) before.ports.table.input table.input before.ports.table.output table.output before.ports.table.errors table.errors
          (rw c.reserve.ensures.rest.told at c.keep_reap.ensures.keeps.told) (ap (λ h. h.input) c.reap-answer.ensures.streams.0) (ap (λ h. h.output) c.reap-answer.ensures.streams.0) (ap (λ h. h.errors) c.reap-answer.ensures.streams.0) (λ p. refl) (on.follows start);
    }))
