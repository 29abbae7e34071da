use Rattle.std.proofs.Common.{refl, rules}
use Rattle.std.proofs.Math.Logic.{∥∥₁_map}
use Rattle.world_trait.specs.declared.answers.Turned.TheVariants as turns
use Rattle.desk_places.specs.PlaceTables.{base_at, hold_at}
use Rattle.desk_places.proofs.NamingLemmas.{names_on}
use Rattle.port_desk.proofs.FollowLemmas.{wait_follows}
use Rattle.port_desk.proofs.worlds.DeskWorld.wait.Goals as goal

pub returns-clause-named : goal.returns-clause-named
returns-clause-named g c = rw c.count_turn.ensures.places (names_on (hold_at c.poll-at.new.self.log.places.entries) (hold_at c.arm_named.new.places.entries) c.poll-at.new.ready.entries (rw c.in-Ok-put_turn.ensures.ok.places at c.arm_named.ensures.held) c.poll-at.ensures.named)

pub returns-clause-polls : goal.returns-clause-polls
returns-clause-polls g c = rw (c.reserve.ensures.rest.places, c.reserve.ensures.rest.last) at c.poll-at.ensures.polls

pub invariant_of-self-3-clause-sound : goal.invariant_of-self-3-clause-sound
invariant_of-self-3-clause-sound g c = rw c.count_turn.ensures.places (c.arm_named.ensures.sound _ _ (rw c.in-Ok-put_turn.ensures.ok.places c.poll-at.new.self.sound))

pub invariant_of-self-3-clause-follows : goal.invariant_of-self-3-clause-follows
invariant_of-self-3-clause-follows g c =
    let before = c.poll-at.new.self in
    let table = before.ports.table in
    let polled = c.poll-at.result in
    rw (c.count_turn.ensures.places, c.count_turn.ensures.recording) (∥∥₁_map before.follows
    (λ on. record {
      follows = λ start. wait_follows (turns.Turned polled.at polled.stop) c.args.until c.poll-at.new.ready before.log.recording.told c.put_turn.new.self.recording.told (base_at before.log.places.entries) (base_at c.arm_named.new.places.entries) table.input table.input table.output table.output table.errors table.errors
          c.in-Ok-put_turn.ensures.ok.told refl refl refl (rw c.in-Ok-put_turn.ensures.ok.places at c.arm_named.ensures.standing) (on.follows start);
    }))

pub returns-clause-turn : goal.returns-clause-turn
returns-clause-turn g c = record { did = search rules; counts = search rules; exact = search rules; stopped = search rules }
