use Rattle.std.proofs.Common.{refl}
use Rattle.std.proofs.Math.Logic.{∥∥₁_map}
use Rattle.world_trait.specs.declared.answers.NoteAnswer.TheVariants as notes
use Rattle.desk_places.specs.PlaceTables.{base_at}
use Rattle.port_desk.proofs.FollowLemmas.{note_follows}
use Rattle.port_desk.proofs.worlds.DeskWorld.note.Goals as goal

pub invariant_of-self-in-Some-Took-clause-follows : goal.invariant_of-self-in-Some-Took-clause-follows
invariant_of-self-in-Some-Took-clause-follows g c =
    let before = c.args.self.now in
    let bases = base_at before.log.places.entries in
    let table = c.note.new.self in
    let called = c.in-Some-Took.ensures in
    rw (c.put_note.ensures.places, c.prepare.ensures.rest.places) (∥∥₁_map before.follows
    (λ on. record {
      follows = λ start. note_follows notes.Noted c.args.text.now before.log.recording.told c.put_note.new.self.recording.told bases bases before.ports.table.input table.input before.ports.table.output table.output before.ports.table.errors table.errors
          (rw c.prepare.ensures.rest.told at c.put_note.ensures.told) called.streams.0 called.streams.1 (rw c.in-Some-Took.field-0-is at called.said) (λ p. refl) (on.follows start);
    }))

pub invariant_of-self-in-Some-Failed-clause-follows : goal.invariant_of-self-in-Some-Failed-clause-follows
invariant_of-self-in-Some-Failed-clause-follows g c =
    let before = c.args.self.now in
    let bases = base_at before.log.places.entries in
    let table = c.note.new.self in
    let called = c.in-Some-Failed.ensures in
    rw (c.put_note-in-Some-Failed.ensures.places, c.prepare.ensures.rest.places) (∥∥₁_map before.follows
    (λ on. record {
      follows = λ start. note_follows notes.Failed c.args.text.now before.log.recording.told c.put_note-in-Some-Failed.new.self.recording.told bases bases before.ports.table.input table.input before.ports.table.output table.output before.ports.table.errors table.errors
          (rw c.prepare.ensures.rest.told at c.put_note-in-Some-Failed.ensures.told) called.streams.0 called.streams.1 (rw c.in-Some-Failed.field-0-is at called.said) (λ p. refl) (on.follows start);
    }))
