-- The one call on a port that stands behind an answer of a desk. After `Memory` none was made.
use Rattle.std.specs.Prelude.{◌≡◌, ◌≤◌, ◌&&◌, ◌⊎◌, ℕ, Bool, not, List, None, Some, ⊤}
use Rattle.port_trait.specs.Counting.{Counted}
use Rattle.relay_model.specs.{names, Shut, Half, Place, ReadyAt}
use Rattle.desk_places.specs.{SameMarks}
use Rattle.port_table.specs.{StreamNotes, StreamSeen}
use Rattle.port_trait.specs.{PortSeen, Reads, Writes, Sends, Shuts}
use Rattle.port_trait.specs.declared.answers.Got.TheVariants as gots
use Rattle.port_trait.specs.declared.answers.Took.TheVariants as tooks
use Rattle.port_trait.specs.declared.answers.Shutting.TheVariants as shuttings
use Rattle.world_trait.specs.{Turned, ReadAnswer, WriteAnswer, SendAnswer, ShutAnswer, NoteAnswer}
use Rattle.world_trait.specs.declared.answers.Turned.TheVariants as turns
use Rattle.world_trait.specs.declared.answers.ReadAnswer.TheVariants as reads
use Rattle.world_trait.specs.declared.answers.WriteAnswer.TheVariants as writes
use Rattle.world_trait.specs.declared.answers.SendAnswer.TheVariants as sends
use Rattle.world_trait.specs.declared.answers.ShutAnswer.TheVariants as shuts
use Rattle.world_trait.specs.declared.answers.NoteAnswer.TheVariants as notes

-- a read of the desk is one of the port
abbrev pub ReadsSo : List ℕ → ReadAnswer → PortSeen → PortSeen → Type 0
ReadsSo into (reads.Bytes n) before now = Reads before now into (gots.Bytes n)
ReadsSo into reads.Empty before now = Reads before now into gots.Empty
ReadsSo into reads.End before now = Reads before now into gots.End
ReadsSo into reads.NotYet before now = Reads before now into gots.NotYet
ReadsSo into reads.Failed before now = Reads before now into gots.Failed
ReadsSo into reads.Memory before now = now ≡ before

-- a write of the desk is one of the port
abbrev pub WritesSo : List ℕ → WriteAnswer → PortSeen → PortSeen → Type 0
WritesSo bytes (writes.Took n) before now = Writes before now bytes (tooks.Took n)
WritesSo bytes writes.NotYet before now = Writes before now bytes tooks.NotYet
WritesSo bytes writes.Failed before now = Writes before now bytes tooks.Failed
WritesSo bytes writes.Memory before now = now ≡ before

-- a packet is taken as a whole
abbrev pub SendsSo : List ℕ → SendAnswer → PortSeen → PortSeen → Type 0
SendsSo bytes sends.Sent before now = (n : ℕ) × Sends before now bytes (tooks.Took n)
SendsSo bytes sends.NotYet before now = Sends before now bytes tooks.NotYet
SendsSo bytes sends.Failed before now = Sends before now bytes tooks.Failed
SendsSo bytes sends.Memory before now = now ≡ before

-- a shut of the desk that wanted no memory is one of the port
abbrev pub ShutsSo : Shut → ShutAnswer → PortSeen → PortSeen → Type 0
ShutsSo how shuts.Done before now = Shuts before now how shuttings.Done
ShutsSo how shuts.Failed before now = Shuts before now how shuttings.Failed
ShutsSo how shuts.Memory before now = now ≡ before

-- a note of the desk is one on standard error; without memory it may not have been begun
abbrev pub NotesAs : NoteAnswer → StreamSeen → StreamSeen → List ℕ → Type 0
NotesAs notes.Noted before now text = (n : ℕ) × StreamNotes before now text (Some (tooks.Took n))
NotesAs notes.Failed before now text = StreamNotes before now text (Some tooks.Failed)
NotesAs notes.Memory before now text = (now ≡ before) ⊎ StreamNotes before now text None

-- a wait that says stop does so only where the poller has said it in this call
abbrev pub StopsAs : ℕ → ℕ → Turned → Type 0
StopsAs before now (turns.Turned at stop) = Counted stop before now
StopsAs before now turns.Memory = before ≤ now

-- a turn arms the halves that it names, and one that wants memory none
abbrev pub TurnMarks : Turned → List ReadyAt → (Place → Half → Bool) → (Place → Half → Bool) → Type 0
TurnMarks (turns.Turned at stop) ready before after = (p : Place) (half : Half) → after p half ≡ (before p half && not (names ready p half))
TurnMarks turns.Memory ready before after = SameMarks before after

-- a fact of a wait that came to its end
abbrev pub OnTurned : Turned → Type 0 → Type 0
OnTurned (turns.Turned at stop) P = P
OnTurned turns.Memory P = ⊤
