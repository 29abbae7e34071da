-- All ports of a desk, and which of them a call on a base goes to.
use Rattle.std.specs.Prelude.{◌≡◌, ◌≢◌, ◌⊎◌, ◌||◌, ℕ, Bool, false, List, Option, None, Some, IfSome, is_some}
use Rattle.slab.specs.Slab.{Slab, get}
use Rattle.relay_model.specs.{Place}
use Rattle.port_trait.specs.{Hint, Begun, Took, Rose, MovesNothing, PortSeen, PutsAll}
use Rattle.port_trait.specs.declared.answers.Begun.TheVariants as begins
use Rattle.port_trait.specs.declared.answers.Took.TheVariants as tooks
use Rattle.port_table.specs.Ports.{EntrySeen, StreamBegins, StreamSeen}
use Rattle.port_table.specs.declared.bases.Base.{Base}
use Rattle.port_table.specs.declared.bases.Base.TheVariants as bases
use Rattle.port_table.specs.declared.table.PortTable.{PortTable}

-- one port: a standard one, or the made one of a key
pub data PortId : Type 0 where
  Input : PortId
  Output : PortId
  Errors : PortId
  Made : ℕ → PortId

-- the port of the half that gives, which also settles and has the child
abbrev pub giving_port : Base → PortId
giving_port bases.Input = Input
giving_port bases.Output = Output
giving_port bases.Both = Input
giving_port bases.Errors = Errors
giving_port (bases.Made key) = Made key

-- the port of the half that takes
abbrev pub taking_port : Base → PortId
taking_port bases.Input = Input
taking_port bases.Output = Output
taking_port bases.Both = Output
taking_port bases.Errors = Errors
taking_port (bases.Made key) = Made key

-- the first where the id is this one, else the second
abbrev pub AtInput : PortId → Type 0 → Type 0 → Type 0
AtInput Input Here Elsewhere = Here
AtInput Output Here Elsewhere = Elsewhere
AtInput Errors Here Elsewhere = Elsewhere
AtInput (Made key) Here Elsewhere = Elsewhere

-- what is said of standard output, and of each other port
abbrev pub AtOutput : PortId → Type 0 → Type 0 → Type 0
AtOutput Input Here Elsewhere = Elsewhere
AtOutput Output Here Elsewhere = Here
AtOutput Errors Here Elsewhere = Elsewhere
AtOutput (Made key) Here Elsewhere = Elsewhere

-- what is said of standard error, and of each other port
abbrev pub AtErrors : PortId → Type 0 → Type 0 → Type 0
AtErrors Input Here Elsewhere = Elsewhere
AtErrors Output Here Elsewhere = Elsewhere
AtErrors Errors Here Elsewhere = Here
AtErrors (Made key) Here Elsewhere = Elsewhere

-- what is said of a made port by its key, and of each other port
abbrev pub AtMade : PortId → (ℕ → Type 0) → Type 0 → Type 0
AtMade Input Here Elsewhere = Elsewhere
AtMade Output Here Elsewhere = Elsewhere
AtMade Errors Here Elsewhere = Elsewhere
AtMade (Made key) Here Elsewhere = Here key

-- the call was made on the made port of the key, and no other made port changed
pub record MadeCall (before now : Slab EntrySeen) (key : ℕ) (Call : PortSeen → PortSeen → Type 0) : Type 0 where
  pub call : IfSome (get before key) (λ old. IfSome (get now key) (λ new. (new.place ≡ old.place) × Call old.port new.port))
  pub stands : is_some (get now key) ≡ is_some (get before key)
  pub others : (other : ℕ) → other ≢ key → get now other ≡ get before other

-- the call was made on the port of the stream, which has begun or not as before; its output is finished where it was or
-- where the call finishes it
pub record StreamEnds (ends : Bool) (before now : StreamSeen) (Call : PortSeen → PortSeen → Type 0) : Type 0 where
  pub call : Call before.port now.port
  pub begun : now.begun ≡ before.begun
  pub finished : now.finished ≡ (ends || before.finished)

-- a call that finishes no output
abbrev pub StreamCall : StreamSeen → StreamSeen → (PortSeen → PortSeen → Type 0) → Type 0
StreamCall before now Call = StreamEnds false before now Call

-- the call was made on the port of the id, and every other port of the table is as it was
abbrev pub EndsAt : {T I O E : Type 0} → Bool → PortId → PortTable T I O E → PortTable T I O E → (PortSeen → PortSeen → Type 0) → Type 0
EndsAt ends Input before now Call = StreamEnds ends before.input now.input Call × (now.output ≡ before.output) × (now.errors ≡ before.errors) × (now.made ≡ before.made)
EndsAt ends Output before now Call = (now.input ≡ before.input) × StreamEnds ends before.output now.output Call × (now.errors ≡ before.errors) × (now.made ≡ before.made)
EndsAt ends Errors before now Call = (now.input ≡ before.input) × (now.output ≡ before.output) × StreamEnds ends before.errors now.errors Call × (now.made ≡ before.made)
EndsAt ends (Made key) before now Call = (now.input ≡ before.input) × (now.output ≡ before.output) × (now.errors ≡ before.errors) × MadeCall before.made now.made key Call

-- the same of a call that finishes no output
abbrev pub CalledAt : {T I O E : Type 0} → PortId → PortTable T I O E → PortTable T I O E → (PortSeen → PortSeen → Type 0) → Type 0
CalledAt id before now Call = EndsAt false id before now Call

-- a stream that has begun and was then handed the text
pub record NotePut (before now : StreamSeen) (text : List ℕ) (answer : Took) : Type 0 where
  pub between : StreamSeen
  pub begins : StreamBegins before between begins.Begun
  pub puts : StreamCall between now (λ old new. PutsAll old new text answer)

-- a note on the stream, which is begun first and only then handed the text; none where there was no memory to begin it
abbrev pub StreamNotes : StreamSeen → StreamSeen → List ℕ → Option Took → Type 0
StreamNotes before now text None = StreamBegins before now begins.Memory
StreamNotes before now text (Some answer) = NotePut before now text answer ⊎ ((answer ≡ tooks.Failed) × StreamBegins before now begins.Failed)

-- standard output is begun once standard input has begun; else the answer is that of standard input
abbrev pub ThenBegins : Begun → StreamSeen → StreamSeen → Begun → Type 0
ThenBegins begins.Begun before now answer = StreamBegins before now answer
ThenBegins begins.Failed before now answer = (now ≡ before) × (answer ≡ begins.Failed)
ThenBegins begins.Memory before now answer = (now ≡ before) × (answer ≡ begins.Memory)

-- both streams are begun, standard input first
pub record BothBegin (input input' output output' : StreamSeen) (answer : Begun) : Type 0 where
  pub first : Begun
  pub begins : StreamBegins input input' first
  pub then : ThenBegins first output output' answer

-- the streams of the base are begun, and every other stream is as it was
abbrev pub BeginsAt : {T I O E : Type 0} → Base → PortTable T I O E → PortTable T I O E → Begun → Type 0
BeginsAt bases.Input before now answer = StreamBegins before.input now.input answer × (now.output ≡ before.output) × (now.errors ≡ before.errors)
BeginsAt bases.Output before now answer = (now.input ≡ before.input) × StreamBegins before.output now.output answer × (now.errors ≡ before.errors)
BeginsAt bases.Both before now answer = BothBegin before.input now.input before.output now.output answer × (now.errors ≡ before.errors)
BeginsAt bases.Errors before now answer = (now.input ≡ before.input) × (now.output ≡ before.output) × StreamBegins before.errors now.errors answer
BeginsAt (bases.Made key) before now answer = StreamBegins before.input now.input answer × (now.output ≡ before.output) × (now.errors ≡ before.errors)

-- every standard stream is as it was
pub record SameStreams {T I O E : Type 0} (before now : PortTable T I O E) : Type 0 where
  pub input : now.input ≡ before.input
  pub output : now.output ≡ before.output
  pub errors : now.errors ≡ before.errors

-- no standard stream moved a byte, passed an end on or met one
pub record StreamsStay {T I O E : Type 0} (before now : PortTable T I O E) : Type 0 where
  pub input : MovesNothing before.input.port now.input.port
  pub output : MovesNothing before.output.port now.output.port
  pub errors : MovesNothing before.errors.port now.errors.port
  pub input_end : now.input.port.ended ≡ before.input.port.ended
  pub output_end : now.output.port.ended ≡ before.output.port.ended
  pub errors_end : now.errors.port.ended ≡ before.errors.port.ended

-- the count of faults of a standard stream rose
abbrev pub StreamFailed : {T I O E : Type 0} → PortTable T I O E → PortTable T I O E → Type 0
StreamFailed before now = Rose before.input.port.counts.faults now.input.port.counts.faults ⊎ (Rose before.output.port.counts.faults now.output.port.counts.faults ⊎ Rose before.errors.port.counts.faults now.errors.port.counts.faults)

-- the place that a made port was made for
abbrev pub place_of : Option EntrySeen → Option Place
place_of None = None
place_of (Some entry) = Some entry.place

-- what the port of a entry hints at, if it is told
abbrev pub hints_of : Option EntrySeen → Option Hint
hints_of None = None
hints_of (Some entry) = entry.port.hints

-- the hint that the port of this id tells
abbrev pub hint_told : Option Hint → Option Hint → Option Hint → Slab EntrySeen → PortId → Option Hint
hint_told input output errors made Input = input
hint_told input output errors made Output = output
hint_told input output errors made Errors = errors
hint_told input output errors made (Made key) = hints_of (get made key)
