-- What an answer of the system means.
use Rattle.std.specs.Prelude.{◌≡◌, ◌≢◌, ℕ, ◌<◌, List, take, Bool, true, false, Option, None, Some, Result, Ok, Err}
use Rattle.std.specs.declared.io.Error.{Error}
use Rattle.std.specs.declared.io.ErrorKind.TheVariants.{WouldBlock, NotConnected}
use Rattle.std.specs.IoError.{error_kind}
use Rattle.std.specs.Io.KnownBytes.{Keeps, Consumes, Appends, IsAtEnd}
use Rattle.port_trait.specs.{Settled, Got, Took as WriteAnswer, Shutting}
use Rattle.port_trait.specs.declared.answers.Settled.TheVariants as settles
use Rattle.port_trait.specs.declared.answers.Got.TheVariants as reads
use Rattle.port_trait.specs.declared.answers.Took.TheVariants as writes
use Rattle.port_trait.specs.declared.answers.Shutting.TheVariants as shuts
use Rattle.socket_kinds.specs.declared.answering.Connection.{Connection}
use Rattle.socket_kinds.specs.declared.answering.Connection.TheVariants as connections

-- one call of the system was answered so, and this holds of the answer
abbrev pub Answers : {T : Type 0} → (Result T Error → Type 0) → (Result T Error → Type 0) → Type 0
Answers {T} call P = (told : Result T Error) × call told × P told

-- a read of a stream: no bytes are its end
abbrev pub IsReceived : Result ℕ Error → Got → Type 0
IsReceived (Ok count) got = (count ≡ 0 → got ≡ reads.End) × (0 < count → got ≡ reads.Bytes count)
IsReceived (Err error) got = (error_kind error ≡ WouldBlock → got ≡ reads.NotYet) × (error_kind error ≢ WouldBlock → got ≡ reads.Failed)

-- a write: taking nothing is a fault
abbrev pub IsAccepted : Result ℕ Error → WriteAnswer → Type 0
IsAccepted (Ok count) took = (count ≡ 0 → took ≡ writes.Failed) × (0 < count → took ≡ writes.Took count)
IsAccepted (Err error) took = (error_kind error ≡ WouldBlock → took ≡ writes.NotYet) × (error_kind error ≢ WouldBlock → took ≡ writes.Failed)

-- the reader lost the bytes that this answer hands out, and none with any other; it is at its end where the answer is that
abbrev pub ReaderGave : Option (List ℕ) → Option (List ℕ) → List ℕ → Got → Type 0
ReaderGave before now into (reads.Bytes n) = Consumes before now (take n into)
ReaderGave before now into reads.Empty = ⊥
ReaderGave before now into reads.End = Keeps before now × IsAtEnd now
ReaderGave before now into reads.NotYet = Keeps before now
ReaderGave before now into reads.Failed = Keeps before now

-- the writer holds the bytes more that this answer tells as taken, and none with any other
abbrev pub WriterTook : Option (List ℕ) → Option (List ℕ) → List ℕ → WriteAnswer → Type 0
WriterTook before now bytes (writes.Took n) = Appends before now (take n bytes)
WriterTook before now bytes writes.NotYet = Keeps before now
WriterTook before now bytes writes.Failed = Keeps before now

-- a shutdown: a connection that the peer has reset is shut
abbrev pub IsShutDown : {T : Type 0} → Result T Error → Shutting → Type 0
IsShutDown (Ok done) shutting = shutting ≡ shuts.Done
IsShutDown (Err error) shutting = (error_kind error ≡ NotConnected → shutting ≡ shuts.Done) × (error_kind error ≢ NotConnected → shutting ≡ shuts.Failed)

-- a connection of which no peer is known is under way, unless an error was kept of it
abbrev pub connection_of : Result (Option Error) Error → Connection
connection_of (Ok None) = connections.UnderWay
connection_of (Ok (Some error)) = connections.Broken
connection_of (Err error) = connections.Broken

-- a connection that was under way stands where its peer is known; where none is, one call told the error that was kept of it
abbrev pub IsAsked : Bool → (Result (Option Error) Error → Type 0) → Connection → Type 0
IsAsked true tells connection = connection ≡ connections.Standing
IsAsked false tells connection = Answers tells (λ kept. connection ≡ connection_of kept)

-- what a settling answers by how a connection stands
abbrev pub settling_of : Connection → Settled
settling_of connections.UnderWay = settles.NotYet
settling_of connections.Standing = settles.Ready
settling_of connections.Broken = settles.Failed
