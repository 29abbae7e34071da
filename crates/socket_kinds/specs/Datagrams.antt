-- What contracts see of a socket of datagrams.
use Rattle.std.specs.Prelude.{◌≡◌, ◌≢◌, ℕ, zero, suc, ◌<◌, Bool, true, false, ◌||◌, List, length, take, drop, min, Option, None, Some, is_some, if◌then◌else◌, nat_lt, Result, Ok, Err, ⊤}
use Rattle.std.specs.declared.io.Error.{Error}
use Rattle.std.specs.declared.io.ErrorKind.TheVariants.{WouldBlock}
use Rattle.std.specs.IoError.{error_kind}
use Rattle.port_trait.specs.{Hint, Got, Took as WriteAnswer, Shutting}
use Rattle.port_trait.specs.declared.answers.Got.TheVariants as reads
use Rattle.std.specs.declared.net.socket_addr.SocketAddr.{SocketAddr}
use Rattle.port_trait.specs.declared.answers.Took.TheVariants as writes
use Rattle.port_trait.specs.declared.answers.Shutting.TheVariants as shuts
use Rattle.socket_kinds.specs.Answering.{IsAccepted}
use Rattle.socket_kinds.specs.declared.packet.FetchedPacket.{FetchedPacket}
use Rattle.socket_kinds.specs.declared.packet.FetchedPacket.TheVariants as fetches
use Rattle.socket_kinds.specs.declared.packet.Partner.{Partner}
use Rattle.socket_kinds.specs.declared.packet.Partner.TheVariants as partners

-- what the datagrams go over and whom they come from, the last one or what is left of it, the same where it wasn't
-- handed out as a whole, whether others' datagrams may still stand before the next of the partner's, and whether the
-- end comes behind the first datagram
pub record DatagramState (U : Type 0) : Type 0 where
  pub wire : U
  pub partner : Partner
  pub packet : List ℕ
  pub rest : Option (List ℕ)
  pub cut_short : Bool
  pub single : Bool

-- a socket with this partner of which nothing was read, and all is to be read
pub record IsUnread {U : Type 0} (partner : Partner) (state : DatagramState U) : Type 0 where
  pub with_partner : state.partner ≡ partner
  pub nothing : state.rest ≡ None
  pub whole : state.cut_short ≡ false
  pub more : state.single ≡ false

-- it has the rest of a datagram, or is to look for one again
abbrev pub datagram_hint : {U : Type 0} → DatagramState U → Hint
datagram_hint state = record { readable = is_some state.rest || state.cut_short; writable = false }

-- what stays of a datagram after so many bytes
abbrev pub rest_after : List ℕ → ℕ → Option (List ℕ)
rest_after bytes count = if nat_lt count (length bytes) then Some (drop count bytes) else None

-- a front of the datagram that fits is handed out; one without bytes is told as such
pub record IsGiven (bytes into : List ℕ) (rest : Option (List ℕ)) (got : Got) : Type 0 where
  pub empty : length bytes ≡ 0 → got ≡ reads.Empty
  pub some : 0 < length bytes → got ≡ reads.Bytes (min (length bytes) (length into))
  pub front : take (min (length bytes) (length into)) into ≡ take (min (length bytes) (length into)) bytes
  pub stays : rest ≡ rest_after bytes (min (length bytes) (length into))

-- the answers without a datagram
abbrev pub gives_none : Got → Bool
gives_none (reads.Bytes count) = false
gives_none reads.Empty = false
gives_none reads.End = true
gives_none reads.NotYet = true
gives_none reads.Failed = true

-- what is held after an asking
abbrev pub held_after : FetchedPacket → List ℕ → Option (List ℕ)
held_after fetches.Datagram packet = Some packet
held_after fetches.Others packet = None
held_after fetches.NotYet packet = None
held_after fetches.Failed packet = None

-- where a call would block, there is nothing yet; any other error is a fault
abbrev pub IsRefused : Error → FetchedPacket → Type 0
IsRefused error fetches.Datagram = ⊥
IsRefused error fetches.Others = ⊥
IsRefused error fetches.NotYet = error_kind error ≡ WouldBlock
IsRefused error fetches.Failed = error_kind error ≢ WouldBlock

-- one call filled a buffer so and was answered so, and this holds of both
abbrev pub Fills : {T : Type 0} → (List ℕ → Result T Error → Type 0) → (List ℕ → Result T Error → Type 0) → Type 0
Fills {T} call P = (buffer : List ℕ) × (told : Result T Error) × call buffer told × P buffer told

-- the packet is what one receiving from the one partner put into the buffer
abbrev pub IsReceivedAs : List ℕ → Result ⊤ Error → List ℕ → Result ℕ Error → Type 0
IsReceivedAs packet result buffer (Ok count) = (packet ≡ take count buffer) × (result ≡ Ok tt)
IsReceivedAs packet result buffer (Err error) = result ≡ Err error

-- a call that receives so
abbrev pub Receives : (List ℕ → Result ℕ Error → Type 0) → List ℕ → Result ⊤ Error → Type 0
Receives call packet result = Fills call (IsReceivedAs packet result)

-- the same from anyone, and who sent it
abbrev pub IsReceivedFrom : List ℕ → Result SocketAddr Error → List ℕ → Result (ℕ × SocketAddr) Error → Type 0
IsReceivedFrom packet result buffer (Ok came) = (packet ≡ take came.0 buffer) × (result ≡ Ok came.1)
IsReceivedFrom packet result buffer (Err error) = result ≡ Err error

-- a call that receives so from anyone
abbrev pub ReceivesFrom : (List ℕ → Result (ℕ × SocketAddr) Error → Type 0) → List ℕ → Result SocketAddr Error → Type 0
ReceivesFrom call packet result = Fills call (IsReceivedFrom packet result)

-- a datagram of this sender is the partner's, or is one of another
abbrev pub IsSentBy : Partner → SocketAddr → FetchedPacket → Type 0
IsSentBy partners.Connected sender fetched = fetched ≡ fetches.Datagram
IsSentBy partners.Anyone sender fetched = fetched ≡ fetches.Datagram
IsSentBy (partners.At addr) sender fetches.Datagram = sender ≡ addr
IsSentBy (partners.At addr) sender fetches.Others = sender ≢ addr
IsSentBy (partners.At addr) sender fetches.NotYet = ⊥
IsSentBy (partners.At addr) sender fetches.Failed = ⊥

-- what a receiving came to, and the packet that it left where it came to a datagram of the partner
abbrev pub IsTaken : List ℕ → FetchedPacket → List ℕ → Result ℕ Error → Type 0
IsTaken packet fetched buffer (Ok count) = (packet ≡ take count buffer) × (fetched ≡ fetches.Datagram)
IsTaken packet fetched buffer (Err error) = IsRefused error fetched

-- the same of a socket of anyone, by who sent it
abbrev pub IsTakenFrom : Partner → List ℕ → FetchedPacket → List ℕ → Result (ℕ × SocketAddr) Error → Type 0
IsTakenFrom partner packet fetched buffer (Ok came) = (packet ≡ take came.0 buffer) × IsSentBy partner came.1 fetched
IsTakenFrom partner packet fetched buffer (Err error) = IsRefused error fetched

-- a datagram of the partner is handed out, and without one there is nothing yet or a fault
abbrev pub IsRead : FetchedPacket → List ℕ → List ℕ → Option (List ℕ) → Got → Type 0
IsRead fetches.Datagram packet into rest got = IsGiven packet into rest got
IsRead fetches.Others packet into rest got = got ≡ reads.NotYet
IsRead fetches.NotYet packet into rest got = got ≡ reads.NotYet
IsRead fetches.Failed packet into rest got = got ≡ reads.Failed

module _ {U : Type 0} (receives : U → U → List ℕ → Result ℕ Error → Type 0) (receives_from : U → U → List ℕ → Result (ℕ × SocketAddr) Error → Type 0) where
  -- the wire was asked once
  abbrev pub Asks : Partner → U → U → List ℕ → FetchedPacket → Type 0
  Asks partners.Connected before now packet fetched = Fills (receives before now) (IsTaken packet fetched)
  Asks (partners.At addr) before now packet fetched = Fills (receives_from before now) (IsTakenFrom (partners.At addr) packet fetched)
  Asks partners.Anyone before now packet fetched = Fills (receives_from before now) (IsTakenFrom partners.Anyone packet fetched)

  -- it gave so many datagrams of others, each by one call
  unfoldable pub Drops : Partner → ℕ → U → U → Type 0
  Drops partner zero before now = now ≡ before
  Drops partner (suc n) before now = (mid : U) × (packet : List ℕ) × Drops partner n before mid × Asks partner mid now packet fetches.Others

  -- it was asked once more, after at most 63 of others were dropped
  abbrev pub AsksPast : Partner → U → U → List ℕ → FetchedPacket → Type 0
  AsksPast partner before now packet fetched = (n : ℕ) × (mid : U) × (n < 64) × Drops partner n before mid × Asks partner mid now packet fetched

  -- the answer of a read that asks, by what came, and what stays of that
  abbrev pub ReadsNext : Partner → U → U → List ℕ → Option (List ℕ) → Got → Type 0
  ReadsNext partner before now into rest got = (fetched : FetchedPacket) × (packet : List ℕ) × AsksPast partner before now packet fetched × IsRead fetched packet into rest got

-- one sending to the partner was answered so
abbrev pub Sends : {U : Type 0} → (U → U → List ℕ → Result ℕ Error → Type 0) → (U → U → SocketAddr → List ℕ → Result ℕ Error → Type 0) → Partner → U → U → List ℕ → Result ℕ Error → Type 0
Sends sends sends_to partners.Connected before now bytes told = sends before now bytes told
Sends sends sends_to partners.Anyone before now bytes told = sends before now bytes told
Sends sends sends_to (partners.At addr) before now bytes told = sends_to before now addr bytes told

-- a packet of so many bytes was sent as a whole, or not at all
abbrev pub IsSentWhole : ℕ → Result ℕ Error → WriteAnswer → Type 0
IsSentWhole size (Ok count) took = (count ≡ size → took ≡ writes.Took count) × (count ≢ size → took ≡ writes.Failed)
IsSentWhole size (Err error) took = IsAccepted (Err error) took

-- an empty one was sent
abbrev pub IsSentEmpty : Result ℕ Error → Shutting → Type 0
IsSentEmpty (Ok count) shutting = shutting ≡ shuts.Done
IsSentEmpty (Err error) shutting = shutting ≡ shuts.Failed
