-- What contracts see of the socket that peers share.
use Rattle.std.specs.Prelude.{◌≡◌, ◌≢◌, ℕ, List, length, Some, Result, Ok, Err}
use Rattle.std.specs.declared.io.Error.{Error}
use Rattle.std.specs.declared.io.ErrorKind.TheVariants.{WouldBlock}
use Rattle.std.specs.IoError.{error_kind}
use Rattle.std.specs.declared.net.socket_addr.SocketAddr.{SocketAddr}
use Rattle.relay_model.specs.{Peer}
use Rattle.relay_model.specs.declared.acts.Peer.TheVariants as peers
use Rattle.port_trait.specs.{Took as WriteAnswer}
use Rattle.port_trait.specs.declared.answers.Took.TheVariants as writes
use Rattle.peer_demux.specs.{Received}
use Rattle.peer_demux.specs.declared.links.Received.TheVariants as gots
use Rattle.socket_kinds.specs.{Answers, IsAddress, IsPeer}

-- what the packets go over, and how often it failed, had nothing or no room, and gave a packet
pub record LinkState (U : Type 0) : Type 0 where
  pub wire : U
  pub faults : ℕ
  pub stalls : ℕ
  pub packets : ℕ

-- a call that would have had to wait answers the first, any other that failed the second
abbrev pub IsUnmet : {T : Type 0} → Error → T → T → T → Type 0
IsUnmet error blocked failed answer = (error_kind error ≡ WouldBlock → answer ≡ blocked) × (error_kind error ≢ WouldBlock → answer ≡ failed)

-- a packet that came is one of the sender whose address was told
abbrev pub Arrives : Result (ℕ × SocketAddr) Error → Received → Type 0
Arrives (Ok came) received = (peer : Peer) × IsPeer came.1 peer × (received ≡ gots.Packet peer came.0)
Arrives (Err error) received = IsUnmet error gots.NotYet gots.Failed received

-- a packet of so many bytes was sent as a whole or not at all
abbrev pub Departs : ℕ → Result ℕ Error → WriteAnswer → Type 0
Departs size (Ok count) took = (count ≡ size → took ≡ writes.Took size) × (count ≢ size → took ≡ writes.Failed)
Departs size (Err error) took = IsUnmet error writes.NotYet writes.Failed took

-- one sending to the address of the peer was answered so; nothing is sent to one without an address
abbrev pub SendsOnce : {U : Type 0} → (U → U → SocketAddr → List ℕ → Result ℕ Error → Type 0) → U → U → Peer → List ℕ → WriteAnswer → Type 0
SendsOnce sends_to before now peers.Local bytes took = (now ≡ before) × (took ≡ writes.Failed)
SendsOnce sends_to before now to bytes took = (addr : SocketAddr) × IsAddress to (Some addr) × Answers (sends_to before now addr bytes) (λ sent. Departs (length bytes) sent took)
