-- Why an opening, a listening or an accepting on a made port answers what it answers.
use Rattle.std.specs.Prelude.{◌≡◌, ◌⊎◌, ⊤, Option, Some, IfSome}
use Rattle.relay_model.specs.{Peer, Place, Single}
use Rattle.port_trait.specs.{AskedPlace, Making, MadePeer, Rose, MakerSeen, PortSeen}
use Rattle.port_trait.specs.declared.makers.Making.TheVariants as makings
use Rattle.port_trait.specs.declared.makers.MadePeer.TheVariants as peers
use Rattle.port_table.specs.{FailsToBegin}
use Rattle.world_trait.specs.{OpenAnswer, ListenAnswer, AcceptAnswer}
use Rattle.world_trait.specs.declared.answers.OpenAnswer.TheVariants as opens
use Rattle.world_trait.specs.declared.answers.ListenAnswer.TheVariants as listens
use Rattle.world_trait.specs.declared.answers.AcceptAnswer.TheVariants as accepts

-- a new port that was dropped since it didn't begin: its state as the maker gave it in this call, and the one after that
-- `begin`, between which its count of faults rose
pub record Dropped {T : Type 0} (gave : T → Type 0) (tells : T → PortSeen) : Type 0 where
  pub made : T
  pub given : gave made
  pub fails : FailsToBegin tells made

-- what a maker is asked for
abbrev pub asking : Place → Single → Option Peer → AskedPlace
asking place single behind = record { place = place; single = single; behind = behind }

-- the port of a making, ready or under way
abbrev pub MadeOne : {T : Type 0} → (Making T → Type 0) → T → Type 0
MadeOne gave port = gave (makings.Made port) ⊎ gave (makings.Later port)

-- the port of a peer that came
abbrev pub CameOne : {T : Type 0} → (MadePeer T → Type 0) → T → Type 0
CameOne gave port = (peer : Peer) × gave (peers.Came port peer)

-- by the maker's counts of faults and stalls, or by the port that it gave
abbrev pub OpenCause : {T : Type 0} → (Making T → Type 0) → (T → PortSeen) → MakerSeen → MakerSeen → OpenAnswer → Type 0
OpenCause gave tells before now opens.Opened = ⊤
OpenCause gave tells before now opens.Later = Rose before.stalls now.stalls
OpenCause gave tells before now opens.Failed = Rose before.faults now.faults ⊎ Dropped (MadeOne gave) tells
OpenCause gave tells before now opens.Memory = ⊤

-- what a maker tells that its last opening was asked for: this address for this place, with this peer behind it
abbrev pub AskedFor : Place → Single → Option Peer → Option AskedPlace → Type 0
AskedFor place single behind told = IfSome told (λ asked. asked ≡ asking place single behind)

-- the same by the answer of an opening. Where there is no memory the maker may not have been asked
abbrev pub OpenAsks : Place → Single → Option Peer → Option AskedPlace → OpenAnswer → Type 0
OpenAsks place single behind told opens.Opened = AskedFor place single behind told
OpenAsks place single behind told opens.Later = AskedFor place single behind told
OpenAsks place single behind told opens.Failed = AskedFor place single behind told
OpenAsks place single behind told opens.Memory = ⊤

-- why a listening answered so
abbrev pub ListenCause : {T : Type 0} → (Making T → Type 0) → (T → PortSeen) → MakerSeen → MakerSeen → ListenAnswer → Type 0
ListenCause gave tells before now listens.Listening = ⊤
ListenCause gave tells before now listens.Failed = Rose before.faults now.faults ⊎ Dropped (MadeOne gave) tells
ListenCause gave tells before now listens.Memory = ⊤

-- the peer is the one that the maker tells after the call
abbrev pub AcceptCause : {T : Type 0} → (MadePeer T → Type 0) → (T → PortSeen) → MakerSeen → MakerSeen → AcceptAnswer → Type 0
AcceptCause gave tells before now (accepts.Accepted peer) = now.came ≡ Some peer
AcceptCause gave tells before now accepts.NoPeer = Rose before.stalls now.stalls
AcceptCause gave tells before now accepts.Failed = Rose before.faults now.faults ⊎ Dropped (CameOne gave) tells
AcceptCause gave tells before now accepts.Memory = ⊤

-- an opening on a standard stream fails only where the count of one of the three rose
abbrev pub StandardCause : Type 0 → OpenAnswer → Type 0
StandardCause Failed opens.Opened = ⊤
StandardCause Failed opens.Later = ⊥
StandardCause Failed opens.Failed = Failed
StandardCause Failed opens.Memory = ⊤
