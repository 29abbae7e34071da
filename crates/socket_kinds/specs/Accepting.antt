-- What is accepted at a door.
use Rattle.std.specs.Prelude.{◌≡◌, ◌≢◌}
use Rattle.std.specs.declared.io.Error.{Error}
use Rattle.std.specs.declared.io.ErrorKind.TheVariants.{WouldBlock}
use Rattle.std.specs.IoError.{error_kind}
use Rattle.relay_model.specs.{Peer}
use Rattle.port_trait.specs.{Making, MadePeer}
use Rattle.port_trait.specs.declared.makers.Making.TheVariants as makings
use Rattle.port_trait.specs.declared.makers.MadePeer.TheVariants as peers

-- a fact of the port, where one was made
abbrev pub OnPort : {T : Type 0} → (T → Type 0) → Making T → Type 0
OnPort P (makings.Made port) = P port
OnPort P (makings.Later port) = P port
OnPort P makings.Failed = Unit {0}
OnPort P makings.Memory = Unit {0}

-- what is said of a port that came with its peer
abbrev pub OnPeer : {T : Type 0} → (T → Type 0) → MadePeer T → Type 0
OnPeer P (peers.Came port peer) = P port
OnPeer P peers.NoPeer = Unit {0}
OnPeer P peers.Failed = Unit {0}
OnPeer P peers.Memory = Unit {0}

-- a port came of which this holds, or none could be made
abbrev pub StandsOrFailed : {T : Type 0} → (T → Type 0) → MadePeer T → Type 0
StandsOrFailed P (peers.Came port peer) = P port
StandsOrFailed P peers.NoPeer = ⊥
StandsOrFailed P peers.Failed = Unit {0}
StandsOrFailed P peers.Memory = ⊥

-- what is said of the peer that came
abbrev pub OnCame : {T : Type 0} → (Peer → Type 0) → MadePeer T → Type 0
OnCame P (peers.Came port peer) = P peer
OnCame P peers.NoPeer = Unit {0}
OnCame P peers.Failed = Unit {0}
OnCame P peers.Memory = Unit {0}

-- what is said of a port and the peer that it came with
abbrev pub OnBoth : {T : Type 0} → (T → Peer → Type 0) → MadePeer T → Type 0
OnBoth P (peers.Came port peer) = P port peer
OnBoth P peers.NoPeer = Unit {0}
OnBoth P peers.Failed = Unit {0}
OnBoth P peers.Memory = Unit {0}

-- where a call would block nobody has sent; any other error is a fault
abbrev pub IsNoPartner : {T : Type 0} → Error → MadePeer T → Type 0
IsNoPartner error made = (error_kind error ≡ WouldBlock → made ≡ peers.NoPeer) × (error_kind error ≢ WouldBlock → made ≡ peers.Failed)
