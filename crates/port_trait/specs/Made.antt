-- What a maker's answers need as their cause, and the peer that it tells.
use Rattle.std.specs.Prelude.{◌≡◌, Bool, true, false, Option, Some}
use Rattle.relay_model.specs.{Peer}
use Rattle.port_trait.specs.declared.makers.Making.{Making}
use Rattle.port_trait.specs.declared.makers.Making.TheVariants as makings
use Rattle.port_trait.specs.declared.makers.MadePeer.{MadePeer}
use Rattle.port_trait.specs.declared.makers.MadePeer.TheVariants as peers

-- a making failed
abbrev pub making_failed : {T : Type 0} → Making T → Bool
making_failed (makings.Made port) = false
making_failed (makings.Later port) = false
making_failed makings.Failed = true
making_failed makings.Memory = false

-- a making is still under way
abbrev pub making_stalled : {T : Type 0} → Making T → Bool
making_stalled (makings.Made port) = false
making_stalled (makings.Later port) = true
making_stalled makings.Failed = false
making_stalled makings.Memory = false

-- a listening comes to its end in one call
abbrev pub IsAtOnce : {T : Type 0} → Making T → Type 0
IsAtOnce making = making_stalled making ≡ false

-- an accepting failed
abbrev pub peer_failed : {T : Type 0} → MadePeer T → Bool
peer_failed (peers.Came port peer) = false
peer_failed peers.NoPeer = false
peer_failed peers.Failed = true
peer_failed peers.Memory = false

-- no peer was there
abbrev pub peer_stalled : {T : Type 0} → MadePeer T → Bool
peer_stalled (peers.Came port peer) = false
peer_stalled peers.NoPeer = true
peer_stalled peers.Failed = false
peer_stalled peers.Memory = false

-- the peer that a maker tells after an accepting
abbrev pub came_after : {T : Type 0} → Option Peer → MadePeer T → Option Peer
came_after before (peers.Came port peer) = Some peer
came_after before peers.NoPeer = before
came_after before peers.Failed = before
came_after before peers.Memory = before
