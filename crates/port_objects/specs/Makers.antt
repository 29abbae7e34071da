-- A maker in memory: the items that are left, what it was asked for, and what its calls answer.
use Rattle.std.specs.Prelude.{ℕ, List, [], ◌∷◌, Option, None}
use Rattle.relay_model.specs.{Peer as PeerAddress}
use Rattle.port_trait.specs.{AskedPlace, Making, MadePeer}
use Rattle.port_trait.specs.declared.makers.Making.TheVariants as makings
use Rattle.port_trait.specs.declared.makers.MadePeer.TheVariants as peers
use Rattle.port_objects.specs.declared.makers.MakeItem.{MakeItem}
use Rattle.port_objects.specs.declared.makers.MakeItem.TheVariants as items
use Rattle.port_objects.specs.Ports.{MemPortState}

-- what contracts see of a maker in memory
pub record MemMakerState : Type 0 where
  pub items : List MakeItem
  pub came : Option PeerAddress
  pub asked : Option AskedPlace
  pub faults : ℕ
  pub stalls : ℕ

-- a maker without items
abbrev pub fresh_maker : MemMakerState
fresh_maker = record { items = []; came = None; asked = None; faults = 0; stalls = 0 }

-- only a port can be made
abbrev pub scripted_make : List MakeItem → Making MemPortState
scripted_make [] = makings.Failed
scripted_make (items.Port port ∷ rest) = makings.Made port
scripted_make (items.Peer peer port ∷ rest) = makings.Failed
scripted_make (items.Fault ∷ rest) = makings.Failed

-- the items after one was made of them
abbrev pub items_after_make : List MakeItem → List MakeItem
items_after_make [] = []
items_after_make (item ∷ rest) = rest

-- a port that is next isn't for an accepting
abbrev pub scripted_accept : List MakeItem → MadePeer MemPortState
scripted_accept [] = peers.NoPeer
scripted_accept (items.Port port ∷ rest) = peers.NoPeer
scripted_accept (items.Peer peer port ∷ rest) = peers.Came port peer
scripted_accept (items.Fault ∷ rest) = peers.Failed

-- the items after a peer was asked for
abbrev pub items_after_accept : List MakeItem → List MakeItem
items_after_accept [] = []
items_after_accept (items.Port port ∷ rest) = items.Port port ∷ rest
items_after_accept (items.Peer peer port ∷ rest) = rest
items_after_accept (items.Fault ∷ rest) = rest
