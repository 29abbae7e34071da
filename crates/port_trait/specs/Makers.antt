-- What contracts see of a maker, and what each call on it does to that.
use Rattle.std.specs.Prelude.{◌≡◌, ℕ, Option, IfSome}
use Rattle.port_trait.specs.Counting.{Counted}
use Rattle.port_trait.specs.Made.{making_failed, making_stalled, IsAtOnce, peer_failed, peer_stalled, came_after}
use Rattle.port_trait.specs.Ports.{PortSeen, MovesNothing}
use Rattle.port_trait.specs.declared.makers.AskedPlace.{AskedPlace}
use Rattle.port_trait.specs.declared.makers.Making.{Making}
use Rattle.port_trait.specs.declared.makers.MadePeer.{MadePeer}
use Rattle.relay_model.specs.{Peer}

-- how many of its answers were faults, and how many stalls; the peer of the last port that was accepted; and what the
-- last opening was asked for, where the maker tells it
pub record MakerSeen : Type 0 where
  pub faults : ℕ
  pub stalls : ℕ
  pub came : Option Peer
  pub asked : Option AskedPlace

-- an opening tells what it was asked for, and counts as its answer says
pub record Opens {T : Type 0} (before now : MakerSeen) (what : AskedPlace) (answer : Making T) : Type 0 where
  pub asked : IfSome now.asked (λ told. told ≡ what)
  pub came : now.came ≡ before.came
  pub faults : Counted (making_failed answer) before.faults now.faults
  pub stalls : Counted (making_stalled answer) before.stalls now.stalls

-- a listening is never under way, and counts as its answer says
pub record Listens {T : Type 0} (before now : MakerSeen) (answer : Making T) : Type 0 where
  pub at_once : IsAtOnce answer
  pub asked : now.asked ≡ before.asked
  pub came : now.came ≡ before.came
  pub faults : Counted (making_failed answer) before.faults now.faults
  pub stalls : Counted (making_stalled answer) before.stalls now.stalls

-- an accepting moves no byte of the door, tells the peer that came, and counts as its answer says
pub record LetsIn {T : Type 0} (before now : MakerSeen) (old_door new_door : PortSeen) (answer : MadePeer T) : Type 0 where
  pub door : MovesNothing old_door new_door
  pub asked : now.asked ≡ before.asked
  pub came : now.came ≡ came_after before.came answer
  pub faults : Counted (peer_failed answer) before.faults now.faults
  pub stalls : Counted (peer_stalled answer) before.stalls now.stalls
