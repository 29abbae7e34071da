-- What contracts see of the maker.
use Rattle.std.specs.Prelude.{◌≡◌, ℕ, Option, None}
use Rattle.relay_model.specs.{Peer}
use Rattle.port_trait.specs.{MakerSeen}
use Rattle.socket_maker.specs.{ReserveState}

-- its counts, the peer that it accepted last, and the descriptors that it keeps
pub record RealMakerState : Type 0 where
  pub faults : ℕ
  pub stalls : ℕ
  pub came : Option Peer
  pub reserve : ReserveState

-- what is seen of it as of any maker; what it was asked for it doesn't tell
abbrev pub seen_of : RealMakerState → MakerSeen
seen_of maker = record { faults = maker.faults; stalls = maker.stalls; came = maker.came; asked = None }

-- nothing was counted, accepted or kept yet
pub record IsFreshMaker (maker : RealMakerState) : Type 0 where
  pub faults : maker.faults ≡ 0
  pub stalls : maker.stalls ≡ 0
  pub came : maker.came ≡ None
  pub held : maker.reserve.held ≡ 0

-- all but the descriptors is as it was
pub record SameBooks (before now : RealMakerState) : Type 0 where
  pub faults : now.faults ≡ before.faults
  pub stalls : now.stalls ≡ before.stalls
  pub came : now.came ≡ before.came
