-- The act of a transfer at a place, and when it may come.
use Rattle.std.specs.Prelude.{◌≡◌, if◌then◌else◌, ℕ, ◌≤◌, nat_le, Bool, true, false, List, length, take}
use Rattle.relay_model.specs.{Place, Config, Act, Way, way_from, way_to, keeps_borders, input, output, MayRead, MayTryWrite, MayShut}
use Rattle.relay_model.specs.declared.acts.Act.TheVariants as acts
use Rattle.relay_model.specs.declared.places.Way.TheVariants.{LeftToRight, RightToLeft}
use Rattle.relay_session.specs.declared.lanes.SessionLane.{SessionLane}
use Rattle.relay_session.specs.declared.lanes.Lanes.{Lanes}
use Rattle.relay_session.specs.Lanes.{read_price_in, write_price_in, lane_at}
use Rattle.relay_session.specs.declared.transfers.Transfer.{Transfer}
use Rattle.relay_session.specs.declared.transfers.Transfer.TheVariants as transfers

-- the act of a transfer
abbrev pub transfer_act : Place → List ℕ → Transfer → Act
transfer_act p waiting (transfers.Read bytes) = acts.Read p bytes.now
transfer_act p waiting transfers.ReadEmpty = acts.ReadEmpty p
transfer_act p waiting transfers.ReadEnd = acts.ReadEnd p
transfer_act p waiting transfers.ReadNotYet = acts.ReadNotYet p
transfer_act p waiting transfers.ReadFailed = acts.ReadFault p
transfer_act p waiting (transfers.Wrote count) = acts.Wrote p (take count waiting)
transfer_act p waiting transfers.WriteNotYet = acts.WriteNotYet p
transfer_act p waiting transfers.WriteFailed = acts.WriteFault p
transfer_act p waiting (transfers.Shut how) = acts.Shut p how
transfer_act p waiting (transfers.ShutFailed how) = acts.ShutFault p how

-- so many of the bytes that wait were taken, all of them where borders are kept
pub record TakesFrom (c : Config) (p : Place) (waiting : List ℕ) (count : ℕ) : Type 0 where
  pub some_bytes : 1 ≤ count
  pub within : count ≤ length waiting
  pub whole : keeps_borders c (way_to p.side) ≡ true → count ≡ length waiting

-- a read, a write or a shut may be answered so
abbrev pub MayTransfer : Config → List Act → Place → List ℕ → Transfer → Type 0
MayTransfer c past p waiting (transfers.Read bytes) = MayRead c past p (length bytes.now)
MayTransfer c past p waiting transfers.ReadEmpty = MayRead c past p 1
MayTransfer c past p waiting transfers.ReadEnd = MayRead c past p 1
MayTransfer c past p waiting transfers.ReadNotYet = MayRead c past p 1
MayTransfer c past p waiting transfers.ReadFailed = MayRead c past p 1
MayTransfer c past p waiting (transfers.Wrote count) = MayTryWrite c past p × TakesFrom c p waiting count
MayTransfer c past p waiting transfers.WriteNotYet = MayTryWrite c past p
MayTransfer c past p waiting transfers.WriteFailed = MayTryWrite c past p
MayTransfer c past p waiting (transfers.Shut how) = MayShut c past p how
MayTransfer c past p waiting (transfers.ShutFailed how) = MayShut c past p how

-- whether it is a read
abbrev pub is_read : Transfer → Bool
is_read (transfers.Read bytes) = true
is_read transfers.ReadEmpty = true
is_read transfers.ReadEnd = true
is_read transfers.ReadNotYet = true
is_read transfers.ReadFailed = true
is_read (transfers.Wrote count) = false
is_read transfers.WriteNotYet = false
is_read transfers.WriteFailed = false
is_read (transfers.Shut how) = false
is_read (transfers.ShutFailed how) = false

-- the transfer passes an end on
abbrev pub is_shut : Transfer → Bool
is_shut (transfers.Shut how) = true
is_shut (transfers.ShutFailed how) = true
is_shut transfer = false

-- whether bytes passed
abbrev pub moves_bytes : Transfer → Bool
moves_bytes (transfers.Read bytes) = true
moves_bytes (transfers.Wrote count) = true
moves_bytes transfer = false

-- whether it failed, as a read or a write may
abbrev pub is_fault : Transfer → Bool
is_fault transfers.ReadFailed = true
is_fault transfers.WriteFailed = true
is_fault transfer = false

-- the direction of a transfer at a place
abbrev pub way_of : Place → Transfer → Way
way_of p transfer = if is_read transfer then way_from p.side else way_to p.side

-- the other direction
abbrev pub opposite : Way → Way
opposite LeftToRight = RightToLeft
opposite RightToLeft = LeftToRight

-- where such a transfer of a direction is
abbrev pub place_for : Config → ℕ → Way → Transfer → Place
place_for c s w transfer = if is_read transfer then input c s w else output c s w

-- what a transfer of the lane costs; an end is passed on for nothing
abbrev pub price_of : SessionLane → Transfer → ℕ
price_of lane transfer = if is_shut transfer then 0 else if is_read transfer then read_price_in lane else write_price_in lane

-- the transfer at the place can be paid for
abbrev pub affords_at : Lanes → Place → Transfer → Bool
affords_at lanes p transfer = nat_le (price_of (lane_at lanes (way_of p transfer)) transfer) lanes.extra
