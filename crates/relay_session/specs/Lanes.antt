-- The two directions of a session, each where the command forms it.
use Rattle.std.specs.Prelude.{◌≡◌, ℕ, ◌+◌, ◌-◌, ◌≤◌, nat_le, Bool, true, false, ◌&&◌, if◌then◌else◌, List, [], Option, Some, None, is_some}
use Rattle.relay_model.specs.{Place, Way, Config, Act, places, formed, way_from, way_to, Shut as Shutting, keeps_borders, greatest_read, MayRead, MayTryWrite}
use Rattle.relay_model.specs.{MayShut}
use Rattle.relay_model.specs.declared.places.Way.TheVariants.{LeftToRight, RightToLeft}
use Rattle.relay_buffer.specs.{room_in}
use Rattle.place_openings.specs.{calls_among}
use Rattle.session_direction.specs.{read_price, write_price, steps_in, IsDirection, WantsNothing}
use Rattle.relay_session.specs.declared.wishes.Wish.{Wish}
use Rattle.relay_session.specs.declared.wishes.Wish.TheVariants as wishes
use Rattle.relay_session.specs.declared.lanes.SessionLane.{SessionLane}
use Rattle.relay_session.specs.declared.lanes.SessionLane.TheVariants.{Unformed, Formed}
use Rattle.relay_session.specs.declared.lanes.Lanes.{Lanes}

-- a lane stands for a direction, or the command forms none
abbrev pub IsLane : Config → List Act → ℕ → Way → SessionLane → Type 0
IsLane c past s w Unformed = formed c w ≡ false
IsLane c past s w (Formed d) = IsDirection c past s w d

-- of at most 64 calls of a session between two turns, those that its openings leave to its directions
abbrev pub left_to_directions : Config → (session : ℕ) → ℕ
left_to_directions c s = 64 - calls_among c (places c s)

-- how much a turn grants the directions for further asks: what is left, without the four calls of each that cost nothing
abbrev pub granted : Config → (session : ℕ) → ℕ
granted c s = left_to_directions c s - (if formed c LeftToRight && formed c RightToLeft then 8 else 4)

-- the two lanes stand for the two directions, which share what a turn grants
pub record AreLanes (c : Config) (past : List Act) (s : ℕ) (lanes : Lanes) : Type 0 where
  pub to_right_is : IsLane c past s LeftToRight lanes.to_right
  pub to_left_is : IsLane c past s RightToLeft lanes.to_left
  pub grant_is : lanes.grant ≡ granted c s
  pub extra_within : lanes.extra ≤ lanes.grant

-- the lane of a direction
abbrev pub lane_at : Lanes → Way → SessionLane
lane_at lanes LeftToRight = lanes.to_right
lane_at lanes RightToLeft = lanes.to_left

-- the bytes that wait in a lane, and how many more it has room for
abbrev pub waiting_in : SessionLane → List ℕ
waiting_in Unformed = []
waiting_in (Formed d) = d.flow.backlog

-- how many bytes may be read next in a lane
abbrev pub room_of : SessionLane → ℕ
room_of Unformed = 0
room_of (Formed d) = room_in d.flow

-- how many steps a lane takes at most for nothing before the next turn
abbrev pub lane_steps : SessionLane → ℕ
lane_steps Unformed = 0
lane_steps (Formed d) = steps_in d

-- how many calls both lanes take at most before the next turn
abbrev pub lanes_steps : Lanes → ℕ
lanes_steps lanes = lane_steps lanes.to_right + lane_steps lanes.to_left + lanes.extra

-- what a read at the lane's input costs
abbrev pub read_price_in : SessionLane → ℕ
read_price_in Unformed = 0
read_price_in (Formed d) = read_price d

-- what a write at the lane's output costs
abbrev pub write_price_in : SessionLane → ℕ
write_price_in Unformed = 0
write_price_in (Formed d) = write_price d

-- so much pays for a read of the lane
abbrev pub can_read_in : SessionLane → (extra : ℕ) → Bool
can_read_in lane extra = nat_le (read_price_in lane) extra

-- so much pays for a write of the lane
abbrev pub can_write_in : SessionLane → (extra : ℕ) → Bool
can_write_in lane extra = nat_le (write_price_in lane) extra

-- each piece of the lane goes out as one packet
abbrev pub keeps_pieces : SessionLane → Bool
keeps_pieces Unformed = false
keeps_pieces (Formed d) = is_some d.flow.lane.packets

-- what waits to be written at a place, and how many bytes may be read there
abbrev pub waiting_at : Lanes → Place → List ℕ
waiting_at lanes p = waiting_in (lane_at lanes (way_to p.side))

-- how many bytes may be read next at a place
abbrev pub room_at : Lanes → Place → ℕ
room_at lanes p = room_of (lane_at lanes (way_from p.side))

-- borders are kept at a place
abbrev pub keeps_at : Lanes → Place → Bool
keeps_at lanes p = keeps_pieces (lane_at lanes (way_to p.side))

-- a read at the place can be paid for
abbrev pub can_read_at : Lanes → Place → Bool
can_read_at lanes p = can_read_in (lane_at lanes (way_from p.side)) lanes.extra

-- a write at the place can be paid for
abbrev pub can_write_at : Lanes → Place → Bool
can_write_at lanes p = can_write_in (lane_at lanes (way_to p.side)) lanes.extra

-- ---- what a lane wishes for

-- so many bytes may be read at a place of the session
pub record ReadsAt (c : Config) (past : List Act) (s : ℕ) (p : Place) (n : ℕ) : Type 0 where
  pub own : p.session ≡ s
  pub may : MayRead c past p n
  pub size : n ≡ greatest_read c past s (way_from p.side)

-- what waits may be offered to a place of the session
pub record Offers (c : Config) (past : List Act) (s : ℕ) (p : Place) (borders : Bool) : Type 0 where
  pub own : p.session ≡ s
  pub may : MayTryWrite c past p
  pub keeps : keeps_borders c (way_to p.side) ≡ borders

-- the end may be passed on at a place of the session
pub record ShutsAt (c : Config) (past : List Act) (s : ℕ) (p : Place) (how : Shutting) : Type 0 where
  pub own : p.session ≡ s
  pub may : MayShut c past p how

-- a read is at the lane's input and a write at its output, and so much pays for it
abbrev pub LaneWishes : Config → List Act → ℕ → Way → SessionLane → (extra : ℕ) → Option Wish → Type 0
LaneWishes c past s w lane extra None = WantsNothing c past s w
LaneWishes c past s w lane extra (Some (wishes.Read p n)) = ReadsAt c past s p n × (way_from p.side ≡ w) × (can_read_in lane extra ≡ true)
LaneWishes c past s w lane extra (Some (wishes.Write p)) = Offers c past s p false × (way_to p.side ≡ w) × (can_write_in lane extra ≡ true)
LaneWishes c past s w lane extra (Some (wishes.Send p)) = Offers c past s p true × (way_to p.side ≡ w) × (can_write_in lane extra ≡ true)
LaneWishes c past s w lane extra (Some (wishes.Shut p how)) = ShutsAt c past s p how
LaneWishes c past s w lane extra (Some other) = ⊥

-- what both directions want: nothing, or the call that one of them wishes for
abbrev pub LanesWish : Config → List Act → ℕ → Lanes → Option Wish → Type 0
LanesWish c past s lanes None = (w : Way) → WantsNothing c past s w
LanesWish c past s lanes (Some (wishes.Read p n)) = ReadsAt c past s p n × (can_read_at lanes p ≡ true)
LanesWish c past s lanes (Some (wishes.Write p)) = Offers c past s p false × (can_write_at lanes p ≡ true)
LanesWish c past s lanes (Some (wishes.Send p)) = Offers c past s p true × (can_write_at lanes p ≡ true)
LanesWish c past s lanes (Some (wishes.Shut p how)) = ShutsAt c past s p how
LanesWish c past s lanes (Some other) = ⊥
