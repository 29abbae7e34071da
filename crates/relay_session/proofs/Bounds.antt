-- How many steps a session takes at most before the next turn, in one number.
use Rattle.std.proofs.Common.{◌≡◌, refl, ℕ, ◌+◌, ◌≤◌, Bool, true, false, ◌&&◌, cond, List, length, map, is_some, arith, length-append}
use Rattle.std.proofs.lemmas.Bool.{false≢true}
use Rattle.std.proofs.lemmas.List.{length-map}
use Rattle.relay_model.specs.declared.places.Place.{Place}
use Rattle.relay_model.specs.declared.places.Side.{Side}
use Rattle.relay_model.specs.declared.places.Side.TheVariants.{Left, Right}
use Rattle.relay_model.specs.declared.places.Way.TheVariants.{LeftToRight, RightToLeft}
use Rattle.relay_model.specs.declared.commands.Address.{Address}
use Rattle.relay_model.specs.declared.commands.Address.TheVariants as addresses
use Rattle.relay_model.specs.declared.commands.Config.{Config}
use Rattle.relay_model.specs.declared.commands.Ways.{Ways}
use Rattle.relay_model.specs.declared.commands.Ways.TheVariants as ways
use Rattle.relay_model.specs.declared.acts.Act.{Act}
use Rattle.relay_model.specs.Configs.{parts_of, parts, address, places, place_at, formed}
use Rattle.place_openings.specs.Steps.{calls_among}
use Rattle.place_openings.proofs.Counting.{calls_within, left_at_most, most_is}
use Rattle.session_direction.specs.States.{DirectionState, unless}
use Rattle.session_direction.specs.States as directions
use Rattle.relay_session.specs.declared.lanes.SessionLane.{SessionLane}
use Rattle.relay_session.specs.declared.lanes.SessionLane.TheVariants.{Unformed, Formed}
use Rattle.relay_session.specs.declared.states.State.{State}
use Rattle.relay_session.specs.declared.lanes.Lanes.{Lanes}
use Rattle.relay_session.specs.Lanes.{AreLanes, IsLane, lane_steps, lanes_steps, left_to_directions}
use Rattle.relay_session.specs.States.{Ground}
use Rattle.relay_session.specs.States as sessions

-- ---- the openings

parts_within : (w : Ways) (a : Address) (side : Side) → length (parts_of w a side) ≤ 2
parts_within ways.Two (addresses.One single) side = omega arith
parts_within ways.Two (addresses.Two reading writing) side = omega arith
parts_within ways.OnlyRight a Left = omega arith
parts_within ways.OnlyRight a Right = omega arith
parts_within ways.OnlyLeft a Left = omega arith
parts_within ways.OnlyLeft a Right = omega arith

places_counted : (c : Config) (s : ℕ) → length (places c s) ≡ length (parts c Left) + length (parts c Right)
places_counted c s =
    let left : List Place = map (place_at s Left) (parts c Left) in
    let right : List Place = map (place_at s Right) (parts c Right) in
    rw (length-append left right, length-map (parts c Left) (place_at s Left), length-map (parts c Right) (place_at s Right)) refl

-- four places take twenty-eight calls at most
calls_at_most : (c : Config) (s : ℕ) → calls_among c (places c s) ≤ 28
calls_at_most c s = omega (arith, calls_within c (places c s), places_counted c s, parts_within c.ways (address c Left) Left, parts_within c.ways (address c Right) Right)

-- ---- the directions

unless_within : (b : Bool) (n : ℕ) → unless b n ≤ n
unless_within true n = omega arith
unless_within false n = omega arith

-- a direction takes four steps at most for nothing
direction_within : (d : DirectionState) → directions.steps_in d ≤ 4
direction_within d = omega (arith, unless_within d.asked_in 2, unless_within d.asked_out 1, unless_within (is_some d.passed_at) 1)

both_formed : (one other : Bool) → one ≡ true → other ≡ true → 8 ≤ cond (one && other) 8 4
both_formed true true a b = omega arith
both_formed true false a b = absurd (false≢true b)
both_formed false other a b = absurd (false≢true a)

some_formed : (b : Bool) → 4 ≤ cond b 8 4
some_formed true = omega arith
some_formed false = omega arith

-- what two directions take for nothing, or one, is what the grant leaves
free_within : (c : Config) (past : List Act) (s : ℕ) (right left : SessionLane) → IsLane c past s LeftToRight right → IsLane c past s RightToLeft left → lane_steps right + lane_steps left ≤ cond (formed c LeftToRight && formed c RightToLeft) 8 4
free_within c past s Unformed Unformed r l = omega arith
free_within c past s Unformed (Formed e) r l = omega (arith, direction_within e, some_formed (formed c LeftToRight && formed c RightToLeft))
free_within c past s (Formed d) Unformed r l = omega (arith, direction_within d, some_formed (formed c LeftToRight && formed c RightToLeft))
free_within c past s (Formed d) (Formed e) r l = omega (arith, direction_within d, direction_within e, both_formed (formed c LeftToRight) (formed c RightToLeft) r.is_formed l.is_formed)

free_at_most : (b : Bool) → cond b 8 4 ≤ 8
free_at_most true = omega arith
free_at_most false = omega arith

-- the two directions take at most what the openings leave
lanes_within : (c : Config) (past : List Act) (s : ℕ) (lanes : Lanes) → AreLanes c past s lanes → lanes_steps lanes ≤ left_to_directions c s
lanes_within c past s lanes are =
    omega (arith, free_within c past s lanes.to_right lanes.to_left are.to_right_is are.to_left_is, are.grant_is, are.extra_within, calls_at_most c s, free_at_most (formed c LeftToRight && formed c RightToLeft))

-- the openings and the directions
pub steps_within : (c : Config) (past : List Act) (s : ℕ) (st : State) → Ground c past s st → sessions.steps_of st ≤ 64
steps_within c past s st g =
    omega (arith, left_at_most st.openings, most_is c past (places c s) st.openings g.openings_are.each, calls_at_most c s, lanes_within c past s st.lanes g.lanes_are)
