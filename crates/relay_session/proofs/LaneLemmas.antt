-- A lane, from what its direction tells.
use Rattle.std.proofs.Common.{◌≡◌, refl, sym, ap, subst, ◌∙◌, ℕ, ◌+◌, ◌-◌, ◌<◌, ◌≤◌, nat_le, Bool, true, false, not, List, ◌∷◌, take, length, min, Option, Some, None, is_some, arith}
use Rattle.relay_model.specs.declared.places.Way.{Way}
use Rattle.relay_model.specs.declared.places.Way.TheVariants.{LeftToRight, RightToLeft}
use Rattle.relay_model.specs.declared.places.Place.{Place}
use Rattle.relay_model.specs.declared.commands.Config.{Config}
use Rattle.relay_model.specs.declared.acts.Act.{Act}
use Rattle.relay_model.specs.declared.acts.Shut.{Shut as Shutting}
use Rattle.relay_model.specs.Places.{same_place}
use Rattle.relay_model.specs.Configs.{input, output, way_from, way_to, keeps_borders, formed}
use Rattle.relay_model.specs.Transfers.{over, greatest_read}
use Rattle.relay_model.specs.Moments.{passed, broken}
use Rattle.relay_model.specs.Cause.{running}
use Rattle.relay_model.specs.Rest.{goes, is_going}
use Rattle.relay_model.specs.May.{MayRead, MayTryWrite, MayOffer, MayShut}
use Rattle.relay_laws.proofs.PlaceLemmas.{same_place_equal}
use Rattle.std.proofs.lemmas.Bool.{and_parts, leb-true, le-leb}
use Rattle.session_direction.specs.Directions.{IsDirection, WantsRead, WantsWrite}
use Rattle.session_direction.specs.States.{DirectionState, can_read, can_write}
use Rattle.relay_model.specs.declared.acts.Act.TheVariants as acts
use Rattle.session_direction.specs.Directions.{WantsNothing}
use Rattle.session_direction.specs.Touches.{touches}
use Rattle.session_direction.proofs.Wanted.{packets_are}
use Rattle.relay_session.specs.declared.wishes.Wish.{Wish}
use Rattle.relay_session.specs.declared.wishes.Wish.TheVariants as wishes
use Rattle.relay_session.specs.declared.transfers.Transfer.{Transfer}
use Rattle.relay_session.specs.declared.transfers.Transfer.TheVariants as transfers
use Rattle.relay_session.specs.declared.lanes.Lanes.{Lanes}
use Rattle.relay_session.specs.Lanes.{ReadsAt, Offers, LaneWishes, LanesWish, lane_at, can_read_in, can_write_in, read_price_in, write_price_in}
use Rattle.relay_session.specs.Transfers.{transfer_act, MayTransfer, TakesFrom, place_for, way_of, opposite}

-- the way of an input and of an output
from_input : (c : Config) (s : ℕ) (w : Way) → way_from (input c s w).side ≡ w
from_input c s LeftToRight = refl
from_input c s RightToLeft = refl

pub borders_at : (c : Config) (s : ℕ) (w : Way) → way_to (output c s w).side ≡ w
borders_at c s LeftToRight = refl
borders_at c s RightToLeft = refl

own_input : (c : Config) (past : List Act) (s : ℕ) (w : Way) (n : ℕ) → WantsRead c past s w n → ReadsAt c past s (input c s w) n
own_input c past s LeftToRight n want = record { own = refl; may = want.may; size = want.size }
own_input c past s RightToLeft n want = record { own = refl; may = want.may; size = want.size }

own_output : (c : Config) (past : List Act) (s : ℕ) (w : Way) (keeps : Bool) → WantsWrite c past s w keeps → Offers c past s (output c s w) keeps
own_output c past s LeftToRight keeps want = record { own = refl; may = want.may; keeps = want.borders }
own_output c past s RightToLeft keeps want = record { own = refl; may = want.may; keeps = want.borders }

pub reads_of : (c : Config) (past : List Act) (s : ℕ) (w : Way) (d : DirectionState) (extra n : ℕ) → IsDirection c past s w d → WantsRead c past s w n → can_read d extra ≡ true → (p : Place) → p ≡ d.source → ReadsAt c past s p n × (way_from p.side ≡ w) × (can_read d extra ≡ true)
reads_of c past s w d extra n g want can p e =
    let k : p ≡ input c s w = e ∙ g.source_is in
    (subst (λ q. ReadsAt c past s q n) (sym k) (own_input c past s w n want), ap (λ q. way_from q.side) k ∙ from_input c s w, can)

pub offers_of : (c : Config) (past : List Act) (s : ℕ) (w : Way) (d : DirectionState) (extra : ℕ) (keeps : Bool) → IsDirection c past s w d → WantsWrite c past s w keeps → can_write d extra ≡ true → (p : Place) → p ≡ d.sink → Offers c past s p keeps × (way_to p.side ≡ w) × (can_write d extra ≡ true)
offers_of c past s w d extra keeps g want can p e =
    let k : p ≡ output c s w = e ∙ g.sink_is in
    (subst (λ q. Offers c past s q keeps) (sym k) (own_output c past s w keeps want), ap (λ q. way_to q.side) k ∙ borders_at c s w, can)

-- what a read at the input of a direction says
pub record ReadsInto (c : Config) (past : List Act) (s : ℕ) (w : Way) (n : ℕ) : Type 0 where
  pub more : over c past (input c s w) ≡ false
  pub going : passed c past s w ≡ false
  pub in_room : n ≤ greatest_read c past s w

pub reads_at : (c : Config) (past : List Act) (s : ℕ) (w : Way) (n : ℕ) → MayRead c past (input c s w) n → ReadsInto c past s w n
reads_at c past s LeftToRight n may = record { more = may.asks.not_over; going = may.asks.not_passed; in_room = may.in_room }
reads_at c past s RightToLeft n may = record { more = may.asks.not_over; going = may.asks.not_passed; in_room = may.in_room }

-- what a write at the output of a direction says
pub record WritesAt (c : Config) (past : List Act) (s : ℕ) (w : Way) : Type 0 where
  pub going : passed c past s w ≡ false
  pub whole : broken c past s w ≡ false

unbroken : (c : Config) (past : List Act) (s : ℕ) (w : Way) → is_going c past s w ≡ true → broken c past s w ≡ false
unbroken c past s w m = not-true (broken c past s w) (and_parts (formed c w) (not (broken c past s w)) (and_parts (goes c past s w) (running c past s) m).0).1
  where
    not-true : (b : Bool) → not b ≡ true → b ≡ false
    not-true true e = cc
    not-true false e = refl

pub writes_at : (c : Config) (past : List Act) (s : ℕ) (w : Way) → MayOffer c past (output c s w) → WritesAt c past s w
writes_at c past s LeftToRight may = record { going = may.not_passed; whole = unbroken c past s LeftToRight may.moving }
writes_at c past s RightToLeft may = record { going = may.not_passed; whole = unbroken c past s RightToLeft may.moving }

pub unpassed_at : (c : Config) (past : List Act) (s : ℕ) (w : Way) (how : Shutting) → MayShut c past (output c s w) how → passed c past s w ≡ false
unpassed_at c past s LeftToRight how may = may.not_passed
unpassed_at c past s RightToLeft how may = may.not_passed

-- what less pays for, more pays for too
more_pays : (price less extra : ℕ) → less ≤ extra → nat_le price less ≡ true → nat_le price extra ≡ true
more_pays price less extra within can = le-leb price extra (omega (arith, within, leb-true price less can))

pub lanes_wish : (c : Config) (past : List Act) (s : ℕ) (w : Way) (lanes : Lanes) (extra : ℕ) (wish : Wish) → extra ≤ lanes.extra → LaneWishes c past s w (lane_at lanes w) extra (Some wish) → LanesWish c past s lanes (Some wish)
lanes_wish c past s w lanes extra (wishes.Read p n) less h = (h.0, ap (λ v. can_read_in (lane_at lanes v) lanes.extra) h.1 ∙ more_pays (read_price_in (lane_at lanes w)) extra lanes.extra less h.2)
lanes_wish c past s w lanes extra (wishes.Write p) less h = (h.0, ap (λ v. can_write_in (lane_at lanes v) lanes.extra) h.1 ∙ more_pays (write_price_in (lane_at lanes w)) extra lanes.extra less h.2)
lanes_wish c past s w lanes extra (wishes.Send p) less h = (h.0, ap (λ v. can_write_in (lane_at lanes v) lanes.extra) h.1 ∙ more_pays (write_price_in (lane_at lanes w)) extra lanes.extra less h.2)
lanes_wish c past s w lanes extra (wishes.Shut p how) less h = h
lanes_wish c past s w lanes extra (wishes.Open p) less h = absurd h
lanes_wish c past s w lanes extra (wishes.Settle p) less h = absurd h
lanes_wish c past s w lanes extra (wishes.Listen d) less h = absurd h
lanes_wish c past s w lanes extra (wishes.Accept d p) less h = absurd h
lanes_wish c past s w lanes extra (wishes.Close q why) less h = absurd h
lanes_wish c past s w lanes extra (wishes.Reap p) less h = absurd h
lanes_wish c past s w lanes extra (wishes.Sleep until) less h = absurd h
lanes_wish c past s w lanes extra (wishes.Done why) less h = absurd h

pub last_wish : (c : Config) (past : List Act) (s : ℕ) (lanes : Lanes) (o : Option Wish) → WantsNothing c past s LeftToRight → LaneWishes c past s RightToLeft lanes.to_left lanes.extra o → LanesWish c past s lanes o
last_wish c past s lanes None n h = each
  where
    each : (w : Way) → WantsNothing c past s w
    each LeftToRight = n
    each RightToLeft = h
last_wish c past s lanes (Some wish) n h = lanes_wish c past s RightToLeft lanes lanes.extra wish (omega arith) h

pub wrote_goes : (c : Config) (past : List Act) (s : ℕ) (w : Way) (d d' : DirectionState) (count took : ℕ) → IsDirection c past s w d → MayTryWrite c past (output c s w) × TakesFrom c (output c s w) d.flow.backlog count →
    (count ≤ length d.flow.backlog → (is_some d.flow.lane.packets ≡ true → count ≡ length d.flow.backlog) → took ≡ count) →
    (1 ≤ took → passed c past s w ≡ false → IsDirection c (acts.Wrote (output c s w) (take took d.flow.backlog) ∷ past) s w d') →
    IsDirection c (acts.Wrote (output c s w) (take count d.flow.backlog) ∷ past) s w d'
wrote_goes c past s w d d' count took f may same step =
    let e : took ≡ count = same may.1.within (λ packets. may.1.whole (ap (keeps_borders c) (borders_at c s w) ∙ (sym (packets_are c w d.flow.lane f.flow_is.lane_is) ∙ packets))) in
    subst (λ n. IsDirection c (acts.Wrote (output c s w) (take n d.flow.backlog) ∷ past) s w d') e (step (subst (λ n. 1 ≤ n) (sym e) may.1.some_bytes) (writes_at c past s w may.0.offers).going)

-- ---- a block that was read

pub block_goes : (c : Config) (past : List Act) (s : ℕ) (w : Way) (d' : DirectionState) (count least room : ℕ) (xs : List ℕ) → MayRead c past (input c s w) count → least ≡ min count room → (over c past (input c s w) ≡ false → room ≡ greatest_read c past s w) →
    (passed c past s w ≡ false → IsDirection c (acts.Read (input c s w) (take least xs) ∷ past) s w d') → IsDirection c (acts.Read (input c s w) (take count xs) ∷ past) s w d'
block_goes c past s w d' count least room xs may is size step =
    let reads = reads_at c past s w count may in
    let e : least ≡ count = omega (arith, is, size reads.more, reads.in_room) in
    subst (λ n. IsDirection c (acts.Read (input c s w) (take n xs) ∷ past) s w d') e (step reads.going)

-- the place of a read is the input of its direction
pub read_at : (c : Config) (past : List Act) (s : ℕ) (w : Way) (p : Place) (n : ℕ) → p.session ≡ s → way_from p.side ≡ w → MayRead c past p n → p ≡ input c s w
read_at c past s w p n own way may = same_place_equal p (input c p.session (way_from p.side)) may.asks.is_input ∙ (λ i. input c (own i) (way i))

apart : {P : Type 0} (w : Way) → w ≡ opposite w → P
apart LeftToRight e = cc
apart RightToLeft e = cc

-- and not that of the other
pub read_elsewhere : (c : Config) (s : ℕ) (w : Way) (p : Place) → way_from p.side ≡ opposite w → same_place p (input c s w) ≡ false
read_elsewhere c s w p way = which (same_place p (input c s w)) refl
  where
    which : (b : Bool) → same_place p (input c s w) ≡ b → b ≡ false
    which false e = refl
    which true e = apart w (sym (ap (λ q. way_from q.side) (same_place_equal p (input c s w) e) ∙ from_input c s w) ∙ way)

-- ---- a transfer at a place is one of its direction's, and none of the other's

write_at : (c : Config) (s : ℕ) (w : Way) (p : Place) → p.session ≡ s → way_to p.side ≡ w → same_place p (output c p.session (way_to p.side)) ≡ true → p ≡ output c s w
write_at c s w p own way is_output = same_place_equal p (output c p.session (way_to p.side)) is_output ∙ (λ i. output c (own i) (way i))

write_elsewhere : (c : Config) (s : ℕ) (w : Way) (p : Place) → way_to p.side ≡ opposite w → same_place p (output c s w) ≡ false
write_elsewhere c s w p way = which (same_place p (output c s w)) refl
  where
    which : (b : Bool) → same_place p (output c s w) ≡ b → b ≡ false
    which false e = refl
    which true e = apart w (sym (ap (λ q. way_to q.side) (same_place_equal p (output c s w) e) ∙ borders_at c s w) ∙ way)

pub elsewhere : (c : Config) (s : ℕ) (w : Way) (p : Place) (waiting : List ℕ) (t : Transfer) → way_of p t ≡ opposite w → touches c s w (transfer_act p waiting t) ≡ false
elsewhere c s w p waiting (transfers.Read bytes) way = read_elsewhere c s w p way
elsewhere c s w p waiting transfers.ReadEmpty way = read_elsewhere c s w p way
elsewhere c s w p waiting transfers.ReadEnd way = read_elsewhere c s w p way
elsewhere c s w p waiting transfers.ReadNotYet way = read_elsewhere c s w p way
elsewhere c s w p waiting transfers.ReadFailed way = read_elsewhere c s w p way
elsewhere c s w p waiting (transfers.Wrote count) way = write_elsewhere c s w p way
elsewhere c s w p waiting transfers.WriteNotYet way = write_elsewhere c s w p way
elsewhere c s w p waiting transfers.WriteFailed way = write_elsewhere c s w p way
elsewhere c s w p waiting (transfers.Shut how) way = write_elsewhere c s w p way
elsewhere c s w p waiting (transfers.ShutFailed how) way = write_elsewhere c s w p way

-- what holds of a transfer at the place of its direction, with what waits there, holds of it as it came
pub at_its_place : (P : Act → Type 0) (c : Config) (past : List Act) (s : ℕ) (w : Way) (p : Place) (waiting there : List ℕ) (t : Transfer) → p.session ≡ s → way_of p t ≡ w → MayTransfer c past p waiting t → (way_to p.side ≡ w → waiting ≡ there) →
    (MayTransfer c past (place_for c s w t) there t → P (transfer_act (place_for c s w t) there t)) → P (transfer_act p waiting t)
at_its_place P c past s w p waiting there (transfers.Read bytes) own way may same step = let k = read_at c past s w p (length bytes.now) own way may in subst (λ q. P (acts.Read q bytes.now)) (sym k) (step (subst (λ q. MayRead c past q (length bytes.now)) k may))
at_its_place P c past s w p waiting there transfers.ReadEmpty own way may same step = let k = read_at c past s w p 1 own way may in subst (λ q. P (acts.ReadEmpty q)) (sym k) (step (subst (λ q. MayRead c past q 1) k may))
at_its_place P c past s w p waiting there transfers.ReadEnd own way may same step = let k = read_at c past s w p 1 own way may in subst (λ q. P (acts.ReadEnd q)) (sym k) (step (subst (λ q. MayRead c past q 1) k may))
at_its_place P c past s w p waiting there transfers.ReadNotYet own way may same step = let k = read_at c past s w p 1 own way may in subst (λ q. P (acts.ReadNotYet q)) (sym k) (step (subst (λ q. MayRead c past q 1) k may))
at_its_place P c past s w p waiting there transfers.ReadFailed own way may same step = let k = read_at c past s w p 1 own way may in subst (λ q. P (acts.ReadFault q)) (sym k) (step (subst (λ q. MayRead c past q 1) k may))
at_its_place P c past s w p waiting there (transfers.Wrote count) own way may same step =
    let k = write_at c s w p own way may.0.offers.is_output in
    let v = same way in
    subst (λ q. P (acts.Wrote q (take count waiting))) (sym k) (subst (λ ws. P (acts.Wrote (output c s w) (take count ws))) (sym v) (step (subst (λ q. MayTryWrite c past q × TakesFrom c q there count) k (subst (λ ws. MayTryWrite c past p × TakesFrom c p ws count) v may))))
at_its_place P c past s w p waiting there transfers.WriteNotYet own way may same step = let k = write_at c s w p own way may.offers.is_output in subst (λ q. P (acts.WriteNotYet q)) (sym k) (step (subst (λ q. MayTryWrite c past q) k may))
at_its_place P c past s w p waiting there transfers.WriteFailed own way may same step = let k = write_at c s w p own way may.offers.is_output in subst (λ q. P (acts.WriteFault q)) (sym k) (step (subst (λ q. MayTryWrite c past q) k may))
at_its_place P c past s w p waiting there (transfers.Shut how) own way may same step = let k = write_at c s w p own way may.is_output in subst (λ q. P (acts.Shut q how)) (sym k) (step (subst (λ q. MayShut c past q how) k may))
at_its_place P c past s w p waiting there (transfers.ShutFailed how) own way may same step = let k = write_at c s w p own way may.is_output in subst (λ q. P (acts.ShutFault q how)) (sym k) (step (subst (λ q. MayShut c past q how) k may))

-- where what one of two falls by is more than what is paid for it, the sum falls
pub fewer_left : (a a' b b' e e' price : ℕ) → a' < a + price → b' ≡ b → nat_le price e ≡ true → e' ≡ e - price → a' + b' + e' < a + b + e
fewer_left a a' b b' e e' price h same can paid = omega (arith, h, same, leb-true price e can, paid)

pub fewer_right : (a a' b b' e e' price : ℕ) → a' ≡ a → b' < b + price → nat_le price e ≡ true → e' ≡ e - price → a' + b' + e' < a + b + e
fewer_right a a' b b' e e' price same h can paid = omega (arith, h, same, leb-true price e can, paid)
