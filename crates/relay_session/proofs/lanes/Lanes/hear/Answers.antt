use Rattle.std.proofs.Common.{◌≡◌, ◌∷◌, ◌∙◌, ◌+◌, ◌-◌, ◌<◌, nat_le, ap, refl, sym, arith}
use Rattle.relay_model.specs.declared.places.Way.TheVariants.{LeftToRight, RightToLeft}
use Rattle.relay_session.specs.Lanes.{IsLane, lane_at, lane_steps, waiting_in, waiting_at}
use Rattle.relay_session.specs.Transfers.{price_of, transfer_act, way_of}
use Rattle.relay_session.proofs.LaneLemmas.{at_its_place, elsewhere, fewer_left, fewer_right}
use Rattle.relay_session.proofs.lanes.Lanes.hear.Goals as goal

pub returns-in-LeftToRight-clause-goes : goal.returns-in-LeftToRight-clause-goes
returns-in-LeftToRight-clause-goes c = λ k past s l now own may.
    let lanes = c.args.self.now in
    let p = c.args.place in
    let t = c.args.transfer in
    let way : way_of p t ≡ LeftToRight = sym c.way_of.ensures ∙ c.in-LeftToRight.is in
    let waiting = waiting_at lanes p in record {
      to_right_is = at_its_place (λ act. IsLane k (act ∷ past) s LeftToRight c.hear.new.self) k past s LeftToRight p waiting (waiting_in lanes.to_right) t own way may (λ e. ap (λ v. waiting_in (lane_at lanes v)) e) (λ m. c.hear.ensures.goes k past s LeftToRight l.to_right_is now m);
      to_left_is = c.stay.ensures.untouched k past s RightToLeft (transfer_act p waiting t) l.to_left_is (elsewhere k s RightToLeft p waiting t way);
      grant_is = l.grant_is;
      extra_within = omega (arith, c.saturating_sub-self.ensures, l.extra_within);
    }

pub returns-in-LeftToRight-clause-fewer : goal.returns-in-LeftToRight-clause-fewer
returns-in-LeftToRight-clause-fewer c = λ k past s l own may paid.
    let lanes = c.args.self.now in
    let p = c.args.place in
    let t = c.args.transfer in
    let way : way_of p t ≡ LeftToRight = sym c.way_of.ensures ∙ c.in-LeftToRight.is in
    fewer_left (lane_steps lanes.to_right) (lane_steps c.hear.new.self) (lane_steps lanes.to_left) (lane_steps lanes.to_left) lanes.extra c.saturating_sub-self.result (price_of lanes.to_right t)
    (at_its_place (λ act. lane_steps c.hear.new.self < lane_steps lanes.to_right + price_of lanes.to_right t) k past s LeftToRight p (waiting_at lanes p) (waiting_in lanes.to_right) t own way may (λ e. ap (λ v. waiting_in (lane_at lanes v)) e)
    (λ m. c.hear.ensures.fewer k past s LeftToRight l.to_right_is m))
    refl
    (ap (λ v. nat_le (price_of (lane_at lanes v) t) lanes.extra) (sym way) ∙ paid)
    (c.saturating_sub-self.ensures ∙ ap (λ price. c.args.self.now.extra - price) c.price.ensures)

pub returns-in-RightToLeft-clause-goes : goal.returns-in-RightToLeft-clause-goes
returns-in-RightToLeft-clause-goes c = λ k past s l now own may.
    let lanes = c.args.self.now in
    let p = c.args.place in
    let t = c.args.transfer in
    let way : way_of p t ≡ RightToLeft = sym c.way_of.ensures ∙ c.in-RightToLeft.is in
    let waiting = waiting_at lanes p in record {
      to_right_is = c.stay-in-RightToLeft.ensures.untouched k past s LeftToRight (transfer_act p waiting t) l.to_right_is (elsewhere k s LeftToRight p waiting t way);
      to_left_is = at_its_place (λ act. IsLane k (act ∷ past) s RightToLeft c.hear-in-RightToLeft.new.self) k past s RightToLeft p waiting (waiting_in lanes.to_left) t own way may (λ e. ap (λ v. waiting_in (lane_at lanes v)) e) (λ m. c.hear-in-RightToLeft.ensures.goes k past s RightToLeft l.to_left_is now m);
      grant_is = l.grant_is;
      extra_within = omega (arith, c.saturating_sub-self-in-RightToLeft.ensures, l.extra_within);
    }

pub returns-in-RightToLeft-clause-fewer : goal.returns-in-RightToLeft-clause-fewer
returns-in-RightToLeft-clause-fewer c = λ k past s l own may paid.
    let lanes = c.args.self.now in
    let p = c.args.place in
    let t = c.args.transfer in
    let way : way_of p t ≡ RightToLeft = sym c.way_of.ensures ∙ c.in-RightToLeft.is in
    fewer_right (lane_steps lanes.to_right) (lane_steps lanes.to_right) (lane_steps lanes.to_left) (lane_steps c.hear-in-RightToLeft.new.self) lanes.extra c.saturating_sub-self-in-RightToLeft.result (price_of lanes.to_left t)
    refl
    (at_its_place (λ act. lane_steps c.hear-in-RightToLeft.new.self < lane_steps lanes.to_left + price_of lanes.to_left t) k past s RightToLeft p (waiting_at lanes p) (waiting_in lanes.to_left) t own way may (λ e. ap (λ v. waiting_in (lane_at lanes v)) e)
    (λ m. c.hear-in-RightToLeft.ensures.fewer k past s RightToLeft l.to_left_is m))
    (ap (λ v. nat_le (price_of (lane_at lanes v) t) lanes.extra) (sym way) ∙ paid)
    (c.saturating_sub-self-in-RightToLeft.ensures ∙ ap (λ price. c.args.self.now.extra - price) c.price-in-RightToLeft.ensures)
