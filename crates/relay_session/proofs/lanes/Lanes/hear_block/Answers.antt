use Rattle.std.proofs.Common.{ℕ, ◌-◌, List, ◌∷◌, take, refl, sym, ap, subst, ◌∙◌, arith}
use Rattle.relay_model.specs.declared.places.Way.TheVariants.{LeftToRight, RightToLeft}
use Rattle.relay_model.specs.declared.acts.Act.TheVariants.{Read}
use Rattle.relay_model.specs.Configs.{way_from}
use Rattle.relay_model.specs.May.{MayRead}
use Rattle.relay_session.specs.Lanes.{IsLane, can_read_in, read_price_in, lane_at, lane_steps}
use Rattle.relay_session.proofs.LaneLemmas.{fewer_left, fewer_right, read_at, read_elsewhere}
use Rattle.relay_session.proofs.lanes.Lanes.hear_block.Goals as goal

pub returns-in-Left-clause-goes : goal.returns-in-Left-clause-goes
returns-in-Left-clause-goes c = λ k past s l own may.
    let p = c.args.place in
    let bytes : List ℕ = take c.args.count c.args.block.now.items in
    let way = ap way_from c.in-Left.is in
    let at = read_at k past s LeftToRight p c.args.count own way may in record {
      to_right_is = subst (λ q. IsLane k (Read q bytes ∷ past) s LeftToRight c.hear_block.new.self) (sym at) (c.hear_block.ensures.goes k past s LeftToRight l.to_right_is (subst (λ q. MayRead k past q c.args.count) at may));
      to_left_is = c.stay.ensures.untouched k past s RightToLeft (Read p bytes) l.to_left_is (read_elsewhere k s RightToLeft p way);
      grant_is = l.grant_is;
      extra_within = omega (arith, c.saturating_sub-self.ensures, l.extra_within);
    }

pub returns-in-Left-clause-fewer : goal.returns-in-Left-clause-fewer
returns-in-Left-clause-fewer c = λ k past s l own may paid.
    let way = ap way_from c.in-Left.is in
    let at = read_at k past s LeftToRight c.args.place c.args.count own way may in
    let can = sym (ap (λ w. can_read_in (lane_at c.args.self.now w) c.args.self.now.extra) way) ∙ paid in
    fewer_left (lane_steps c.args.self.now.to_right) (lane_steps c.hear_block.new.self) (lane_steps c.args.self.now.to_left) (lane_steps c.args.self.now.to_left) c.args.self.now.extra c.saturating_sub-self.result (read_price_in c.args.self.now.to_right)
    (c.hear_block.ensures.fewer k past s LeftToRight l.to_right_is (subst (λ q. MayRead k past q c.args.count) at may)) refl can (c.saturating_sub-self.ensures ∙ ap (λ price. c.args.self.now.extra - price) c.read_price.ensures)

pub returns-in-Right-clause-goes : goal.returns-in-Right-clause-goes
returns-in-Right-clause-goes c = λ k past s l own may.
    let p = c.args.place in
    let bytes : List ℕ = take c.args.count c.args.block.now.items in
    let way = ap way_from c.in-Right.is in
    let at = read_at k past s RightToLeft p c.args.count own way may in record {
      to_right_is = c.stay-in-Right.ensures.untouched k past s LeftToRight (Read p bytes) l.to_right_is (read_elsewhere k s LeftToRight p way);
      to_left_is = subst (λ q. IsLane k (Read q bytes ∷ past) s RightToLeft c.hear_block-in-Right.new.self) (sym at) (c.hear_block-in-Right.ensures.goes k past s RightToLeft l.to_left_is (subst (λ q. MayRead k past q c.args.count) at may));
      grant_is = l.grant_is;
      extra_within = omega (arith, c.saturating_sub-self-in-Right.ensures, l.extra_within);
    }

pub returns-in-Right-clause-fewer : goal.returns-in-Right-clause-fewer
returns-in-Right-clause-fewer c = λ k past s l own may paid.
    let way = ap way_from c.in-Right.is in
    let at = read_at k past s RightToLeft c.args.place c.args.count own way may in
    let can = sym (ap (λ w. can_read_in (lane_at c.args.self.now w) c.args.self.now.extra) way) ∙ paid in
    fewer_right (lane_steps c.args.self.now.to_right) (lane_steps c.args.self.now.to_right) (lane_steps c.args.self.now.to_left) (lane_steps c.hear_block-in-Right.new.self) c.args.self.now.extra c.saturating_sub-self-in-Right.result (read_price_in c.args.self.now.to_left)
    refl (c.hear_block-in-Right.ensures.fewer k past s RightToLeft l.to_left_is (subst (λ q. MayRead k past q c.args.count) at may)) can (c.saturating_sub-self-in-Right.ensures ∙ ap (λ price. c.args.self.now.extra - price) c.read_price-in-Right.ensures)
