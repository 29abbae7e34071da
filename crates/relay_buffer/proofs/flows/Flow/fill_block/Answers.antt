use Rattle.std.proofs.Common.{◌≡◌, ℕ, ◌≤◌, List, ◌++◌, length, take, refl, sym, ap, subst, ◌∙◌, arith}
use Rattle.std.proofs.lemmas.List.{length-take-le}
use Rattle.relay_buffer.specs.Backlogs.{held_bytes}
use Rattle.relay_buffer.specs.Flows.{Flowing, IsFlow, IsPassedWhole, lowered, room_in}
use Rattle.relay_buffer.proofs.BacklogLemmas.{tradable}
use Rattle.relay_buffer.proofs.FlowLemmas.{traded}
use Rattle.relay_buffer.proofs.flows.Flow.fill_block.Goals as goal

pub returns-then-is_passed_whole-clause-filled : goal.returns-then-is_passed_whole-clause-filled
returns-then-is_passed_whole-clause-filled c =
    let now = c.self.inside in
    let bytes : List ℕ = take c.args.count c.args.block.now.items in
    let flow : Flowing = record { lane = now.lane; left = now.left; met = now.met; backlog = held_bytes now.held } in
    let whole : IsPassedWhole now.lane bytes = subst (λ (xs : List ℕ). IsPassedWhole now.lane (take c.args.count xs)) c.deref.ensures.value (c.is_passed_whole.ensures c.if-is_passed_whole.true) in
    let long : length bytes ≡ c.args.count = length-take-le c.args.count c.args.block.now.items (omega arith) in
    let room : c.args.count ≤ room_in flow = subst (λ (f : Flowing). c.args.count ≤ room_in f) (sym c.self.view_is) c.requires.room in
    let may = tradable now.held c.args.block.now.items c.args.count (c.if-can_trade.ensures refl) in
    λ lane x y is.
    traded lane x y bytes flow _ (rw long may.0) (rw long room) whole (record {
      lane = refl;
      left = c.left_after-self-inside.ensures ∙ ap (lowered now.left) (sym long);
      met = refl;
      empty = may.1;
      backlog = c.trade.ensures.bytes;
    }) (subst (λ (f : Flowing). IsFlow lane x y f) (sym c.self.view_is) is)

pub returns-else-can_trade-clause-filled : goal.returns-else-can_trade-clause-filled
returns-else-can_trade-clause-filled c = λ lane x y is.
    subst (λ (xs : List ℕ). IsFlow lane (x ++ take c.args.count xs) y c.fill.new.self) c.deref-else-can_trade.ensures.value (c.fill.ensures.filled lane x y is)
