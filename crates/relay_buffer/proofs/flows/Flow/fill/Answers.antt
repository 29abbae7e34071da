use Rattle.std.proofs.Common.{◌≤◌, ◌++◌, length, refl, sym, ap, subst, ◌∙◌, arith}
use Rattle.line_ends.specs.Converted.{converted}
use Rattle.relay_buffer.specs.Backlogs.{held_bytes}
use Rattle.relay_buffer.specs.Flows.{Flowing, IsFlow, room_in}
use Rattle.relay_buffer.proofs.BacklogLemmas.{can_hold_more}
use Rattle.relay_buffer.proofs.EscapeLemmas.{is_nonempty, length-before_escape}
use Rattle.relay_buffer.proofs.FlowLemmas.{filled}
use Rattle.relay_buffer.proofs.RoomLemmas.{has_room}
use Rattle.relay_buffer.proofs.flows.Flow.fill.Goals as goal

pub append_converted-requires : goal.append_converted-requires
append_converted-requires c =
    let now = c.self.inside in
    let bytes = c.args.bytes.now in
    let flow : Flowing = record { lane = now.lane; left = now.left; met = now.met; backlog = held_bytes now.held } in
    let some = is_nonempty c.is_empty.result bytes c.is_empty.ensures c.if-is_empty.false in
    let room : length bytes ≤ room_in flow = subst (λ (f : Flowing). length bytes ≤ room_in f) (sym c.self.view_is) c.requires in
    let kept = c.up_to_escape-met.ensures.kept in
    let fewer : length c.up_to_escape-met.result.0.now ≤ length bytes = omega (arith, ap length kept, length-before_escape now.lane.escape bytes) in
    omega (arith, has_room flow now.held bytes c.up_to_escape-met.result.0.now c.self.invariant refl some room fewer, c.self.invariant.room)

pub invariant_of-self : goal.invariant_of-self
invariant_of-self c =
    let now = c.self.inside in
    let bytes = c.args.bytes.now in
    let flow : Flowing = record { lane = now.lane; left = now.left; met = now.met; backlog = held_bytes now.held } in
    let some = is_nonempty c.is_empty.result bytes c.is_empty.ensures c.if-is_empty.false in
    let room : length bytes ≤ room_in flow = subst (λ (f : Flowing). length bytes ≤ room_in f) (sym c.self.view_is) c.requires in
    let kept = c.up_to_escape-met.ensures.kept in
    let fewer : length c.up_to_escape-met.result.0.now ≤ length bytes = omega (arith, ap length kept, length-before_escape now.lane.escape bytes) in
    can_hold_more now.lane now.held c.append_converted.new.self (converted now.lane.how c.up_to_escape-met.result.0.now) c.self.invariant c.append_converted.ensures.store c.append_converted.ensures.bytes (has_room flow now.held bytes c.up_to_escape-met.result.0.now c.self.invariant refl some room fewer)

pub returns-clause-filled : goal.returns-clause-filled
returns-clause-filled c =
    let now = c.self.inside in
    let bytes = c.args.bytes.now in
    let flow : Flowing = record { lane = now.lane; left = now.left; met = now.met; backlog = held_bytes now.held } in
    let some = is_nonempty c.is_empty.result bytes c.is_empty.ensures c.if-is_empty.false in
    let room : length bytes ≤ room_in flow = subst (λ (f : Flowing). length bytes ≤ room_in f) (sym c.self.view_is) c.requires in
    λ lane x y is.
    filled lane x y bytes flow _ some room (record {
      lane = refl;
      left = c.left_after-self-inside.ensures;
      met = c.up_to_escape-met.ensures.met;
      backlog = c.append_converted.ensures.bytes ∙ ap (λ kept. held_bytes now.held ++ converted now.lane.how kept) c.up_to_escape-met.ensures.kept;
    }) (subst (λ (f : Flowing). IsFlow lane x y f) (sym c.self.view_is) is)
