use Rattle.std.proofs.Common.{ℕ, ◌≤◌, List, length, take, sym, subst, arith}
use Rattle.std.proofs.lemmas.List.{length-take-le}
use Rattle.relay_buffer.specs.Flows.{room_in}
use Rattle.session_direction.specs.Directions.{IsDirection}
use Rattle.session_direction.proofs.Steps.{read_bytes}
use Rattle.session_direction.proofs.directions.Direction.hear_block.Goals as goal

pub returns-clause-goes : goal.returns-clause-goes
returns-clause-goes c =
    let bytes : List ℕ = take c.args.count c.args.block.now.items in
    let room : c.args.count ≤ room_in c.self.inside.flow = subst (λ d. c.args.count ≤ room_in d.flow) (sym c.self.view_is) c.requires.room in
    let fits : length bytes ≤ room_in c.self.inside.flow = rw (length-take-le c.args.count c.args.block.now.items (omega arith)) room in
    λ k past s w f going.
    let g = subst (IsDirection k past s w) (sym c.self.view_is) f in
    read_bytes k past s w _ bytes c.fill_block.new.self fits going (c.fill_block.ensures.filled _ _ _ g.flow_is) g
