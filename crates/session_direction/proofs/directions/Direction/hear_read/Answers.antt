use Rattle.std.proofs.Common.{sym, subst}
use Rattle.session_direction.specs.Directions.{IsDirection}
use Rattle.relay_buffer.specs.Flows.{room_in}
use Rattle.std.proofs.Common.{◌≤◌, length}
use Rattle.session_direction.proofs.Steps.{read_bytes}
use Rattle.session_direction.proofs.directions.Direction.hear_read.Goals as goal

pub returns-clause-goes : goal.returns-clause-goes
returns-clause-goes c = λ k past s w f going. let g = subst (IsDirection k past s w) (sym c.self.view_is) f in read_bytes k past s w _ c.args.bytes.now c.fill.new.self (subst (λ d. length c.args.bytes.now ≤ room_in d.flow) (sym c.self.view_is) c.requires) going (c.fill.ensures.filled _ _ _ g.flow_is) g
