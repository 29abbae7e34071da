use Rattle.port_table.specs.PortTables.{giving_port}
use Rattle.desk_places.specs.PlaceTables.{base_at}
use Rattle.port_desk.proofs.CallLemmas.{unsettled}
use Rattle.std.proofs.Math.Logic.{∥∥₁_map}
use Rattle.std.proofs.Common.{ap}
use Rattle.relay_model.specs.Holding.{is_free}
use Rattle.port_desk.proofs.FollowLemmas.{settle_follows}
use Rattle.port_desk.proofs.FollowCalled.{settle_errors, settle_input, settle_output}
use Rattle.port_desk.proofs.FollowSteps.{based}
use Rattle.port_desk.proofs.worlds.DeskWorld.settle.Goals as goal

pub returns-in_default-clause-call : goal.returns-in_default-clause-call
returns-in_default-clause-call g c = unsettled _ (base_at c.args.self.now.log.places.entries c.args.place) giving_port c.args.self.now.ports.table c.args.self.now.ports.parents.items

pub invariant_of-self-3-clause-follows : goal.invariant_of-self-3-clause-follows
invariant_of-self-3-clause-follows g c =
    let entries = c.args.self.now.log.places.entries in
    let table = c.args.self.now.ports.table in
    let table' = c.settle-answer.new.self.table in
    let parents = c.args.self.now.ports.parents.items in
    let parents' = c.settle-answer.new.self.parents.items in
    let call = rw c.reserve.ensures.rest.places at c.settle-answer.ensures.call in
    rw c.keep_settling.ensures.places (∥∥₁_map c.args.self.now.follows
    (λ on. record {
      follows = λ start. settle_follows c.settle-answer.result c.args.place c.args.self.now.log.recording.told c.keep_settling.new.self.recording.told (base_at entries) (base_at c.settle-answer.new.places.entries) table.input table'.input table.output table'.output table.errors table'.errors
          (based entries c.args.place (ap is_free c.requires)) (rw c.reserve.ensures.rest.told at c.keep_settling.ensures.told)
          (settle_input _ (base_at entries c.args.place) giving_port table table' parents parents' c.settle-answer.result call)
          (settle_output _ (base_at entries c.args.place) giving_port table table' parents parents' c.settle-answer.result call)
          (settle_errors _ (base_at entries c.args.place) giving_port table table' parents parents' c.settle-answer.result call)
          (rw c.reserve.ensures.rest.places at c.settle-answer.ensures.bases) (on.follows start);
    }))
