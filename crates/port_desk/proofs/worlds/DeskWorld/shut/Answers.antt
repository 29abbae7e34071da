use Rattle.desk_places.specs.Changes.{shut_answer}
use Rattle.port_table.specs.PortTables.{taking_port}
use Rattle.desk_places.specs.PlaceTables.{base_at, entry_at}
use Rattle.port_desk.proofs.RowLemmas.{shut_row}
use Rattle.port_desk.proofs.CallLemmas.{not_called, shut_so}
use Rattle.std.proofs.Math.Logic.{∥∥₁_map}
use Rattle.port_desk.proofs.FollowCalled.{at_errors, at_input, at_output}
use Rattle.port_desk.proofs.FollowSteps.{based}
use Rattle.std.proofs.Common.{rules, ap}
use Rattle.relay_model.specs.Holding.{is_free}
use Rattle.port_desk.specs.Calls.{ShutsSo}
use Rattle.port_desk.specs.Desks.{shut_ends}
use Rattle.port_desk.proofs.FollowLemmas.{shut_follows}
use Rattle.port_desk.proofs.worlds.DeskWorld.shut.Goals as goal

pub returns-clause-row : goal.returns-clause-row
returns-clause-row g c =
    rw (c.keep_shut.ensures.answer, c.keep_shut.ensures.keeps.places)
    (shut_row c.shut-answer.result c.args.how c.args.place (entry_at c.args.self.now.log.places.entries) (entry_at c.shut-answer.new.places.entries) (rw c.reserve.ensures.rest.places at c.shut-answer.ensures.entry))

pub returns-clause-call : goal.returns-clause-call
returns-clause-call g c = record {
  call = rw c.keep_shut.ensures.answer
      (shut_so (base_at c.args.self.now.log.places.entries c.args.place) taking_port c.args.self.now.ports.table c.shut-answer.new.self.table c.args.how c.shut-answer.result
      (rw c.reserve.ensures.rest.places at c.shut-answer.ensures.call));
  maker = search rules;
  parents = search rules;
}

pub returns-in_default-clause-call : goal.returns-in_default-clause-call
returns-in_default-clause-call g c = record { call = not_called (base_at c.args.self.now.log.places.entries c.args.place) taking_port c.args.self.now.ports.table; maker = search rules; parents = search rules }

pub invariant_of-self-3-clause-follows : goal.invariant_of-self-3-clause-follows
invariant_of-self-3-clause-follows g c =
    let entries = c.args.self.now.log.places.entries in
    let table = c.args.self.now.ports.table in
    let table' = c.shut-answer.new.self.table in
    let answer = shut_answer c.shut-answer.result in
    let call = shut_so (base_at entries c.args.place) taking_port table table' c.args.how c.shut-answer.result (rw c.reserve.ensures.rest.places at c.shut-answer.ensures.call) in
    rw c.keep_shut.ensures.keeps.places (∥∥₁_map c.args.self.now.follows
    (λ on. record {
      follows = λ start. shut_follows answer c.args.place c.args.how c.args.self.now.log.recording.told c.keep_shut.new.self.recording.told (base_at entries) (base_at c.shut-answer.new.places.entries) table.input table'.input table.output table'.output table.errors table'.errors
          (based entries c.args.place (ap is_free c.requires)) (rw (c.reserve.ensures.rest.told, c.keep_shut.ensures.answer) at c.keep_shut.ensures.keeps.told)
          (at_input (shut_ends c.args.how answer) (base_at entries c.args.place) taking_port table table' (ShutsSo c.args.how answer) call)
          (at_output (shut_ends c.args.how answer) (base_at entries c.args.place) taking_port table table' (ShutsSo c.args.how answer) call)
          (at_errors (shut_ends c.args.how answer) (base_at entries c.args.place) taking_port table table' (ShutsSo c.args.how answer) call)
          (rw c.reserve.ensures.rest.places at c.shut-answer.ensures.kept.bases) (on.follows start);
    }))
