use Rattle.port_table.specs.PortTables.{taking_port}
use Rattle.port_trait.specs.Ports.{Writes}
use Rattle.desk_places.specs.PlaceTables.{base_at, entry_at}
use Rattle.port_desk.specs.Calls.{WritesSo}
use Rattle.port_desk.proofs.CallLemmas.{called_so, not_called, writes_so}
use Rattle.port_desk.proofs.RowLemmas.{write_row}
use Rattle.std.proofs.Math.Logic.{∥∥₁_map}
use Rattle.port_desk.proofs.FollowCalled.{at_errors, at_input, at_output}
use Rattle.port_desk.proofs.FollowSteps.{based}
use Rattle.std.proofs.Common.{rules, ap, false}
use Rattle.relay_model.specs.Holding.{is_free}
use Rattle.port_desk.proofs.FollowLemmas.{write_follows}
use Rattle.port_desk.proofs.worlds.DeskWorld.write.Goals as goal

pub returns-clause-call : goal.returns-clause-call
returns-clause-call g c = record {
  call = called_so (base_at c.args.self.now.log.places.entries c.args.place) taking_port c.args.self.now.ports.table c.write-took.new.self.table (λ old new. Writes old new c.args.bytes.now c.write-took.result) (WritesSo c.args.bytes.now c.keep_write.result)
      (λ old new call. rw c.keep_write.ensures.answer (writes_so c.write-took.result c.args.bytes.now old new call))
      (rw c.prepare.ensures.rest.places at c.write-took.ensures.call);
  maker = search rules;
  parents = search rules;
}

pub returns-in_default-clause-call : goal.returns-in_default-clause-call
returns-in_default-clause-call g c = record { call = not_called (base_at c.args.self.now.log.places.entries c.args.place) taking_port c.args.self.now.ports.table; maker = search rules; parents = search rules }

pub returns-clause-row : goal.returns-clause-row
returns-clause-row g c =
    rw (c.keep_write.ensures.answer, c.keep_write.ensures.keeps.places)
    (write_row c.write-took.result c.args.place (entry_at c.args.self.now.log.places.entries) (entry_at c.write-took.new.places.entries) (rw c.prepare.ensures.rest.places at c.write-took.ensures.marks))

pub invariant_of-self-3-clause-follows : goal.invariant_of-self-3-clause-follows
invariant_of-self-3-clause-follows g c =
    let entries = c.args.self.now.log.places.entries in
    let table = c.args.self.now.ports.table in
    let table' = c.write-took.new.self.table in
    let call =
    called_so (base_at c.args.self.now.log.places.entries c.args.place) taking_port c.args.self.now.ports.table c.write-took.new.self.table (λ old new. Writes old new c.args.bytes.now c.write-took.result) (WritesSo c.args.bytes.now c.keep_write.result)
    (λ old new call. rw c.keep_write.ensures.answer (writes_so c.write-took.result c.args.bytes.now old new call))
    (rw c.prepare.ensures.rest.places at c.write-took.ensures.call) in
    rw c.keep_write.ensures.keeps.places (∥∥₁_map c.args.self.now.follows
    (λ on. record {
      follows = λ start. write_follows c.keep_write.result c.args.place c.args.bytes.now c.args.self.now.log.recording.told c.keep_write.new.self.recording.told (base_at entries) (base_at c.write-took.new.places.entries) table.input table'.input table.output table'.output table.errors table'.errors
          (based entries c.args.place (ap is_free c.requires.open)) (rw c.prepare.ensures.rest.told at c.keep_write.ensures.keeps.told)
          (at_input false (base_at entries c.args.place) taking_port table table' (WritesSo c.args.bytes.now c.keep_write.result) call)
          (at_output false (base_at entries c.args.place) taking_port table table' (WritesSo c.args.bytes.now c.keep_write.result) call)
          (at_errors false (base_at entries c.args.place) taking_port table table' (WritesSo c.args.bytes.now c.keep_write.result) call)
          (rw c.prepare.ensures.rest.places at c.write-took.ensures.kept.bases) (on.follows start);
    }))
