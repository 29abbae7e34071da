use Rattle.port_table.specs.PortTables.{giving_port}
use Rattle.port_trait.specs.Ports.{Reads}
use Rattle.desk_places.specs.PlaceTables.{base_at, hold_at, entry_at}
use Rattle.port_desk.specs.Calls.{ReadsSo}
use Rattle.port_desk.proofs.CallLemmas.{called_so, not_called, reads_so}
use Rattle.port_desk.proofs.RowLemmas.{read_row}
use Rattle.std.proofs.Math.Logic.{∥∥₁_map}
use Rattle.port_desk.proofs.FollowCalled.{at_errors, at_input, at_output}
use Rattle.port_desk.proofs.FollowSteps.{based}
use Rattle.std.proofs.Common.{rules, false}
use Rattle.desk_places.proofs.PortLemmas.{open_held}
use Rattle.port_desk.proofs.FollowLemmas.{read_follows}
use Rattle.port_desk.proofs.worlds.DeskWorld.read.Goals as goal

pub returns-clause-call : goal.returns-clause-call
returns-clause-call g c = record {
  call = called_so (base_at c.args.self.now.log.places.entries c.args.place) giving_port c.args.self.now.ports.table c.read-got.new.self.table (λ old new. Reads old new c.read-got.new.into c.read-got.result) (ReadsSo c.read-got.new.into c.keep_read.result)
      (λ old new call. rw c.keep_read.ensures.answer (reads_so c.read-got.result c.read-got.new.into old new call))
      (rw c.prepare.ensures.rest.places at c.read-got.ensures.call);
  maker = search rules;
  parents = search rules;
}

pub returns-in_default-clause-call : goal.returns-in_default-clause-call
returns-in_default-clause-call g c = record { call = not_called (base_at c.args.self.now.log.places.entries c.args.place) giving_port c.args.self.now.ports.table; maker = search rules; parents = search rules }

pub returns-clause-row : goal.returns-clause-row
returns-clause-row g c =
    rw (c.keep_read.ensures.answer, c.keep_read.ensures.keeps.places)
    (read_row c.read-got.result c.args.place (entry_at c.args.self.now.log.places.entries) (entry_at c.read-got.new.places.entries) (rw c.prepare.ensures.rest.places at c.read-got.ensures.marks))

pub invariant_of-self-3-clause-follows : goal.invariant_of-self-3-clause-follows
invariant_of-self-3-clause-follows g c =
    let entries = c.args.self.now.log.places.entries in
    let table = c.args.self.now.ports.table in
    let table' = c.read-got.new.self.table in
    let call =
    called_so (base_at c.args.self.now.log.places.entries c.args.place) giving_port c.args.self.now.ports.table c.read-got.new.self.table (λ old new. Reads old new c.read-got.new.into c.read-got.result) (ReadsSo c.read-got.new.into c.keep_read.result)
    (λ old new call. rw c.keep_read.ensures.answer (reads_so c.read-got.result c.read-got.new.into old new call))
    (rw c.prepare.ensures.rest.places at c.read-got.ensures.call) in
    rw c.keep_read.ensures.keeps.places (∥∥₁_map c.args.self.now.follows
    (λ on. record {
      follows = λ start. read_follows c.keep_read.result c.args.place c.read-got.new.into c.args.self.now.log.recording.told c.keep_read.new.self.recording.told (base_at entries) (base_at c.read-got.new.places.entries) table.input table'.input table.output table'.output table.errors table'.errors
          (based entries c.args.place (open_held (hold_at entries c.args.place) c.requires.open)) (rw c.prepare.ensures.rest.told at c.keep_read.ensures.keeps.told)
          (at_input false (base_at entries c.args.place) giving_port table table' (ReadsSo c.read-got.new.into c.keep_read.result) call)
          (at_output false (base_at entries c.args.place) giving_port table table' (ReadsSo c.read-got.new.into c.keep_read.result) call)
          (at_errors false (base_at entries c.args.place) giving_port table table' (ReadsSo c.read-got.new.into c.keep_read.result) call)
          (rw c.prepare.ensures.rest.places at c.read-got.ensures.kept.bases) (on.follows start);
    }))
