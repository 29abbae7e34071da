use Rattle.std.proofs.Common.{ap}
use Rattle.port_table.specs.Ports.{StreamSeen}
use Rattle.desk_places.specs.Keys.{KeyTable}
use Rattle.desk_places.proofs.TurnLemmas.{hinting_all, listed_told, told_same}
use Rattle.desk_places.proofs.OnlyLemmas.{names_then}
use Rattle.desk_places.proofs.naming.name_hinting.Goals as goal

pub returns-clause-named : goal.returns-clause-named
returns-clause-named g c =
    let before = c.args.ports.now.table in
    let between = c.name_standard.new.self.table in
    let same = told_same before.input.port.hints before.output.port.hints before.errors.port.hints between.input.port.hints between.output.port.hints between.errors.port.hints before.made between.made
    (ap (λ (s : StreamSeen). s.port.hints) c.name_standard.ensures.list.same.streams.input) (ap (λ (s : StreamSeen). s.port.hints) c.name_standard.ensures.list.same.streams.output) (ap (λ (s : StreamSeen). s.port.hints) c.name_standard.ensures.list.same.streams.errors) c.name_standard.ensures.list.same.made in
    hinting_all before.input.port.hints before.output.port.hints before.errors.port.hints before.made c.args.places.now.entries c.args.ports.now.listed c.name_standard.new.ready.entries c.name_listed.new.ready.entries c.name_standard.ensures.named c.name_listed.ensures.list.grown
    (listed_told _ _ c.args.places.now.entries before.made between.made c.args.ports.now.listed.keys c.name_standard.new.self.listed.keys c.name_listed.new.ready.entries same c.name_standard.ensures.list.same.made (ap (λ (t : KeyTable). t.keys) c.name_standard.ensures.list.same.listed) c.name_listed.ensures.named)
    c.requires.sound

pub returns-clause-list : goal.returns-clause-list
returns-clause-list g c = names_then c.args.places.now.entries c.args.ports.now c.name_standard.new.self c.name_listed.new.self c.args.ready.now c.name_standard.new.ready c.name_listed.new.ready c.name_standard.ensures.list c.name_listed.ensures.list
