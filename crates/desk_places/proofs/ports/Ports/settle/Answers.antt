use Rattle.std.proofs.Common.{refl, false, true}
use Rattle.port_table.specs.PortTables.{giving_port}
use Rattle.port_table.proofs.CalledLemmas.{called_made}
use Rattle.desk_places.specs.PlaceTables.{new_entry}
use Rattle.desk_places.proofs.BaseLemmas.{put_here}
use Rattle.desk_places.proofs.SoundLemmas.{giving_of, id_keeps, sound_but, sound_but_still}
use Rattle.desk_places.proofs.ports.Ports.settle.Goals as goal

pub returns-in-Ready-clause-sound : goal.returns-in-Ready-clause-sound
returns-in-Ready-clause-sound g c = λ sound.
    let base = c.entry_of-entry.result.base in
    let entry = new_entry c.args.place base false in
    let sets = rw c.new-opened.ensures at c.replace.ensures.put.set in
    (rw c.new-opened.ensures at c.list.ensures.sound) c.replace.new.self.entries
    (put_here c.args.places.now.entries c.replace.new.self.entries entry sets)
    (sound_but c.args.places.now.entries c.replace.new.self.entries c.args.place c.entry_of-entry.result entry c.args.self.now.table.made c.settle.new.self.made c.args.self.now.listed c.entry_of-entry.ensures.found refl sets
    (id_keeps (giving_port base) base c.args.self.now.table.made c.settle.new.self.made _ (giving_of base) (called_made false (giving_port base) c.args.self.now.table c.settle.new.self _ c.settle.ensures))
    sound)

pub returns-in-NotYet-clause-sound : goal.returns-in-NotYet-clause-sound
returns-in-NotYet-clause-sound g c = λ sound.
    let base = c.entry_of-entry.result.base in
    let entry = new_entry c.args.place base true in
    let sets = rw c.new-settling.ensures at c.replace-in-NotYet.ensures.put.set in
    (rw c.new-settling.ensures at c.list-in-NotYet.ensures.sound) c.replace-in-NotYet.new.self.entries
    (put_here c.args.places.now.entries c.replace-in-NotYet.new.self.entries entry sets)
    (sound_but c.args.places.now.entries c.replace-in-NotYet.new.self.entries c.args.place c.entry_of-entry.result entry c.args.self.now.table.made c.settle.new.self.made c.args.self.now.listed c.entry_of-entry.ensures.found refl sets
    (id_keeps (giving_port base) base c.args.self.now.table.made c.settle.new.self.made _ (giving_of base) (called_made false (giving_port base) c.args.self.now.table c.settle.new.self _ c.settle.ensures))
    sound)

pub returns-in-Failed-clause-sound : goal.returns-in-Failed-clause-sound
returns-in-Failed-clause-sound g c = λ sound.
    let entry = c.entry_of-entry.result in
    c.leave.ensures.sound
    (sound_but_still c.args.places.now.entries entry.place entry c.args.self.now.table.made c.settle.new.self.made c.args.self.now.listed c.entry_of-entry.ensures.own
    (id_keeps (giving_port entry.base) entry.base c.args.self.now.table.made c.settle.new.self.made _ (giving_of entry.base) (called_made false (giving_port entry.base) c.args.self.now.table c.settle.new.self _ c.settle.ensures))
    sound)
