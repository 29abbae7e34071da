use Rattle.desk_places.proofs.BaseLemmas.{same_bases}
use Rattle.std.proofs.Common.{rules, false}
use Rattle.relay_model.specs.declared.places.Half.TheVariants.{ToWrite}
use Rattle.port_table.specs.PortTables.{taking_port}
use Rattle.port_table.proofs.CalledLemmas.{called_made}
use Rattle.desk_places.proofs.SoundLemmas.{taking_of, id_keeps, sound_marked}
use Rattle.desk_places.proofs.ports.Ports.write.Goals as goal

pub returns-clause-kept : goal.returns-clause-kept
returns-clause-kept g c =
    let entry = c.entry_of-entry.result in
    record {
      sound = λ sound.
          c.mark.ensures.sound
          (sound_marked c.args.places.now.entries c.mark.new.places.entries entry.place entry ToWrite _ c.args.self.now.table.made c.write-took.new.self.made c.args.self.now.listed c.entry_of-entry.ensures.own c.mark.ensures.marks.set
          (id_keeps (taking_port entry.base) entry.base c.args.self.now.table.made c.write-took.new.self.made _ (taking_of entry.base) (called_made false (taking_port entry.base) c.args.self.now.table c.write-took.new.self _ c.write-took.ensures.call))
          sound);
      bases = same_bases c.args.places.now.entries c.mark.new.places.entries c.mark.ensures.marks.standing;
      no_more = search rules;
      parents = search rules;
      maker = search rules;
    }
