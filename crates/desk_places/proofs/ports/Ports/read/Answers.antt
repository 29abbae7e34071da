use Rattle.desk_places.proofs.BaseLemmas.{same_bases}
use Rattle.std.proofs.Common.{rules, false}
use Rattle.relay_model.specs.declared.places.Half.TheVariants.{ToRead}
use Rattle.port_table.specs.PortTables.{giving_port}
use Rattle.port_table.proofs.CalledLemmas.{called_made}
use Rattle.desk_places.proofs.SoundLemmas.{giving_of, id_keeps, sound_marked}
use Rattle.desk_places.proofs.ports.Ports.read.Goals as goal

pub returns-clause-kept : goal.returns-clause-kept
returns-clause-kept g c =
    let entry = c.entry_of-entry.result in
    record {
      sound = λ sound.
          c.mark.ensures.sound
          (sound_marked c.args.places.now.entries c.mark.new.places.entries entry.place entry ToRead _ c.args.self.now.table.made c.read-got.new.self.made c.args.self.now.listed c.entry_of-entry.ensures.own c.mark.ensures.marks.set
          (id_keeps (giving_port entry.base) entry.base c.args.self.now.table.made c.read-got.new.self.made _ (giving_of entry.base) (called_made false (giving_port entry.base) c.args.self.now.table c.read-got.new.self _ c.read-got.ensures.call))
          sound);
      bases = same_bases c.args.places.now.entries c.mark.new.places.entries c.mark.ensures.marks.standing;
      no_more = search rules;
      parents = search rules;
      maker = search rules;
    }
