use Rattle.std.proofs.Common.{rules, refl}
use Rattle.port_trait.specs.Streams.{finishes}
use Rattle.port_table.specs.PortTables.{taking_port}
use Rattle.port_table.proofs.CalledLemmas.{called_made}
use Rattle.desk_places.proofs.BaseLemmas.{put_here, same_bases}
use Rattle.desk_places.proofs.SoundLemmas.{id_keeps, sound_but, taking_of}
use Rattle.desk_places.proofs.ports.Ports.shut.Goals as goal

pub returns-clause-kept : goal.returns-clause-kept
returns-clause-kept g c =
    let entry = c.entry_of-entry.result in
    record {
      sound = λ sound.
          c.list.ensures.sound c.replace.new.self.entries
          (put_here c.args.places.now.entries c.replace.new.self.entries _ c.replace.ensures.put.set)
          (sound_but c.args.places.now.entries c.replace.new.self.entries entry.place entry _ c.args.self.now.table.made c.shut-answer.new.self.made c.args.self.now.listed c.entry_of-entry.ensures.own refl c.replace.ensures.put.set
          (id_keeps (taking_port entry.base) entry.base c.args.self.now.table.made c.shut-answer.new.self.made _ (taking_of entry.base) (called_made (finishes c.args.how) (taking_port entry.base) c.args.self.now.table c.shut-answer.new.self _ c.shut-answer.ensures))
          sound);
      bases = same_bases c.args.places.now.entries c.replace.new.self.entries c.replace.ensures.standing;
      no_more = search rules;
      parents = search rules;
      maker = search rules;
    }
