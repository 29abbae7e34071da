use Rattle.std.proofs.Common.{rules, refl, false}
use Rattle.desk_places.specs.PlaceTables.{hold_at, new_entry}
use Rattle.desk_places.proofs.PortLemmas.{stays_free}
use Rattle.desk_places.proofs.SoundLemmas.{sound_add}
use Rattle.desk_places.proofs.ports.Ports.open.Goals as goal

pub returns-in-Begun-clause-kept : goal.returns-in-Begun-clause-kept
returns-in-Begun-clause-kept g c = record {
  sound = λ sound.
      let set = rw c.new.ensures at c.add.ensures.put.set in
      rw c.begin.ensures.made (sound_add c.args.places.now.entries c.add.new.self.entries (new_entry c.args.place c.in-Some.base false) c.args.self.now.table.made c.args.self.now.listed set c.in-Some.ensures.standard sound);
  one_more = search rules;
  parents = search rules;
}

pub returns-in-Failed-make-clause-held : goal.returns-in-Failed-make-clause-held
returns-in-Failed-make-clause-held g c = stays_free (hold_at c.args.places.now.entries) (hold_at c.args.places.now.entries) c.args.place c.requires.free (λ p. refl)
