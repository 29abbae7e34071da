use Rattle.std.proofs.Common.{◌∙◌, ap, refl, rules, sym, subst, false}
use Rattle.desk_places.specs.Marks.{MarksPlace}
use Rattle.desk_places.specs.declared.places.PlaceEntry.{PlaceEntry}
use Rattle.desk_places.specs.PlaceTables.{hold_at, is_disarmed}
use Rattle.desk_places.proofs.BaseLemmas.{put_here}
use Rattle.desk_places.proofs.MarkLemmas.{marks_set}
use Rattle.desk_places.proofs.PortLemmas.{stays_free}
use Rattle.desk_places.proofs.SoundLemmas.{sound_insert}
use Rattle.desk_places.proofs.ports.Ports.insert.Goals as goal

pub returns-in-Failed-clause-held : goal.returns-in-Failed-clause-held
returns-in-Failed-clause-held g c = stays_free (hold_at c.args.places.now.entries) (hold_at c.args.places.now.entries) c.args.place c.requires.free (λ p. refl)

pub returns-then-settling-clause-kept : goal.returns-then-settling-clause-kept
returns-then-settling-clause-kept g c = record {
  sound = λ sound.
      c.list.ensures.sound c.add.new.self.entries
      (put_here c.args.places.now.entries c.add.new.self.entries c.new-entry.result c.add.ensures.put.set)
      (sound_insert c.args.places.now.entries c.add.new.self.entries c.new-entry.result c.args.self.now.table.made c.insert_reserved-key.new.self c.args.self.now.listed c.insert_reserved-key.result _
      (ap (λ (s : PlaceEntry). s.base) c.new-entry.ensures)
      (sym (ap (λ (s : PlaceEntry). s.place) c.new-entry.ensures))
      (rw c.insert_reserved-key.ensures.key c.requires.vacancy.covered)
      c.add.ensures.put.set c.insert_reserved-key.ensures.was_vacant c.insert_reserved-key.ensures.updates sound);
  one_more = search rules;
  parents = search rules;
}

pub returns-else-settling-clause-kept : goal.returns-else-settling-clause-kept
returns-else-settling-clause-kept g c = record {
  sound = λ sound.
      c.list.ensures.sound c.add.new.self.entries
      (put_here c.args.places.now.entries c.add.new.self.entries c.new-entry.result c.add.ensures.put.set)
      (sound_insert c.args.places.now.entries c.add.new.self.entries c.new-entry.result c.args.self.now.table.made c.insert_reserved-key.new.self c.args.self.now.listed c.insert_reserved-key.result _
      (ap (λ (s : PlaceEntry). s.base) c.new-entry.ensures)
      (sym (ap (λ (s : PlaceEntry). s.place) c.new-entry.ensures))
      (rw c.insert_reserved-key.ensures.key c.requires.vacancy.covered)
      c.add.ensures.put.set c.insert_reserved-key.ensures.was_vacant c.insert_reserved-key.ensures.updates sound);
  one_more = search rules;
  parents = search rules;
}

pub returns-else-settling-clause-marks : goal.returns-else-settling-clause-marks
returns-else-settling-clause-marks g c =
    let marks = marks_set c.args.places.now.entries c.add.new.self.entries c.new-entry.result false c.add.ensures.put.set (ap (λ (s : PlaceEntry). s.reading_disarmed) c.new-entry.ensures ∙ c.if-settling.false) (ap (λ (s : PlaceEntry). s.writing_disarmed) c.new-entry.ensures ∙ c.if-settling.false) in
    subst (λ q. MarksPlace q false (is_disarmed c.args.places.now.entries) (is_disarmed c.add.new.self.entries)) (ap (λ (s : PlaceEntry). s.place) c.new-entry.ensures) marks
