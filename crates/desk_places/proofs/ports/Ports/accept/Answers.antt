use Rattle.std.proofs.Common.{rules, inr, refl, sym, subst, false, true, ◌∙◌}
use Rattle.relay_model.specs.declared.places.Half.TheVariants.{ToRead}
use Rattle.desk_places.specs.PlaceTables.{base_at, hold_at, is_disarmed}
use Rattle.desk_places.proofs.MadeLemmas.{accepts_given, at_made, call_then, more_based}
use Rattle.desk_places.proofs.MarkLemmas.{arms_both, arms_half, held_slot, marks_after, marks_half}
use Rattle.desk_places.proofs.PortLemmas.{at_base, key_made, still_free}
use Rattle.desk_places.proofs.SoundLemmas.{OnlyAt, but_of, call_keeps, same_keeps, sound_armed, sound_but_still, sound_marked}
use Rattle.desk_places.proofs.ports.Ports.accept.Goals as goal

pub returns-in-Opened-clause-kept : goal.returns-in-Opened-clause-kept
returns-in-Opened-clause-kept g c = record {
  sound = λ sound.
      let xs = c.args.places.now.entries in
      let entry = c.entry_of-entry.result in
      let made = c.args.self.now.table.made in
      let made' = c.accept_at-taken.new.table.made in
      let is = key_made entry.base c.in-Some.door_key (sym c.made_key.ensures ∙ c.in-Some.is) in
      let only = subst (λ b. OnlyAt b made made') (sym is) (call_keeps made made' c.in-Some.door_key _ c.accept_at-taken.ensures.door) in
      let listed = c.list.ensures.sound xs c.entry_of-entry.ensures.own (sound_but_still xs entry.place entry made made' c.args.self.now.listed c.entry_of-entry.ensures.own only sound) in
      c.mark.ensures.sound (but_of c.mark.new.places.entries entry.place c.insert.new.self.table.made c.insert.new.self.listed (sound_armed c.insert.new.places.entries c.mark.new.places.entries entry.place ToRead c.insert.new.self.table.made c.insert.new.self.listed c.mark.ensures.marks.set (c.insert.ensures.kept.sound listed)));
  one_more = search rules;
  parents = search rules;
}

pub returns-in-Failed-insert-clause-kept : goal.returns-in-Failed-insert-clause-kept
returns-in-Failed-insert-clause-kept g c = record {
  sound = λ sound.
      let xs = c.args.places.now.entries in
      let entry = c.entry_of-entry.result in
      let made = c.args.self.now.table.made in
      let made' = c.accept_at-taken.new.table.made in
      let is = key_made entry.base c.in-Some.door_key (sym c.made_key.ensures ∙ c.in-Some.is) in
      let only = subst (λ b. OnlyAt b made made') (sym is) (call_keeps made made' c.in-Some.door_key _ c.accept_at-taken.ensures.door) in
      let listed = c.list.ensures.sound xs c.entry_of-entry.ensures.own (sound_but_still xs entry.place entry made made' c.args.self.now.listed c.entry_of-entry.ensures.own only sound) in
      c.mark-in-Failed-insert.ensures.sound (but_of c.mark-in-Failed-insert.new.places.entries entry.place c.insert.new.self.table.made c.insert.new.self.listed (sound_armed c.insert.new.places.entries c.mark-in-Failed-insert.new.places.entries entry.place ToRead c.insert.new.self.table.made c.insert.new.self.listed c.mark-in-Failed-insert.ensures.marks.set (c.insert.ensures.kept.sound listed)));
  one_more = search rules;
  parents = search rules;
}

pub returns-in-Memory-insert-clause-kept : goal.returns-in-Memory-insert-clause-kept
returns-in-Memory-insert-clause-kept g c = record {
  sound = λ sound.
      let xs = c.args.places.now.entries in
      let entry = c.entry_of-entry.result in
      let made = c.args.self.now.table.made in
      let made' = c.accept_at-taken.new.table.made in
      let is = key_made entry.base c.in-Some.door_key (sym c.made_key.ensures ∙ c.in-Some.is) in
      let only = subst (λ b. OnlyAt b made made') (sym is) (call_keeps made made' c.in-Some.door_key _ c.accept_at-taken.ensures.door) in
      let listed = c.list.ensures.sound xs c.entry_of-entry.ensures.own (sound_but_still xs entry.place entry made made' c.args.self.now.listed c.entry_of-entry.ensures.own only sound) in
      c.insert.ensures.kept.sound listed;
  one_more = search rules;
  parents = search rules;
}

pub returns-in-NoPeer-clause-kept : goal.returns-in-NoPeer-clause-kept
returns-in-NoPeer-clause-kept g c = record {
  sound = λ sound.
      let xs = c.args.places.now.entries in
      let entry = c.entry_of-entry.result in
      let made = c.args.self.now.table.made in
      let made' = c.accept_at-taken.new.table.made in
      let is = key_made entry.base c.in-Some.door_key (sym c.made_key.ensures ∙ c.in-Some.is) in
      let only = subst (λ b. OnlyAt b made made') (sym is) (call_keeps made made' c.in-Some.door_key _ c.accept_at-taken.ensures.door) in
      let listed = c.list.ensures.sound xs c.entry_of-entry.ensures.own (sound_but_still xs entry.place entry made made' c.args.self.now.listed c.entry_of-entry.ensures.own only sound) in
      c.mark-in-NoPeer.ensures.sound (sound_marked xs c.mark-in-NoPeer.new.places.entries entry.place entry ToRead true c.list.new.self.table.made c.list.new.self.table.made c.list.new.self.listed c.entry_of-entry.ensures.own c.mark-in-NoPeer.ensures.marks.set (same_keeps entry.base c.list.new.self.table.made c.list.new.self.table.made (λ key. refl)) listed);
  one_more = search rules;
  parents = search rules;
}

pub returns-in-Failed-clause-kept : goal.returns-in-Failed-clause-kept
returns-in-Failed-clause-kept g c = record {
  sound = λ sound.
      let xs = c.args.places.now.entries in
      let entry = c.entry_of-entry.result in
      let made = c.args.self.now.table.made in
      let made' = c.accept_at-taken.new.table.made in
      let is = key_made entry.base c.in-Some.door_key (sym c.made_key.ensures ∙ c.in-Some.is) in
      let only = subst (λ b. OnlyAt b made made') (sym is) (call_keeps made made' c.in-Some.door_key _ c.accept_at-taken.ensures.door) in
      let listed = c.list.ensures.sound xs c.entry_of-entry.ensures.own (sound_but_still xs entry.place entry made made' c.args.self.now.listed c.entry_of-entry.ensures.own only sound) in
      c.mark-in-Failed.ensures.sound (sound_marked xs c.mark-in-Failed.new.places.entries entry.place entry ToRead false c.list.new.self.table.made c.list.new.self.table.made c.list.new.self.listed c.entry_of-entry.ensures.own c.mark-in-Failed.ensures.marks.set (same_keeps entry.base c.list.new.self.table.made c.list.new.self.table.made (λ key. refl)) listed);
  one_more = search rules;
  parents = search rules;
}

pub returns-in-Memory-clause-kept : goal.returns-in-Memory-clause-kept
returns-in-Memory-clause-kept g c = record {
  sound = λ sound.
      let xs = c.args.places.now.entries in
      let entry = c.entry_of-entry.result in
      let made = c.args.self.now.table.made in
      let made' = c.accept_at-taken.new.table.made in
      let is = key_made entry.base c.in-Some.door_key (sym c.made_key.ensures ∙ c.in-Some.is) in
      let only = subst (λ b. OnlyAt b made made') (sym is) (call_keeps made made' c.in-Some.door_key _ c.accept_at-taken.ensures.door) in
      let listed = c.list.ensures.sound xs c.entry_of-entry.ensures.own (sound_but_still xs entry.place entry made made' c.args.self.now.listed c.entry_of-entry.ensures.own only sound) in
      listed;
  one_more = search rules;
  parents = search rules;
}

pub returns-in-Opened-clause-ports : goal.returns-in-Opened-clause-ports
returns-in-Opened-clause-ports g c =
    let xs = c.args.places.now.entries in
    let entry = c.entry_of-entry.result in
    let is = key_made entry.base c.in-Some.door_key (sym c.made_key.ensures ∙ c.in-Some.is) in
    rw (c.mark.ensures.rest.maker, c.insert.ensures.maker, c.list.ensures.rest.maker, c.mark.ensures.rest.table)
    (at_base xs c.args.door entry _ c.entry_of-entry.ensures.found
    (at_made entry.base c.in-Some.door_key _ _ is (
      c.accept_at-taken.new.table.made,
      c.accept_at-taken.ensures.door,
      more_based _ _ c.args.place (base_at c.insert.new.places.entries c.args.place) (base_at c.mark.new.places.entries c.args.place) c.accept_at-taken.new.table.made c.insert.new.self.table.made (c.mark.ensures.marks.standing c.args.place)
          (accepts_given (g.M.Maker.accepts c.args.self.now.maker c.accept_at-taken.new.maker) _ c.in-Came.port c.in-Came.peer c.args.place _ _ _ (c.in-Came.ensures.made (λ e. absurd cc)) (rw c.list.ensures.rest.table at c.in-Opened.ensures.made)),
    )))

pub returns-in-Failed-insert-clause-ports : goal.returns-in-Failed-insert-clause-ports
returns-in-Failed-insert-clause-ports g c =
    let xs = c.args.places.now.entries in
    let entry = c.entry_of-entry.result in
    let is = key_made entry.base c.in-Some.door_key (sym c.made_key.ensures ∙ c.in-Some.is) in
    at_base xs c.args.door entry _ c.entry_of-entry.ensures.found
    (at_made entry.base c.in-Some.door_key _ _ is
    (rw c.mark-in-Failed-insert.ensures.rest.table (call_then c.args.self.now.table.made c.accept_at-taken.new.table.made c.insert.new.self.table.made c.in-Some.door_key _ c.accept_at-taken.ensures.door (rw c.list.ensures.rest.table at c.in-Failed-insert.ensures.made))))

pub returns-in-Memory-insert-clause-ports : goal.returns-in-Memory-insert-clause-ports
returns-in-Memory-insert-clause-ports g c =
    let xs = c.args.places.now.entries in
    let entry = c.entry_of-entry.result in
    let is = key_made entry.base c.in-Some.door_key (sym c.made_key.ensures ∙ c.in-Some.is) in
    at_base xs c.args.door entry _ c.entry_of-entry.ensures.found
    (at_made entry.base c.in-Some.door_key _ _ is
    (call_then c.args.self.now.table.made c.accept_at-taken.new.table.made c.insert.new.self.table.made c.in-Some.door_key _ c.accept_at-taken.ensures.door (rw c.list.ensures.rest.table at c.in-Memory-insert.ensures.made)))

pub returns-in-Failed-insert-clause-cause : goal.returns-in-Failed-insert-clause-cause
returns-in-Failed-insert-clause-cause g c =
    rw (c.mark-in-Failed-insert.ensures.rest.maker, c.insert.ensures.maker, c.list.ensures.rest.maker) (inr (record { made = c.in-Came.port; given = (c.in-Came.peer, c.in-Came.ensures.made (λ e. absurd cc)); fails = c.in-Failed-insert.ensures.cause refl }))

pub returns-in-Failed-insert-clause-held : goal.returns-in-Failed-insert-clause-held
returns-in-Failed-insert-clause-held g c = λ p. c.mark-in-Failed-insert.ensures.marks.held p ∙ still_free (hold_at c.args.places.now.entries) (hold_at c.insert.new.places.entries) c.args.place c.requires.room.free c.in-Failed-insert.ensures.held p

pub returns-in-Opened-clause-marks : goal.returns-in-Opened-clause-marks
returns-in-Opened-clause-marks g c =
    arms_both c.args.door c.args.place (is_disarmed c.args.places.now.entries) (is_disarmed c.insert.new.places.entries) (is_disarmed c.mark.new.places.entries) c.in-Opened.ensures.marks
    (arms_half c.insert.new.places.entries c.mark.new.places.entries c.args.door ToRead (rw c.entry_of-entry.ensures.here at c.mark.ensures.marks.set))

pub returns-in-Failed-insert-clause-marks : goal.returns-in-Failed-insert-clause-marks
returns-in-Failed-insert-clause-marks g c =
    marks_after c.args.door ToRead false (is_disarmed c.args.places.now.entries) (is_disarmed c.insert.new.places.entries) (is_disarmed c.mark-in-Failed-insert.new.places.entries) c.in-Failed-insert.ensures.marks
    (arms_half c.insert.new.places.entries c.mark-in-Failed-insert.new.places.entries c.args.door ToRead (rw c.entry_of-entry.ensures.here at c.mark-in-Failed-insert.ensures.marks.set))

pub returns-in-NoPeer-clause-marks : goal.returns-in-NoPeer-clause-marks
returns-in-NoPeer-clause-marks g c = marks_half c.args.places.now.entries c.mark-in-NoPeer.new.places.entries c.args.door ToRead true (held_slot c.args.places.now.entries c.args.door c.entry_of-entry.result c.entry_of-entry.ensures.found) (rw c.entry_of-entry.ensures.here at c.mark-in-NoPeer.ensures.marks.set)

pub returns-in-Failed-clause-marks : goal.returns-in-Failed-clause-marks
returns-in-Failed-clause-marks g c = arms_half c.args.places.now.entries c.mark-in-Failed.new.places.entries c.args.door ToRead (rw c.entry_of-entry.ensures.here at c.mark-in-Failed.ensures.marks.set)
