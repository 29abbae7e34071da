use Rattle.std.proofs.Common.{sym, subst, ◌∙◌}
use Rattle.desk_places.specs.Standing.{IsSoundBut}
use Rattle.desk_places.proofs.EntryLemmas.{marks_armed}
use Rattle.desk_places.proofs.SoundLemmas.{marked_here, marked_place, sound_armed_both}
use Rattle.desk_places.proofs.ports.Ports.mark.Goals as goal

pub returns-then-not-disarmed-clause-sound : goal.returns-then-not-disarmed-clause-sound
returns-then-not-disarmed-clause-sound g c = λ but.
    sound_armed_both c.args.places.now.entries c.args.entry c.args.self.now.table.made c.args.self.now.listed c.requires (sym c.is_armed.ensures ∙ c.if-is_armed.true) but

pub returns-then-not-disarmed-clause-marks : goal.returns-then-not-disarmed-clause-marks
returns-then-not-disarmed-clause-marks g c =
    marks_armed c.args.places.now.entries c.args.entry c.args.half c.args.disarmed c.requires (sym c.is_armed.ensures ∙ c.if-is_armed.true) c.if-not-disarmed.true

pub returns-clause-sound : goal.returns-clause-sound
returns-clause-sound g c = λ but.
    (rw c.mark-marked.ensures.marked at c.list.ensures.sound) c.mark-marked.new.self.entries
    (marked_here c.args.places.now.entries c.mark-marked.new.self.entries c.args.entry c.args.half c.args.disarmed c.requires c.mark-marked.ensures.marks.set)
    (subst (λ p. IsSoundBut p c.mark-marked.new.self.entries c.args.self.now.table.made c.args.self.now.listed) (sym (marked_place c.args.half c.args.disarmed c.args.entry)) but)
