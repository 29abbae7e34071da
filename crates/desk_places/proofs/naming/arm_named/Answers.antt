use Rattle.std.proofs.Common.{refl, sym, ap, option_map, false, ◌∙◌, arith}
use Rattle.desk_places.specs.PlaceTables.{entry_at, with_half}
use Rattle.desk_places.proofs.EntryLemmas.{entry_stays}
use Rattle.desk_places.proofs.SoundLemmas.{sound_armed}
use Rattle.desk_places.proofs.TurnLemmas.{armed_all, armed_first, armed_more}
use Rattle.desk_places.proofs.naming.arm_named.Goals.{in-Some, in_default}
use Rattle.desk_places.proofs.naming.arm_named.Goals as goal

pub loop-i-init : goal.loop-i-init
loop-i-init c = record {
  armed = armed_first c.args.places.now.entries c.args.ready.now.entries;
  held = λ p. refl;
  standing = λ p. refl;
  sound = λ made listed h. h;
  len = refl;
}

pub loop-i-preserved : goal.loop-i-preserved
loop-i-preserved c =
    let first = c.args.places.now.entries in
    let xs = c.loop-i.places.entries in
    let ready = c.args.ready.now.entries in
    let named = c.get-named.result in
    let before = c.loop-i.invariant in
    elim c.match-find.branch [
      | in-Some w ↦
          let ys = w.mark.new.self.entries in
          let sets = rw w.in-Some.ensures.here at w.mark.ensures.marks.set in
          rw w.places-is (record {
            armed = armed_more first xs ys ready c.loop-i.i named c.get-named.ensures sets before.armed;
            held = λ p. w.mark.ensures.marks.held p ∙ before.held p;
            standing = λ p. w.mark.ensures.marks.standing p ∙ before.standing p;
            sound = λ made listed h. sound_armed xs ys named.place named.half made listed sets (before.sound made listed h);
            len = w.mark.ensures.marks.len ∙ before.len;
          })
      | in_default w ↦
          let none = sym c.find.ensures.value ∙ w.in_default.is in
          rw w.places-is (record {
            armed = armed_more first xs xs ready c.loop-i.i named c.get-named.ensures (entry_stays named.place _ (entry_at xs) (none ∙ sym (ap (option_map (with_half named.half false)) none))) before.armed;
            held = before.held;
            standing = before.standing;
            sound = before.sound;
            len = before.len;
          })
    ]

pub returns-clause-armed : goal.returns-clause-armed
returns-clause-armed c = armed_all c.args.places.now.entries c.loop-i.places.entries c.args.ready.now.entries c.loop-i.i (omega (arith, c.loop-i-test.false, c.len-i-end.ensures.len)) c.loop-i.invariant.armed
