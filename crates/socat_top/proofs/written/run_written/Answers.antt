use Rattle.std.proofs.Common.{◌≡◌, [], Some, refl, subst, sym, ◌∙◌}
use Rattle.port_desk.proofs.FollowLemmas.{no_acts, unused_passed}
use Rattle.relay_model.specs.declared.places.Place.{Place}
use Rattle.relay_model.specs.Holding.{Hold, Free}
use Rattle.socat_top.proofs.Asking.{asked_by}
use Rattle.socat_top.proofs.PassedEnds.{acts_of, nothing}
use Rattle.socat_top.proofs.written.run_written.Goals as goal

pub run-shipped-requires : goal.run-shipped-requires
run-shipped-requires g c =
    let P : (Place → Hold) → Type 0 = λ held. (p : Place) → held p ≡ Free in
    record { free = subst P (sym c.keep_history-creation.ensures.begins.held) c.requires.free }

pub returns-clause-headline : goal.returns-clause-headline
returns-clause-headline g c = λ before told.
    let begun : c.keep_history-creation.new.desk.log.recording.told ≡ Some before = c.keep_history-creation.ensures.begins.history ∙ (rw c.in-Some.ensures.flag.0 at told) in
    rw (c.with_saving-2.ensures, c.in-Some.ensures.flag.1) (c.run-shipped.ensures.headline before begun)

pub returns-clause-passed : goal.returns-clause-passed
returns-clause-passed g c = λ before told unused.
    let begun : c.keep_history-creation.new.desk.log.recording.told ≡ Some before = c.keep_history-creation.ensures.begins.history ∙ (rw c.in-Some.ensures.flag.0 at told) in
    let none : before.acts ≡ [] = acts_of nothing before (rw c.in-Some.ensures.flag.0 at told) in
    rw c.with_saving-2.ensures (c.run-shipped.ensures.passed before begun (rw (c.keep_history-creation.ensures.begins.stdin, c.keep_history-creation.ensures.begins.stdout, c.keep_history-creation.ensures.begins.stderr) (unused_passed before _ _ _ _ none unused)))

pub returns-in_default-clause-passed : goal.returns-in_default-clause-passed
returns-in_default-clause-passed g c = λ before told unused.
    let begun : c.args.desk.log.recording.told ≡ Some before = rw c.in_default.ensures.flag.0 at told in
    let none : before.acts ≡ [] = no_acts c.args.desk.log.acted c.args.desk.log.recording.told before c.requires.untouched c.args.desk.log.unacted begun in
    rw c.with_saving.ensures (c.run.ensures.passed before begun (unused_passed before _ _ _ _ none unused))

pub returns-clause-ends : goal.returns-clause-ends
returns-clause-ends g c = λ told unused.
    let begun : c.keep_history-creation.new.desk.log.recording.told ≡ Some nothing = c.keep_history-creation.ensures.begins.history ∙ (rw c.in-Some.ensures.flag.0 at told) in
    rw (c.with_saving-2.ensures, c.in-Some.ensures.flag.1) (c.run-shipped.ensures.ends begun (rw (c.keep_history-creation.ensures.begins.stdin, c.keep_history-creation.ensures.begins.stdout, c.keep_history-creation.ensures.begins.stderr) unused))

pub returns-in_default-clause-ends : goal.returns-in_default-clause-ends
returns-in_default-clause-ends g c = λ told unused. rw (c.with_saving.ensures, c.in_default.ensures.flag.1) (c.run.ensures.ends (rw c.in_default.ensures.flag.0 at told) unused)

pub returns-clause-behind : goal.returns-clause-behind
returns-clause-behind g c = λ told unused.
    let begun : c.keep_history-creation.new.desk.log.recording.told ≡ Some nothing = c.keep_history-creation.ensures.begins.history ∙ (rw c.in-Some.ensures.flag.0 at told) in
    rw (c.with_saving-2.ensures, c.in-Some.ensures.flag.1) (c.run-shipped.ensures.behind begun (rw (c.keep_history-creation.ensures.begins.stdin, c.keep_history-creation.ensures.begins.stdout, c.keep_history-creation.ensures.begins.stderr) unused))

pub returns-in_default-clause-behind : goal.returns-in_default-clause-behind
returns-in_default-clause-behind g c = λ told unused. rw (c.with_saving.ensures, c.in_default.ensures.flag.1) (c.run.ensures.behind (rw c.in_default.ensures.flag.0 at told) unused)

pub returns-clause-tried : goal.returns-clause-tried
returns-clause-tried g c _ =
    rw (c.with_saving-2.ensures, ← c.in-Some.ensures.named) (asked_by g.F.JournalFile.creates g.F.JournalFile.refuses _ _ _ _ _ _ c.create-made.ensures.created c.create-made.ensures.refused (rw (← c.keep_history-creation.ensures.made) c.save-saving.ensures.unmade) (rw (← c.keep_history-creation.ensures.made) c.save-saving.ensures.failed))
