-- Up to the end, and what that says in the words of a relay.
use Rattle.std.proofs.Common.{◌≡◌, refl, sym, subst, ◌∙◌, ℕ, ◌-◌, ◌<◌, ◌+◌, List, [], arith}
use Rattle.relay_model.specs.declared.acts.Act.{Act}
use Rattle.relay_model.specs.declared.places.Place.{Place}
use Rattle.relay_model.specs.declared.commands.Config.{Config}
use Rattle.relay_model.specs.Holding.{Free}
use Rattle.exit_status.specs.declared.outcomes.Outcome.{Outcome}
use Rattle.world_trait.specs.Seen.{Seen}
use Rattle.session_loop.specs.Ended.{HasRunEnded, Happened}
use Rattle.event_loop.specs.declared.steps.Step.{Step}
use Rattle.event_loop.specs.declared.steps.Step.TheVariants.{Goes, Over}
use Rattle.event_loop.specs.declared.one.OneSession.{OneSession}
use Rattle.event_loop.specs.declared.many.ManySessions.{ManySessions}
use Rattle.event_loop.specs.declared.courses.LoopCourse.{LoopCourse}
use Rattle.event_loop.specs.declared.courses.LoopCourse.TheVariants.{One, Many}
use Rattle.event_loop.specs.declared.loops.Loop.{Loop}
use Rattle.event_loop.specs.Loops.{Begins, BeginsLoop, Called, CountsWaits, IsCourse, Drives, EndsAll, SameCommand, SomeMany, SomeOne, LoopSomewhere, TurnIs, made_of}
use Rattle.event_loop.proofs.BothRuns.{happened, waits_counted}

-- the runs that led to the beginning go on from here
abbrev pub GoesTo : Seen → Seen → Loop → Loop → Type 0
GoesTo old new before after = (start : Seen) (past : List Act) → Drives start old past before → (since : List Act) × Drives start new since after

pub goes_itself : (now : Seen) (whole : Loop) → GoesTo now now whole whole
goes_itself now whole = λ start past on. (past, on)

pub goes_then : (old mid new : Seen) (one two three : Loop) (step : Step) → step ≡ Goes → GoesTo old mid one two → TurnIs mid new two three step → GoesTo old new one three
goes_then old mid new one two three step e f t = λ start past on.
    let a = f start past on in
    let w = rw e at (t start a.0 a.1) in
    (w.since, w.stands)

pub still_somewhere : (old new : Seen) (before after : Loop) → LoopSomewhere old before → GoesTo old new before after → LoopSomewhere new after
still_somewhere old new before after at f = let o = f at.start at.past at.drives in record { start = at.start; past = o.0; drives = o.1 }

pub same_itself : (whole : Loop) → SameCommand whole whole
same_itself whole = record { config_same = refl; turns_same = refl }

pub same_then : (one two three : Loop) → SameCommand one two → SameCommand two three → SameCommand one three
same_then one two three f g = record { config_same = g.config_same ∙ f.config_same; turns_same = g.turns_same ∙ f.turns_same }

pub ended_on : (old mid new : Seen) (before after last : Loop) (answer : Outcome) → SameCommand before after → GoesTo old mid before after → TurnIs mid new after last (Over answer) → EndsAll old new before answer
ended_on old mid new before after last answer same f t = λ start past on.
    let a = f start past on in
    let w = t start a.0 a.1 in
    record { since = w.since; ended = rw (same.config_same, same.turns_same) at w.ended }

pub fewer_calls : (before after : Loop) → SameCommand before after → (made_of before < before.turns) × (made_of after ≡ made_of before + 1) → after.turns - made_of after < before.turns - made_of before
fewer_calls before after same r = let few = r.0 in let e = r.1 in let t = same.turns_same in omega (arith, few, e, t)

-- a run from the beginning of a loop
pub somewhere_first : (c : Config) (n : ℕ) (now : Seen) (whole : Loop) → BeginsLoop c n whole → ((p : Place) → now.held p ≡ Free) → LoopSomewhere now whole
somewhere_first c n now whole begins free = record { start = now; past = []; drives = begins.begins now free }

pub ended_first : (c : Config) (n : ℕ) (old new : Seen) (whole : Loop) (answer : Outcome) → BeginsLoop c n whole → ((p : Place) → old.held p ≡ Free) → EndsAll old new whole answer → (since : List Act) × HasRunEnded c n old new since answer
ended_first c n old new whole answer begins free all =
    let e = all old [] (begins.begins old free) in
    (e.since, rw (begins.config_is, begins.turns_is) at e.ended)

pub begins_loop : (c : Config) (n : ℕ) (whole : Loop) → whole.config ≡ c → whole.turns ≡ n → Begins c whole.course → BeginsLoop c n whole
begins_loop c n whole e f begins = record { config_is = e; turns_is = f; begins = λ start free. subst (λ (k : Config). IsCourse k whole.turns start start [] whole.course) (sym e) (begins whole.turns start free) }

-- ---- a call of either kind

pub some_one : (now : Seen) (whole : Loop) (one : OneSession) → whole.course ≡ One one → LoopSomewhere now whole → SomeOne whole.config whole.turns now one
some_one now whole one e at = record { start = at.start; past = at.past; is = subst (IsCourse whole.config whole.turns at.start now at.past) e at.drives }

pub some_many : (now : Seen) (whole : Loop) (many : ManySessions) → whole.course ≡ Many many → LoopSomewhere now whole → SomeMany whole.config whole.turns now many
some_many now whole many e at = record { start = at.start; past = at.past; is = subst (IsCourse whole.config whole.turns at.start now at.past) e at.drives }

called_map : (c : Config) (n : ℕ) (start now : Seen) (past : List Act) (P Q : List Act → Type 0) (step : Step) → ((since : List Act) → P since → Q since) → Called c n start now past P step → Called c n start now past Q step
called_map c n start now past P Q Goes f w = record { since = w.since; stands = f w.since w.stands; last = w.last; turned = w.turned }
called_map c n start now past P Q (Over answer) f w = w

pub course_turned : (old new : Seen) (before after : Loop) (x y : LoopCourse) (step : Step) → before.course ≡ x → after.course ≡ y → SameCommand before after → ((start : Seen) (past : List Act) → IsCourse before.config before.turns start old past x → Called before.config before.turns start new past (λ since. IsCourse before.config before.turns start new since y) step) → TurnIs old new before after step
course_turned old new before after x y step e f same t = λ start past on.
    called_map before.config before.turns start new past (λ since. IsCourse before.config before.turns start new since y) (λ since. Drives start new since after) step
    (λ since h. subst (λ (k : Config). IsCourse k after.turns start new since after.course) (sym same.config_same) (subst (λ (m : ℕ). IsCourse before.config m start new since after.course) (sym same.turns_same) (subst (IsCourse before.config before.turns start new since) (sym f) h)))
    (t start past (subst (IsCourse before.config before.turns start old past) e on))

pub waits_of : (old new : Seen) (before after : Loop) (step : Step) → SameCommand before after → LoopSomewhere old before → TurnIs old new before after step → CountsWaits old.waits new.waits step
waits_of old new before after step same at t =
    waits_counted before.config before.turns at.start old new at.past step (λ since. Drives at.start new since after) (happened before.config before.turns at.start old at.past before.course at.drives)
    (λ since h. subst (λ (k : Config). Happened k before.turns at.start new since) same.config_same (subst (λ (m : ℕ). Happened after.config m at.start new since) same.turns_same (happened after.config after.turns at.start new since after.course h)))
    (t at.start at.past at.drives)
