use Rattle.std.proofs.Common.{refl, ap, subst, ◌∙◌}
use Rattle.relay_model.specs.declared.acts.Act.TheVariants as acts
use Rattle.relay_model.specs.declared.places.Half.TheVariants.{ToRead, ToWrite}
use Rattle.relay_session.specs.States.{Wished}
use Rattle.relay_session.specs.Sessions.{wish_of, has_ended}
use Rattle.relay_session.proofs.Possible.{free_when_done}
use Rattle.session_driver.specs.declared.stepped.Stepped.TheVariants as steps
use Rattle.session_loop.proofs.Going.{faulted_on, meets, rank_heard, unmoved}
use Rattle.session_loop.proofs.Resting.{rests_asleep}
use Rattle.session_loop.proofs.Stepping.{acted_on, fewer_acted, fewer_memory, on_acted, on_idle, on_memory, over_acted, over_memory, plain_step, settled_act, settled_still}
use Rattle.session_loop.proofs.drivers.Driver.step.Goals as goal

pub step_noted-requires-clause-meets : goal.step_noted-requires-clause-meets
step_noted-requires-clause-meets g c = meets c.args.config.now c.requires.course.0 _ c.args.self.now c.requires.course.1

pub returns-in-Acted-clause-course : goal.returns-in-Acted-clause-course
returns-in-Acted-clause-course g c = λ n start past on. on_acted c.args.config.now n start _ _ c.args.self.now _ past on c.in-Acted.ensures.step refl refl

pub returns-in-Acted-clause-fewer : goal.returns-in-Acted-clause-fewer
returns-in-Acted-clause-fewer g c = let at = c.requires.course in rank_heard _ _ _ _ (fewer_acted c.args.config.now at.0 _ _ _ _ _ _ at.1.past at.1.course.run.stands c.in-Acted.ensures.step)

pub returns-in-Acted-clause-over : goal.returns-in-Acted-clause-over
returns-in-Acted-clause-over g c = let at = c.requires.course in λ h. over_acted c.args.config.now at.0 _ _ _ _ _ _ at.1.past at.1.course.run.stands c.in-Acted.ensures.step h

pub returns-in-ReadFailed-clause-course : goal.returns-in-ReadFailed-clause-course
returns-in-ReadFailed-clause-course g c =
    let k = c.args.config.now in
    let s = plain_step k _ _ _ _ _ _ (steps.ReadFailed c.in-ReadFailed.place) refl c.in-ReadFailed.ensures.step in
    λ n start past on.
    acted_on k n start _ _ c.args.self.now _ past _ on s.step.1 refl (faulted_on k past _ _ c.in-ReadFailed.place ToRead _ on.run.fault c.first_of-self.ensures (s.step.0 n past 0 on.run.stands))
    (settled_act k (acts.ReadFault c.in-ReadFailed.place) past _ _ refl s.uncounted on.settled.counted)

pub returns-in-ReadFailed-clause-fewer : goal.returns-in-ReadFailed-clause-fewer
returns-in-ReadFailed-clause-fewer g c =
    let s = plain_step c.args.config.now _ _ _ _ _ _ (steps.ReadFailed c.in-ReadFailed.place) refl c.in-ReadFailed.ensures.step in
    let at = c.requires.course in
    rank_heard _ _ _ _ (s.step.1.heard at.0 at.1.past 0 at.1.course.run.stands).fewer

pub returns-in-ReadFailed-clause-over : goal.returns-in-ReadFailed-clause-over
returns-in-ReadFailed-clause-over g c =
    let s = plain_step c.args.config.now _ _ _ _ _ _ (steps.ReadFailed c.in-ReadFailed.place) refl c.in-ReadFailed.ensures.step in
    let at = c.requires.course in
    λ h. s.step.1.over at.0 at.1.past 0 at.1.course.run.stands h

pub returns-in-WriteFailed-clause-course : goal.returns-in-WriteFailed-clause-course
returns-in-WriteFailed-clause-course g c =
    let k = c.args.config.now in
    let s = plain_step k _ _ _ _ _ _ (steps.WriteFailed c.in-WriteFailed.place) refl c.in-WriteFailed.ensures.step in
    λ n start past on.
    acted_on k n start _ _ c.args.self.now _ past _ on s.step.1 refl (faulted_on k past _ _ c.in-WriteFailed.place ToWrite _ on.run.fault c.first_of-self-in-WriteFailed.ensures (s.step.0 n past 0 on.run.stands))
    (settled_act k (acts.WriteFault c.in-WriteFailed.place) past _ _ refl s.uncounted on.settled.counted)

pub returns-in-WriteFailed-clause-fewer : goal.returns-in-WriteFailed-clause-fewer
returns-in-WriteFailed-clause-fewer g c =
    let s = plain_step c.args.config.now _ _ _ _ _ _ (steps.WriteFailed c.in-WriteFailed.place) refl c.in-WriteFailed.ensures.step in
    let at = c.requires.course in
    rank_heard _ _ _ _ (s.step.1.heard at.0 at.1.past 0 at.1.course.run.stands).fewer

pub returns-in-WriteFailed-clause-over : goal.returns-in-WriteFailed-clause-over
returns-in-WriteFailed-clause-over g c =
    let s = plain_step c.args.config.now _ _ _ _ _ _ (steps.WriteFailed c.in-WriteFailed.place) refl c.in-WriteFailed.ensures.step in
    let at = c.requires.course in
    λ h. s.step.1.over at.0 at.1.past 0 at.1.course.run.stands h

pub returns-in-Childless-clause-course : goal.returns-in-Childless-clause-course
returns-in-Childless-clause-course g c =
    let k = c.args.config.now in
    let s = plain_step k _ _ _ _ _ _ steps.Childless refl c.in-Childless.ensures.step in
    λ n start past on. on_idle k n start _ _ c.args.self.now _ past on s.step.0 refl refl (settled_still k past _ _ s.uncounted on.settled)

pub returns-in-Childless-clause-fewer : goal.returns-in-Childless-clause-fewer
returns-in-Childless-clause-fewer g c =
    let s = plain_step c.args.config.now _ _ _ _ _ _ steps.Childless refl c.in-Childless.ensures.step in
    let at = c.requires.course in
    rank_heard _ _ _ _ (s.step.1 at.0 at.1.past 0 at.1.course.run.stands).0

pub returns-in-Childless-clause-over : goal.returns-in-Childless-clause-over
returns-in-Childless-clause-over g c =
    let s = plain_step c.args.config.now _ _ _ _ _ _ steps.Childless refl c.in-Childless.ensures.step in
    let at = c.requires.course in
    λ h. (s.step.1 at.0 at.1.past 0 at.1.course.run.stands).1 h

pub returns-in-Memory-clause-course : goal.returns-in-Memory-clause-course
returns-in-Memory-clause-course g c = λ n start past on. on_memory c.args.config.now n start _ _ c.args.self.now _ past on c.in-Memory.ensures.step refl refl

pub returns-in-Memory-clause-fewer : goal.returns-in-Memory-clause-fewer
returns-in-Memory-clause-fewer g c = let at = c.requires.course in fewer_memory c.args.config.now at.0 _ _ _ _ _ _ at.1.past at.1.course.run.stands c.in-Memory.ensures.step

pub returns-in-Memory-clause-over : goal.returns-in-Memory-clause-over
returns-in-Memory-clause-over g c = λ h. over_memory c.args.config.now _ _ _ _ _ _ c.in-Memory.ensures.step h

pub returns-in-Sleep-clause-course : goal.returns-in-Sleep-clause-course
returns-in-Sleep-clause-course g c =
    let k = c.args.config.now in
    let s = plain_step k _ _ _ _ _ _ (steps.Sleep c.in-Sleep.until) refl c.in-Sleep.ensures.step in
    λ n start past on. unmoved k n start _ _ c.args.self.now _ past on s.step.0 s.step.1 refl refl (settled_still k past _ _ s.uncounted on.settled)

pub returns-in-Sleep-clause-pause : goal.returns-in-Sleep-clause-pause
returns-in-Sleep-clause-pause g c =
    let s = plain_step c.args.config.now _ _ _ _ _ _ (steps.Sleep c.in-Sleep.until) refl c.in-Sleep.ensures.step in
    (ap wish_of s.step.1 ∙ s.step.2, ap has_ended s.step.1 ∙ s.step.3)

pub returns-in-Sleep-clause-paused : goal.returns-in-Sleep-clause-paused
returns-in-Sleep-clause-paused g c =
    let s = plain_step c.args.config.now _ _ _ _ _ _ (steps.Sleep c.in-Sleep.until) refl c.in-Sleep.ensures.step in
    λ k n past runnable st legal unowed. rests_asleep k n past _ _ _ runnable.alone st.fields st.allowed legal unowed (ap wish_of s.step.1 ∙ s.step.2)

pub returns-in-Sleep-clause-over : goal.returns-in-Sleep-clause-over
returns-in-Sleep-clause-over g c =
    let s = plain_step c.args.config.now _ _ _ _ _ _ (steps.Sleep c.in-Sleep.until) refl c.in-Sleep.ensures.step in
    λ h. ap has_ended s.step.1 ∙ h

pub returns-in-Done-clause-course : goal.returns-in-Done-clause-course
returns-in-Done-clause-course g c =
    let k = c.args.config.now in
    let s = plain_step k _ _ _ _ _ _ (steps.Done c.in-Done.why) refl c.in-Done.ensures.step in
    λ n start past on. unmoved k n start _ _ c.args.self.now _ past on s.step.0 s.step.1 refl refl (settled_still k past _ _ s.uncounted on.settled)

pub returns-in-Done-clause-pause : goal.returns-in-Done-clause-pause
returns-in-Done-clause-pause g c =
    let s = plain_step c.args.config.now _ _ _ _ _ _ (steps.Done c.in-Done.why) refl c.in-Done.ensures.step in
    ap wish_of s.step.1 ∙ s.step.2

pub returns-in-Done-clause-paused : goal.returns-in-Done-clause-paused
returns-in-Done-clause-paused g c =
    let s = plain_step c.args.config.now _ _ _ _ _ _ (steps.Done c.in-Done.why) refl c.in-Done.ensures.step in
    λ k n past runnable st legal unowed.
    let e = ap wish_of s.step.1 ∙ s.step.2 in
    (subst (Wished k n past 0) e st.allowed.0, free_when_done k n past 0 _ _ runnable.alone refl legal st.allowed.0 e)

pub returns-in-Done-clause-over : goal.returns-in-Done-clause-over
returns-in-Done-clause-over g c =
    let s = plain_step c.args.config.now _ _ _ _ _ _ (steps.Done c.in-Done.why) refl c.in-Done.ensures.step in
    λ h. ap has_ended s.step.1 ∙ h
