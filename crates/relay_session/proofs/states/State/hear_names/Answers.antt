use Rattle.std.proofs.Common.{◌≡◌, ◌∙◌, take, length, [], ◌∷◌, false, arith}
use Rattle.std.proofs.Math.Seq.{take-length}
use Rattle.relay_model.specs.declared.acts.Act.TheVariants as acts
use Rattle.relay_session.proofs.Naming.{HasNamed, take_next}
use Rattle.relay_session.proofs.StepLemmas.{ground_step}
use Rattle.session_direction.specs.Directions.{listed}
use Rattle.relay_session.proofs.states.State.hear_names.Goals as goal

pub loop-i-preserved : goal.loop-i-preserved
loop-i-preserved c =
    let before = c.loop-i.invariant in
    let names = take c.loop-i.i c.args.ready.now.entries in
    rw (take_next c.args.ready.now.entries c.loop-i.i c.get-entry.result c.get-entry.ensures) (record {
      openings = λ k past s until at o. c.hear_entry.ensures.goes k past s until at names (before.openings k past s until at o);
      lanes = λ k past s until at l. c.hear_entry-in-loop-i.ensures k past s until at names (before.lanes k past s until at l);
      asked = λ p a. before.asked p (c.hear_entry.ensures.asked p a);
      clock_same = before.clock_same;
      moved_same = before.moved_same;
      faulted_same = before.faulted_same;
      closing_same = before.closing_same;
      idle_same = before.idle_same;
      sloppy_same = before.sloppy_same;
    })

pub returns-clause-goes : goal.returns-clause-goes
returns-clause-goes c =
    let entries = c.args.ready.now.entries in
    let e : c.loop-i.i ≡ length entries = omega arith in
    let named : HasNamed entries c.args.self.now c.loop-i.self = rw (e, take-length entries) at c.loop-i.invariant in
    λ k past s until at g.
    ground_step k (acts.Turn until at (listed []) false ∷ past) (acts.Turn until at (listed entries) false ∷ past) s c.args.self.now c.loop-i.self g g.begun g.home_held
    (named.openings k past s until at g.openings_are)
    (named.lanes k past s until at g.lanes_are)
    (named.clock_same ∙ g.clock_is) (named.moved_same ∙ g.moved_is) (named.faulted_same ∙ g.faulted_is) named.closing_same named.idle_same named.sloppy_same

pub returns-clause-asked : goal.returns-clause-asked
returns-clause-asked c = c.loop-i.invariant.asked
