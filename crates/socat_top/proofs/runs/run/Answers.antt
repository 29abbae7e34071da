use Rattle.std.proofs.Common.{◌≡◌, true, is_some, Option, subst, sym, refl, ap, ◌∙◌}
use Rattle.relay_model.specs.Journals.{History}
use Rattle.port_desk.specs.Following.{PassedTold}
use Rattle.port_desk.proofs.FollowLemmas.{unused_passed}
use Rattle.port_table.specs.Endings.{handed}
use Rattle.socat_top.specs.Behind.{told_behind}
use Rattle.socat_top.specs.Headline.{Leaves}
use Rattle.socat_top.specs.Tasks.{task}
use Rattle.socat_top.proofs.Passing.{ends_still, passed_at}
use Rattle.socat_top.proofs.PassedEnds.{nothing, task_ends}
use Rattle.socat_top.proofs.EndsBehind.{task_ends_behind}
use Rattle.socat_top.proofs.BehindLemmas.{behind_back}
use Rattle.socat_top.proofs.runs.run.Goals as goal

pub returns-clause-headline : goal.returns-clause-headline
returns-clause-headline g c = λ before told.
    let told_on : is_some c.follow-outcome.result.1.log.recording.told ≡ true = c.follow-outcome.ensures.tells ∙ ap is_some told in
    let P : Option History → Type 0 = λ t. Leaves (task c.args.words.now) c.args.turns before t c.follow-outcome.result.0 in
    subst P (c.end-standard.ensures.kept told_on) (c.follow-outcome.ensures.headline before told)

pub returns-clause-passed : goal.returns-clause-passed
returns-clause-passed g c = λ before told in_step.
    let told_on : is_some c.follow-outcome.result.1.log.recording.told ≡ true = c.follow-outcome.ensures.tells ∙ ap is_some told in
    let desk = c.args.desk in
    let P : Option History → Type 0 = λ t. PassedTold t desk.ports.table.input.port.gave desk.ports.table.output.port.took desk.ports.table.errors.port.took desk.ports.table.input.port.ended in
    let input = ends_still _ c.follow-outcome.result.1.ports.table.input.port _ _ c.end-standard.ensures.stdin in
    let output = ends_still _ c.follow-outcome.result.1.ports.table.output.port _ _ c.end-standard.ensures.stdout in
    let errors = ends_still _ c.follow-outcome.result.1.ports.table.errors.port _ _ c.end-standard.ensures.stderr in
    passed_at c.follow-outcome.result.1.log.recording.told _ _ _ _ _ _ _ _ _ (c.end-standard.ensures.kept told_on) (c.follow-outcome.ensures.passed (subst P (sym told) in_step)) input.0 output.1 errors.1 input.2

pub returns-clause-ends : goal.returns-clause-ends
returns-clause-ends g c = λ told unused.
    task_ends (task c.args.words.now) c.args.turns _ _ _ _ _ _ (returns-clause-headline g c nothing told) (returns-clause-passed g c nothing told (unused_passed nothing _ _ _ _ refl unused))

pub returns-clause-behind : goal.returns-clause-behind
returns-clause-behind g c = λ told unused.
    let stdin = c.end-standard.result.standard.stdin in
    let stdout = c.end-standard.result.standard.stdout in
    task_ends_behind (task c.args.words.now) _ (g.I.Port.seen (handed stdin)) (g.O.Port.seen (handed stdout)) (told_behind g.I.Port.seen stdin) (told_behind g.O.Port.seen stdout) (returns-clause-ends g c told unused)
    (behind_back g.I.Port.seen stdin c.end-standard.ensures.stdin_behind)
    (behind_back g.O.Port.seen stdout c.end-standard.ensures.stdout_behind)
