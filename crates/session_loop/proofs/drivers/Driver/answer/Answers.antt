use Rattle.session_loop.proofs.Tellings.{can_tell}
use Rattle.session_loop.proofs.drivers.Driver.answer.Goals as goal

pub outcome_for-requires : goal.outcome_for-requires
outcome_for-requires c =
    let d = c.requires in
    let run = d.course.run in
    can_tell d.c d.n d.past c.args.why c.failed_listening-listening.result c.failed_opening-opening.result c.args.self.now.fault c.args.self.now.made run.runnable.alone c.failure_is_blamed.ensures run.legal d.done
    (c.failed_listening-listening.ensures d.c d.n d.past 0 run.stands run.legal) (c.failed_opening-opening.ensures d.c d.n d.past 0 run.stands run.legal) run.fault

pub returns-clause-answer : goal.returns-clause-answer
returns-clause-answer c = λ k n past stands legal. record {
  listening = c.failed_listening-listening.result;
  opening = c.failed_opening-opening.result;
  listening_is = c.failed_listening-listening.ensures k n past 0 stands legal;
  opening_is = c.failed_opening-opening.ensures k n past 0 stands legal;
  answer_is = c.outcome_for.ensures.answer;
}
