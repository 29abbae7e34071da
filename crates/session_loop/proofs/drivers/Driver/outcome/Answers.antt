use Rattle.session_loop.proofs.Ends.{ends_told}
use Rattle.session_loop.proofs.drivers.Driver.outcome.Goals as goal

pub returns-clause-answer : goal.returns-clause-answer
returns-clause-answer c = λ k n start now past on done.
    let run = on.run in
    ends_told k n past c.args.why c.args.self.now.fault c.args.self.now.made _ run.runnable.alone c.cause_is_told.ensures c.failure_is_blamed.ensures c.held_is_own.ensures c.stop_is_told.ensures run.legal done run.fault run.turned (c.answer.ensures.answer k n past run.stands run.legal)
