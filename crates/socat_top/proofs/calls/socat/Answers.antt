use Rattle.socat_top.specs.Tasks.{task}
use Rattle.socat_top.proofs.Endings.{either, lacking, lacking_answers, lacking_completes}
use Rattle.socat_top.proofs.calls.socat.Goals as goal

pub returns-in-Err-Memory-clause-headline : goal.returns-in-Err-Memory-clause-headline
returns-in-Err-Memory-clause-headline g c = λ before told.
    lacking (task c.args.words.now) c.args.turns before (g.W.World.seen c.args.world.now).told (g.W.World.seen c.conclude-in-Err-Memory.new.world).told c.conclude-in-Err-Memory.result
    (either c.conclude-in-Err-Memory.ensures.answer) told c.conclude-in-Err-Memory.ensures.tail

pub returns-in-Err-Memory-clause-answers : goal.returns-in-Err-Memory-clause-answers
returns-in-Err-Memory-clause-answers g c = lacking_answers (task c.args.words.now) c.conclude-in-Err-Memory.result (either c.conclude-in-Err-Memory.ensures.answer)

pub returns-in-Err-Memory-clause-complete : goal.returns-in-Err-Memory-clause-complete
returns-in-Err-Memory-clause-complete g c = lacking_completes (task c.args.words.now) _ _ _ _ _ _ _ c.conclude-in-Err-Memory.result (either c.conclude-in-Err-Memory.ensures.answer)
