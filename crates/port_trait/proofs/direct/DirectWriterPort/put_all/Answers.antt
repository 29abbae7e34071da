use Rattle.port_trait.proofs.Contents.{holds_all}
use Rattle.port_trait.proofs.direct.DirectWriterPort.put_all.Goals as goal

pub returns-then-failed-clause-sink : goal.returns-then-failed-clause-sink
returns-then-failed-clause-sink g c = rw (← c.self.view_is) (c.write_front-count.result.0, c.write_front-count.ensures.bound, c.write_front-count.ensures.taken)

pub returns-then-failed-clause-held : goal.returns-then-failed-clause-held
returns-then-failed-clause-held g c = rw (← c.self.view_is) (c.write_front-count.result.0, c.write_front-count.ensures.bound, c.write_front-count.ensures.held)

pub returns-clause-held : goal.returns-clause-held
returns-clause-held g c = rw (← c.self.view_is) (c.write_front-count.ensures.all c.if-failed.false, holds_all _ _ c.args.bytes.now c.write_front-count.result.0 (c.write_front-count.ensures.all c.if-failed.false) c.write_front-count.ensures.held)
