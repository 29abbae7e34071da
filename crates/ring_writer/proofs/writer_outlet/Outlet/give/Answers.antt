use Rattle.std.proofs.Common.{arith}
use Rattle.ring_writer.proofs.Delivery.{gives, fails, kept_gives, kept_fails, holds_all}
use Rattle.ring_writer.proofs.writer_outlet.Outlet.give.Goals as goal

pub returns-then-failed-clause-delivered : goal.returns-then-failed-clause-delivered
returns-then-failed-clause-delivered g c = λ before given was.
    fails c.args.self.now.faults c.saturating_add-self.result c.args.self.now.sound c.sound_after-self.result c.write_front-count.result.0 before (g.K.Sink.took c.args.self.now.sink) (g.K.Sink.took c.write_front-count.new.sink) given c.args.bytes.now
    was c.write_front-count.ensures.taken c.write_front-count.ensures.bound c.sound_after-self.ensures.first c.sound_after-self.ensures.later (omega arith)

pub returns-clause-delivered : goal.returns-clause-delivered
returns-clause-delivered g c = λ before given was.
    gives c.args.self.now.faults c.args.self.now.sound c.sound_after-self.result c.write_front-count.result.0 before (g.K.Sink.took c.args.self.now.sink) (g.K.Sink.took c.write_front-count.new.sink) given c.args.bytes.now
    was c.write_front-count.ensures.taken (c.write_front-count.ensures.all c.if-failed.false) c.sound_after-self.ensures.first c.sound_after-self.ensures.later

pub returns-then-failed-clause-kept_up : goal.returns-then-failed-clause-kept_up
returns-then-failed-clause-kept_up g c = λ before given short was.
    kept_fails c.args.self.now.faults c.saturating_add-self.result c.write_front-count.result.0 before (g.K.Sink.took c.args.self.now.sink) (g.K.Sink.took c.write_front-count.new.sink) given c.args.bytes.now
    c.write_front-count.ensures.taken c.write_front-count.ensures.bound short c.saturating_add-self.ensures was

pub returns-clause-kept_up : goal.returns-clause-kept_up
returns-clause-kept_up g c = λ before given short was.
    kept_gives c.args.self.now.faults c.write_front-count.result.0 before (g.K.Sink.took c.args.self.now.sink) (g.K.Sink.took c.write_front-count.new.sink) given c.args.bytes.now
    c.write_front-count.ensures.taken (c.write_front-count.ensures.all c.if-failed.false) was

pub returns-then-failed-clause-held : goal.returns-then-failed-clause-held
returns-then-failed-clause-held g c = (c.write_front-count.result.0, c.write_front-count.ensures.bound, c.write_front-count.ensures.held)

pub returns-clause-held : goal.returns-clause-held
returns-clause-held g c = holds_all _ _ c.args.bytes.now c.write_front-count.result.0 (c.write_front-count.ensures.all c.if-failed.false) c.write_front-count.ensures.held
