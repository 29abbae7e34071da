use Rattle.std.proofs.Common.{◌<◌, ◌≤◌, length, arith}
use Rattle.crossbeam_queue.specs.Passes.{view}
use Rattle.ring_queue.specs.Items.{bytes_of}
use Rattle.ring_writer.proofs.Truth.{fails_true, gathered, dropped_too, gathered_up, dropped_up}
use Rattle.ring_writer.proofs.writer_thread.WriterWork.turn.Goals as goal

pub returns-in-On-clause-keeps : goal.returns-in-On-clause-keeps
returns-in-On-clause-keeps g c = λ before faults_before was.
    let took = g.K.Sink.took in
    let outlet = c.give.new.self in
    let taken = (view c.args.self.now.taker).taken in
    let more = (view c.gather-gathered.new.taker).taken in
    let all = (view c.drop_ready-dropped.new.taker).taken in
    let buffer = c.gather-gathered.new.buffer.items in
    let slice = c.as_slice.result.now in
    let failed : 0 < outlet.faults = omega (arith, c.if-give.ensures.seen) in
    let short : length slice ≤ 32768 = omega (arith, c.gather-gathered.ensures.short, c.as_slice.ensures.len) in
    fails_true took g.K.Sink.faults before faults_before c.args.self.now.outlet outlet taken all (view c.args.self.now.sender).sent (view c.complain.new.sender).sent was
    (dropped_too took before outlet more all failed c.drop_ready-dropped.ensures.taken
    (gathered took before outlet taken more buffer slice c.gather-gathered.ensures.taken c.as_slice.ensures.value (c.if-give.ensures.delivered before (bytes_of taken) was.delivered)))
    (dropped_up took before outlet more all c.drop_ready-dropped.ensures.taken
    (gathered_up took before outlet 32768 taken more buffer slice c.gather-gathered.ensures.taken c.as_slice.ensures.value (c.if-give.ensures.kept_up before (bytes_of taken) short was.kept_up)))
    c.if-give.ensures.faults c.if-give.ensures.seen c.complain.ensures.once
