use Rattle.std.proofs.Common.{drop, length, length-take-le, refl, take_at, ◌∙◌}
use Rattle.crossbeam_queue.specs.Passes.{view}
use Rattle.ring_reader.proofs.Feedings.{turn_works_chunks, turn_loses_chunks, turn_works_end, turn_loses_none, turn_marks_end, turn_works_fault, turn_marks_fault}
use Rattle.ring_reader.proofs.reader_thread.Feeder.turn.Goals as goal

pub returns-in-Bytes-clause-works : goal.returns-in-Bytes-clause-works
returns-in-Bytes-clause-works g c =
    let gives = c.in-Bytes.ensures.gives in
    let whole = take_at c.read.new.into (drop (length c.read.new.into) c.args.self.now.block.bytes.items) c.args.self.now.block.bytes.len (c.read.auto.into ∙ c.as_mut_slice.ensures.len) in
    let sent = rw whole at c.send_front.ensures.sent in
    rw c.send_front.ensures.kept (turn_works_chunks c.send_front.result _ _ _ _ _ _ _ _ _ _ _ _ (view c.args.self.now.items) (view c.send_front.new.self.items) _ _ c.requires.works gives.2 c.in-Bytes.ensures.faults.grew c.in-Bytes.ensures.ends.grew (length-take-le _ _ gives.1) c.send_front.ensures.counted sent)

pub returns-in-Bytes-clause-lost : goal.returns-in-Bytes-clause-lost
returns-in-Bytes-clause-lost g c =
    let whole = take_at c.read.new.into (drop (length c.read.new.into) c.args.self.now.block.bytes.items) c.args.self.now.block.bytes.len (c.read.auto.into ∙ c.as_mut_slice.ensures.len) in
    let sent = rw whole at c.send_front.ensures.sent in
    rw c.send_front.ensures.kept (turn_loses_chunks c.send_front.result _ _ (view c.args.self.now.items) (view c.send_front.new.self.items) _ c.in-Bytes.ensures.rest sent)

pub returns-in-End-clause-works : goal.returns-in-End-clause-works
returns-in-End-clause-works g c =
    rw c.send_mark.ensures.kept (turn_works_end c.send_mark.result _ _ _ _ _ _ _ _ _ _ (view c.args.self.now.items) (view c.send_mark.new.self.items) _ _ c.requires.works c.in-End.ensures.gives.0 c.in-End.ensures.faults.grew (c.in-End.ensures.ends.rose refl) c.send_mark.ensures.sent)

pub returns-in-End-clause-lost : goal.returns-in-End-clause-lost
returns-in-End-clause-lost g c =
    rw c.send_mark.ensures.kept (turn_loses_none c.send_mark.result _ _ (view c.args.self.now.items) (view c.send_mark.new.self.items) _ refl c.in-End.ensures.rest.0 c.send_mark.ensures.sent)

pub returns-in-End-clause-marked : goal.returns-in-End-clause-marked
returns-in-End-clause-marked g c =
    rw c.send_mark.ensures.kept (turn_marks_end c.send_mark.result _ (view c.args.self.now.items) (view c.send_mark.new.self.items) _ c.in-End.ensures.gives.1 c.send_mark.ensures.sent)

pub returns-in-Failed-clause-works : goal.returns-in-Failed-clause-works
returns-in-Failed-clause-works g c =
    rw c.send_mark-in-Failed.ensures.kept (turn_works_fault c.send_mark-in-Failed.result _ _ _ _ _ _ _ _ _ _ (view c.args.self.now.items) (view c.send_mark-in-Failed.new.self.items) _ _ c.requires.works c.in-Failed.ensures.gives (c.in-Failed.ensures.faults.rose refl) c.in-Failed.ensures.ends.grew c.send_mark-in-Failed.ensures.sent)

pub returns-in-Failed-clause-lost : goal.returns-in-Failed-clause-lost
returns-in-Failed-clause-lost g c =
    rw c.send_mark-in-Failed.ensures.kept (turn_loses_none c.send_mark-in-Failed.result _ _ (view c.args.self.now.items) (view c.send_mark-in-Failed.new.self.items) _ refl c.in-Failed.ensures.rest c.send_mark-in-Failed.ensures.sent)

pub returns-in-Failed-clause-marked : goal.returns-in-Failed-clause-marked
returns-in-Failed-clause-marked g c =
    rw c.send_mark-in-Failed.ensures.kept (turn_marks_fault c.send_mark-in-Failed.result _ (view c.args.self.now.items) (view c.send_mark-in-Failed.new.self.items) _ c.send_mark-in-Failed.ensures.sent)
