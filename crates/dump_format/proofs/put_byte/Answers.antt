use Rattle.std.proofs.Common.{arith}
use Rattle.dump_format.proofs.Pieces.{piece_front}
use Rattle.dump_format.proofs.put_byte.Goals as goal

pub returns-clause-shown : goal.returns-clause-shown
returns-clause-shown c =
    let few = c.shown_of-shown.ensures.few in
    let whole = c.shown_of-shown.ensures.whole in
    let room = c.requires in
    piece_front c.args.at c.shown_of-shown.result.length c.args.into.now c.put.new.into c.shown_of-shown.result.spelled _ (omega (arith, room)) (omega (arith, few, whole)) c.put.ensures.front c.shown_of-shown.ensures.shown
