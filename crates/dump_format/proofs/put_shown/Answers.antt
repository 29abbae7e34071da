use Rattle.std.proofs.Common.{arith}
use Rattle.dump_format.proofs.Pieces.{line_ended, line_open}
use Rattle.dump_format.proofs.put_shown.Goals as goal

pub returns-then-byte-ne10-clause-shown : goal.returns-then-byte-ne10-clause-shown
returns-then-byte-ne10-clause-shown c =
    let few = c.put_byte-end.ensures.few in
    let room = c.requires in
    let len = c.put_byte-end.ensures.len in
    line_ended c.put_byte-end.result c.args.byte c.put_byte-end.new.into _ _ c.args.is_last c.if-is_last.true c.if-byte-ne10.true (omega (arith, few, room, len)) c.put_byte-end.ensures.shown

pub returns-clause-shown : goal.returns-clause-shown
returns-clause-shown c = line_open c.put_byte-end.result c.args.byte c.put_byte-end.new.into _ _ c.args.is_last c.else-is_last.either c.put_byte-end.ensures.shown
