use Rattle.std.proofs.Common.{◌∙◌, arith}
use Rattle.addr_words.proofs.RoundTrip.{all_written, again}
use Rattle.addr_words.proofs.writing.write_word.Goals as goal

pub returns-clause-again : goal.returns-clause-again
returns-clause-again c =
    let whole = c.deref.ensures.value ∙ all_written c.loop-byte.out.items c.args.bytes.now c.loop-byte.byte-index (omega arith) c.loop-byte.invariant in
    again c.args.bytes.now c.deref.result.now c.of.result whole c.of.ensures
