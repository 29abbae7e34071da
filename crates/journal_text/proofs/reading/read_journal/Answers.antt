use Rattle.std.proofs.Common.{◌≡◌, ◌<◌, List, length, None, sym, ap, subst, arith}
use Rattle.std.proofs.lemmas.Grind.{common_steps}
use Rattle.relay_model.specs.declared.acts.Act.{Act}
use Rattle.journal_text.specs.Reading.{line_in}
use Rattle.journal_text.proofs.TextLemmas.{IsRead, one_more, all_read, bad_line, only_acts, no_bad_line, same_bad_line}
use Rattle.journal_text.proofs.reading.read_journal.Goals as goal

pub returns-in-Err-NoAct-clause-fault : goal.returns-in-Err-NoAct-clause-fault
returns-in-Err-NoAct-clause-fault c =
    let none : line_in c.loop-rest.rest.now ≡ None = rw c.in-Err-NoAct.field-0-is at c.in-Err-NoAct.ensures.line in
    let some : 0 < length c.loop-rest.rest.now = grind (arith, common_steps) in
    bad_line c.args.text.now c.loop-rest.journal.acts c.loop-rest.rest.now c.loop-rest.number c.loop-rest.invariant.read some c.loop-rest.invariant.count none

pub returns-in-Err-NoAct-clause-acts : goal.returns-in-Err-NoAct-clause-acts
returns-in-Err-NoAct-clause-acts c =
    let none : line_in c.loop-rest.rest.now ≡ None = rw c.in-Err-NoAct.field-0-is at c.in-Err-NoAct.ensures.line in
    let some : 0 < length c.loop-rest.rest.now = grind (arith, common_steps) in
    let bad = bad_line c.args.text.now c.loop-rest.journal.acts c.loop-rest.rest.now c.loop-rest.number c.loop-rest.invariant.read some c.loop-rest.invariant.count none in
    λ acts good. no_bad_line c.args.text.now acts c.loop-rest.number good bad

pub returns-in-Err-NoAct-clause-line : goal.returns-in-Err-NoAct-clause-line
returns-in-Err-NoAct-clause-line c =
    let none : line_in c.loop-rest.rest.now ≡ None = rw c.in-Err-NoAct.field-0-is at c.in-Err-NoAct.ensures.line in
    let some : 0 < length c.loop-rest.rest.now = grind (arith, common_steps) in
    let bad = bad_line c.args.text.now c.loop-rest.journal.acts c.loop-rest.rest.now c.loop-rest.number c.loop-rest.invariant.read some c.loop-rest.invariant.count none in
    λ number line. same_bad_line c.args.text.now c.loop-rest.number number bad line

pub loop-rest-smaller : goal.loop-rest-smaller
loop-rest-smaller c =
    (one_more c.args.text.now c.loop-rest.journal.acts c.loop-rest.rest.now c.in-Ok.act c.in-Ok.after.now c.loop-rest.invariant.read c.in-Ok.ensures.line).1

pub loop-rest-preserved : goal.loop-rest-preserved
loop-rest-preserved c =
    let more = one_more c.args.text.now c.loop-rest.journal.acts c.loop-rest.rest.now c.in-Ok.act c.in-Ok.after.now c.loop-rest.invariant.read c.in-Ok.ensures.line in
    let acts = c.in_ok-push-in-Ok.ensures.ok in
    record {
      read = subst (λ (x : List Act). IsRead c.args.text.now x c.in-Ok.after.now) (sym acts) more.0;
      count = omega (arith, ap length acts, c.loop-rest.invariant.count);
      bound = omega (arith, more.1, c.loop-rest.invariant.bound);
      room = omega (arith, c.read_line.ensures.room, c.loop-rest.invariant.room);
    }

pub returns-clause-acts : goal.returns-clause-acts
returns-clause-acts c =
    let empty : length c.loop-rest.rest.now ≡ 0 = grind (arith, common_steps) in
    let good = all_read c.args.text.now c.loop-rest.journal.acts c.loop-rest.rest.now c.loop-rest.invariant.read empty in
    only_acts c.args.text.now c.loop-rest.journal.acts good c.loop-rest.invariant.read.copies

pub returns-clause-line : goal.returns-clause-line
returns-clause-line c =
    let empty : length c.loop-rest.rest.now ≡ 0 = grind (arith, common_steps) in
    let good = all_read c.args.text.now c.loop-rest.journal.acts c.loop-rest.rest.now c.loop-rest.invariant.read empty in
    λ number line. no_bad_line c.args.text.now c.loop-rest.journal.acts number good line
