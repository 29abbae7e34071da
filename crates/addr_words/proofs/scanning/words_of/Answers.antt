use Rattle.std.proofs.Common.{◌∙◌, sym, ap, Ok, arith, rules}
use Rattle.addr_words.specs.declared.faults.WordFault.TheVariants.{Unclosed}
use Rattle.addr_words.proofs.Steps.{short_read, over_read, over_clear}
use Rattle.addr_words.proofs.FirstFaults.{fault_stands, read_fault, words_spelled}
use Rattle.addr_words.proofs.scanning.words_of.Goals as goal

pub returns-in_err-at-clause-exact : goal.returns-in_err-at-clause-exact
returns-in_err-at-clause-exact c = search rules

pub returns-in_err-at-clause-fault : goal.returns-in_err-at-clause-fault
returns-in_err-at-clause-fault c = read_fault c.args.text.now c.from_residual.result (returns-in_err-at-clause-exact c)

pub returns-in-Some-clause-exact : goal.returns-in-Some-clause-exact
returns-in-Some-clause-exact c =
    short_read c.args.text.now (omega arith) ∙ over_read c.loop-at.tokens.items c.loop-at.around c.loop-at.at c.in-Some.at c.args.text.now (omega arith) c.loop-at.invariant.read (sym c.in-Some.ensures)

pub returns-in-Some-clause-fault : goal.returns-in-Some-clause-fault
returns-in-Some-clause-fault c = fault_stands c.args.text.now (Unclosed c.in-Some.at) (returns-in-Some-clause-exact c)

pub returns-in-None-clause-exact : goal.returns-in-None-clause-exact
returns-in-None-clause-exact c = short_read c.args.text.now (omega arith) ∙ over_clear c.loop-at.tokens.items c.loop-at.around c.loop-at.at c.args.text.now (omega arith) c.loop-at.invariant.read (sym c.in-None.ensures) ∙ ap Ok (sym c.of.ensures)

pub returns-in-None-clause-spelled : goal.returns-in-None-clause-spelled
returns-in-None-clause-spelled c = words_spelled c.args.text.now _ (returns-in-None-clause-exact c)
