use Rattle.std.proofs.Common.{ap, sym, ◌∙◌}
use Rattle.std.specs.Prelude.{Some}
use Rattle.child_ports.proofs.Words.{runs_more, unreadable_at}
use Rattle.child_ports.proofs.start.command_of_words.Goals as goal

pub loop-i-preserved : goal.loop-i-preserved
loop-i-preserved c = runs_more c.args.words.now c.loop-i.i c.loop-i.command c.add_argument.new.command c.in-Ok-from_utf8.word.now c.loop-i.invariant (c.get-in-loop-i.ensures ∙ ap Some (sym (c.in-Ok-from_utf8.ensures.cases.0 ∙ c.as_slice-in-loop-i.ensures))) c.in_ok-add_argument.ensures

pub returns-in_default : goal.returns-in_default
returns-in_default c = unreadable_at c.args.words.now 0 c.get.result.now c.as_slice.result.now c.get.ensures c.as_slice.ensures c.in_default.ensures.cases.0

pub returns-in_default-from_utf8 : goal.returns-in_default-from_utf8
returns-in_default-from_utf8 c = unreadable_at c.args.words.now c.loop-i.i c.get-in-loop-i.result.now c.as_slice-in-loop-i.result.now c.get-in-loop-i.ensures c.as_slice-in-loop-i.ensures c.in_default-from_utf8.ensures.cases.0
