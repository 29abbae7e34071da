use Rattle.std.proofs.Common.{ℕ, List, ◌+◌, ◌++◌, ◌∙◌, ◌≤◌, ap, sym, reverse, length, drop, arith}
use Rattle.std.proofs.lemmas.Result.{IfOk-weaker}
use Rattle.journal_text.specs.Ranges.{IsAct}
use Rattle.journal_text.proofs.WritingLemmas.{lines_of, line_at, lines_done, spelt_in_order, each_more, each_done, oldest, length-oldest, act_of_oldest}
use Rattle.journal_text.proofs.TextLemmas.{each_in_order}
use Rattle.journal_text.proofs.writing.write_front.Goals as goal

pub loop-i-preserved : goal.loop-i-preserved
loop-i-preserved c =
    let acts = c.args.journal.now.acts in
    let chosen = reverse (oldest c.args.count acts) in
    let here = act_of_oldest c.args.count acts c.loop-i.i c.get.result.now c.requires (omega arith) c.get.ensures in
    let more = line_at c.loop-i.text.items (lines_of chosen) chosen c.loop-i.i c.get.result.now here c.loop-i.invariant.written in
    record {
      written = ap (λ (t : List ℕ). t ++ lines_of (drop (c.loop-i.i + 1) chosen)) c.in_ok-push_line.ensures.text ∙ more;
      each = each_more IsAct chosen c.loop-i.i c.get.result.now here c.in_ok-push_line.ensures.range c.loop-i.invariant.each;
    }

pub returns : goal.returns
returns c =
    let acts = oldest c.args.count c.args.journal.now.acts in
    let past : length (reverse acts) ≤ c.loop-i.i = omega (arith, length-oldest c.args.count c.args.journal.now.acts c.requires) in
    let written = lines_done c.loop-i.text.items (lines_of (reverse acts)) (reverse acts) c.loop-i.i past c.loop-i.invariant.written in
    let each = each_in_order acts (each_done IsAct (reverse acts) c.loop-i.i past c.loop-i.invariant.each) in
    IfOk-weaker c.of.result _ _ (λ text is. record { each = each; spelling = is ∙ c.as_slice.ensures.value ∙ written ∙ sym (spelt_in_order acts) }) c.of.ensures
