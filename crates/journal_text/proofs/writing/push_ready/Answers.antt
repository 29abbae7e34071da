use Rattle.std.proofs.Common.{ℕ, List, ◌+◌, ◌++◌, ◌∙◌, ap, drop}
use Rattle.journal_text.specs.Fields.{entry_text, ready_text}
use Rattle.journal_text.specs.Ranges.{IsPlace}
use Rattle.journal_text.proofs.WritingLemmas.{later, ready_at, each_more}
use Rattle.journal_text.proofs.writing.push_ready.Goals as goal

pub loop-i-preserved : goal.loop-i-preserved
loop-i-preserved c =
    let entries = c.args.ready.now.entries in
    let entry = c.get-in-loop-i.result in
    let more = ready_at c.loop-i.text.items (c.args.text.now.items ++ ready_text entries) entries c.loop-i.i entry c.get-in-loop-i.ensures c.loop-i.invariant.written in
    let text = c.in_ok-push_entry-2.ensures.text ∙ ap (λ (t : List ℕ). t ++ entry_text entry) c.in_ok-push-2.ensures.items in
    record {
      written = ap (λ (t : List ℕ). t ++ later (drop (c.loop-i.i + 1) entries)) text ∙ more;
      each = each_more (λ e. IsPlace e.place) entries c.loop-i.i entry c.get-in-loop-i.ensures c.push_entry-in-loop-i.ensures.range c.loop-i.invariant.each;
    }
