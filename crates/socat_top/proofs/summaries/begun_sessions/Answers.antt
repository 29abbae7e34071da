use Rattle.std.proofs.Common.{true, false, sym, ap, ◌∙◌, arith, add-one}
use Rattle.relay_model.specs.Choices.{one_more}
use Rattle.socat_top.proofs.OldestLemmas.{admitted-older}
use Rattle.socat_top.proofs.summaries.begun_sessions.Goals as goal
use Rattle.socat_top.proofs.summaries.begun_sessions.Goals.{then-is_admission, else-is_admission}

pub loop-i-preserved : goal.loop-i-preserved
loop-i-preserved c =
    let acts = c.args.journal.now.acts in
    let i = c.loop-i.i in
    elim c.if-is_admission.branch [
      | then-is_admission w ↦ record {
        counted = w.count-is ∙ add-one c.loop-i.count ∙ ap (one_more true) c.loop-i.invariant.counted ∙ sym (admitted-older acts i c.get.result.now true (omega arith) c.get.ensures (sym c.is_admission.ensures ∙ w.if-is_admission.true));
        few = omega (arith, w.count-is);
      }
      | else-is_admission w ↦ record {
        counted = w.count-is ∙ c.loop-i.invariant.counted ∙ sym (admitted-older acts i c.get.result.now false (omega arith) c.get.ensures (sym c.is_admission.ensures ∙ w.if-is_admission.false));
        few = omega (arith, w.count-is);
      }
    ]
