use Rattle.std.proofs.Common.{sym, ◌∙◌, arith}
use Rattle.socat_top.specs.Sums.{finishes}
use Rattle.socat_top.proofs.OldestLemmas.{found-older, not_found-older}
use Rattle.socat_top.proofs.summaries.was_finished.Goals as goal

pub returns-then-finishes : goal.returns-then-finishes
returns-then-finishes c = sym (found-older (λ act. finishes act c.args.session) c.args.journal.now.acts c.loop-i.i c.get.result.now (omega arith) c.get.ensures (sym c.finishes.ensures ∙ c.if-finishes.true))

pub loop-i-preserved : goal.loop-i-preserved
loop-i-preserved c = not_found-older (λ act. finishes act c.args.session) c.args.journal.now.acts c.loop-i.i c.get.result.now (omega arith) c.get.ensures (sym c.finishes.ensures ∙ c.if-finishes.false) c.loop-i.invariant
