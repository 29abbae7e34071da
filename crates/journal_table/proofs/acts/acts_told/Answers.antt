use Rattle.std.proofs.Common.{drop}
use Rattle.history_facts.specs.Pasts.{acts}
use Rattle.journal_table.proofs.Growing.{one_act_more}
use Rattle.journal_table.proofs.acts.acts_told.Goals as goal

pub loop-k-preserved : goal.loop-k-preserved
loop-k-preserved c =
    one_act_more c.args.all.now c.loop-k.k c.loop-k.at c.moment_after-at.result c.index-all-k.result c.loop-k.page c.say_act.new.page c.loop-k.invariant c.loop-k-test.true c.index-all-k.is
    (c.moment_after-at.ensures (acts (drop c.loop-k.k c.args.all.now)) c.loop-k.invariant.at_is) c.in_ok-say_act.ensures
