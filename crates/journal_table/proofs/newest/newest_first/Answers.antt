use Rattle.std.proofs.Common.{◌≤◌, ◌-◌, length, arith}
use Rattle.history_facts.proofs.Lists.{newest_more}
use Rattle.journal_table.proofs.newest.newest_first.Goals as goal

pub loop-k-preserved : goal.loop-k-preserved
loop-k-preserved c =
    let within : c.loop-k.k - 1 ≤ length c.args.journal.now.acts = omega arith in
    (newest_more c.loop-k.past.items c.push.new.self.items c.args.journal.now.acts c.loop-k.k c.get.result c.loop-k-test.true c.loop-k.invariant.1 c.in_ok-push.ensures.items c.loop-k.invariant.0 c.get.ensures, within)
