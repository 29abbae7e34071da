use Rattle.std.proofs.Common.{sym, ap, ◌∙◌}
use Rattle.relay_model.specs.Audit.{may_come, held_count}
use Rattle.relay_audit.proofs.Judged.{one_more_is_illegal, whole_is_legal}
use Rattle.relay_audit.proofs.judging.judge_acts.Goals as goal

pub returns-then-not-branch : goal.returns-then-not-branch
returns-then-not-branch c =
    one_more_is_illegal c.tests_are_right.ensures c.one_test_is_right.ensures c.args.config.now c.args.limit c.args.all.now
    c.loop-k.k c.index-all-k.result c.loop-k.past.acts c.loop-k-test.true c.loop-k.invariant.3 c.index-all-k.is c.loop-k.invariant.1 c.loop-k.invariant.0
    (ap (λ k. may_come k c.args.limit c.loop-k.past.acts c.index-all-k.result.now) (sym c.loop-k.invariant.2) ∙ sym c.in_ok-may_follow.ensures ∙ c.if-not-branch.true)

pub returns : goal.returns
returns c =
    let whole = whole_is_legal c.tests_are_right.ensures c.args.config.now c.args.limit c.args.all.now c.loop-k.k c.loop-k.past.acts c.loop-k-test.false c.loop-k.invariant.1 c.loop-k.invariant.0 in
    (whole.1, c.held_count.ensures ∙ ap (λ k. held_count k c.loop-k.past.acts) c.loop-k.invariant.2 ∙ ap (held_count c.args.config.now) whole.0)
