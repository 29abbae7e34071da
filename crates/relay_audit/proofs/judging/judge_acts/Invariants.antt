use Rattle.std.proofs.Common.{◌≡◌, length}
use Rattle.std.proofs.Common.{◌≤◌, drop}
use Rattle.relay_model.specs.Audit.{first_illegal}
use Rattle.history_facts.specs.Pasts.{acts}
use Rattle.relay_audit.proofs.judging.judge_acts.Given as goal

abbrev pub invariant-loop-k : goal.invariant-loop-k
invariant-loop-k l = (first_illegal l.config l.limit l.past.acts ≡ 0) × (l.past.acts ≡ acts (drop l.k l.all)) × (l.past.config ≡ l.config) × (l.k ≤ length l.all)

abbrev pub decreases-loop-k : goal.decreases-loop-k
decreases-loop-k l = l.k
