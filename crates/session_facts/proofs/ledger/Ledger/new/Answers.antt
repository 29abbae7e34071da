use Rattle.session_facts.proofs.ledger.Ledger.new.Goals as goal

pub invariant_of-result : goal.invariant_of-result
invariant_of-result c = rw c.new.ensures.acts (c.new-2.ensures c.new.result.config)
