use Rattle.port_desk.proofs.desk.Desk.with_beginning.Goals as goal

pub invariant_of-result-clause-follows : goal.invariant_of-result-clause-follows
invariant_of-result-clause-follows g c = ∣ c.requires ∣₁
