use Rattle.port_desk.proofs.desk.Desk+M+P+I+O+E.new.Goals as goal

pub invariant_of-result-clause-follows : goal.invariant_of-result-clause-follows
invariant_of-result-clause-follows g c = ∣ record { follows = λ never. absurd never } ∣₁
