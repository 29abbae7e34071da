-- By induction on the number of acts that are left out.
use Rattle.std.proofs.Common.{ℕ, zero, suc, List, [], ◌∷◌, drop}
use Rattle.relay_model.specs.declared.commands.Config.{Config}
use Rattle.relay_model.specs.declared.acts.Act.{Act}
use Rattle.relay_model.specs.May.{Legal}
use Rattle.relay_laws.proofs.histories.prefixes_are_legal.Goals as goal

legal_drop : (c : Config) (n k : ℕ) (past : List Act) → Legal c n past → Legal c n (drop k past)
legal_drop c n zero past legal = legal
legal_drop c n (suc k) [] legal = legal
legal_drop c n (suc k) (act ∷ past) legal = legal_drop c n k past legal.1

pub returns : goal.returns
returns c = legal_drop
