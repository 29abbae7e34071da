-- How many things are held.
use Rattle.std.proofs.Common.{◌≡◌, ℕ, ◌+◌, ◌&&◌, count_by, add-one, refl, ap}
use Rattle.std.specs.Prelude.{List}
use Rattle.relay_model.specs.declared.commands.Config.{Config}
use Rattle.relay_model.specs.declared.acts.Act.{Act}
use Rattle.relay_model.specs.Choices.{one_more}
use Rattle.relay_model.specs.Configs.{things, has_fork, program_door}
use Rattle.relay_model.specs.History.{held}
use Rattle.relay_model.specs.Sessions.{numbers}
use Rattle.relay_model.specs.Audit.{held_count}
use Rattle.relay_audit.specs.Pasts.{held_below}

pub held_below_more : (c : Config) (past : List Act) (k : ℕ) → held_below c past (k + 1) ≡ count_by (held past) (things c k) + held_below c past k
held_below_more c past k = ap (held_below c past) (add-one k)

pub held_count_is : (c : Config) (past : List Act) → held_count c past ≡ count_by (held past) (things c (numbers c past)) + held_below c past (numbers c past) + one_more (has_fork c && held past program_door) 0
held_count_is c past = refl
