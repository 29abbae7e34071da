use Rattle.std.proofs.Common.{◌≡◌, length}
use Rattle.std.specs.Prelude.{option_map}
use Rattle.relay_model.specs.Choices.{or_else}
use Rattle.relay_model.specs.Outcome.{first_fault}
use Rattle.history_facts.specs.Pasts.{acts}
use Rattle.session_facts.proofs.outcome.first_fault.Given as goal

abbrev pub invariant-loop-past : goal.invariant-loop-past
invariant-loop-past l = or_else (first_fault l.config (acts l.past) l.session) l.found ≡ first_fault l.config (acts l.initial.past) l.session

abbrev pub decreases-loop-past : goal.decreases-loop-past
decreases-loop-past l = length l.past
