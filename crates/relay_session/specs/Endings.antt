-- What ends a session, by itself or from outside.
use Rattle.std.specs.Prelude.{◌≡◌, ◌⊎◌, ℕ, false, List, [], ◌∷◌, Option, Some, None, if◌then◌else◌}
use Rattle.relay_model.specs.{Config, Act, Why, only_if, or_else, first_some, now, turns, memory_said, stop_said, passed, closing_moment, idle_moment}
use Rattle.relay_model.specs.{reached, ready, cause, closed_why, accept_failed_for, listening_failed, opening_failed, faulted, each_formed}
use Rattle.relay_model.specs.declared.acts.Why.TheVariants as whys
use Rattle.relay_model.specs.Rest.{Rest}

-- nothing from outside and no closing has ended the session
pub record Quiet (c : Config) (past : List Act) (s : ℕ) : Type 0 where
  pub unclosed : closed_why c past s ≡ None
  pub remembered : memory_said past ≡ false
  pub unstopped : stop_said past ≡ false
  pub accepts : accept_failed_for c past s ≡ false

-- no try is left
abbrev pub giving_up : Config → List Act → ℕ → Option Why
giving_up c past s = or_else (only_if (listening_failed c past s) whys.ListenFailed) (only_if (opening_failed c past s) whys.OpenFailed)

-- why a session ends by itself while every place is ready and no fault ends it
abbrev pub cause_when_ready : Config → List Act → ℕ → Option Why
cause_when_ready c past s =
    first_some (only_if (each_formed c (passed c past s)) whys.Finished
    ∷ only_if (reached (closing_moment c past s) (now past)) whys.ClosingTime
    ∷ only_if (reached (idle_moment c past s) (now past)) whys.Idle
    ∷ [])

-- why it ends by itself while tries are left
abbrev pub cause_when_tried : Config → List Act → ℕ → Option Why
cause_when_tried c past s = if faulted c past s then Some whys.Faulted else (if ready c past s then cause_when_ready c past s else None)

-- the cause of a session that nothing outside has ended
abbrev pub cause_by_itself : Config → List Act → ℕ → Option Why
cause_by_itself c past s = or_else (giving_up c past s) (cause_when_tried c past s)

-- a session may end for this reason: it has it as its cause, memory is wanting, or the turns are used up
abbrev pub Ends : Config → ℕ → List Act → ℕ → Why → Type 0
Ends c n past s why =
    (cause c past s ≡ Some why) ⊎ (((why ≡ whys.Memory) × (closed_why c past s ≡ None)) ⊎ ((why ≡ whys.Stopped) × (turns past ≡ n) × Rest c past))

-- what the state says of it: nothing has ended the session, or something does
abbrev pub EndingIs : Config → ℕ → List Act → ℕ → Option Why → Type 0
EndingIs c n past s None = Quiet c past s × (cause c past s ≡ None)
EndingIs c n past s (Some why) = Ends c n past s why
