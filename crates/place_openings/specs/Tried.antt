-- What is said of a further try, from the failures so far.
use Rattle.std.specs.Prelude.{ℕ, Bool, true, false, nat_le, List, if◌then◌else◌}
use Rattle.relay_model.specs.{is_out_of_tries, next_due, when_due, Call}
use Rattle.relay_model.specs.declared.calls.Call.TheVariants.{Nothing, TryAt}
use Rattle.retry_plan.specs.{NextTry}
use Rattle.retry_plan.specs.declared.NextTry.TheVariants.{Now, At, Never, GiveUp}

-- the call that a further try is, once it is due and while tries are left
abbrev pub try_call : ℕ → Bool → ℕ → List ℕ → ℕ → Call → Call
try_call retry forever interval failures at wanted =
    if is_out_of_tries retry forever failures then Nothing else when_due at (next_due interval failures) wanted

-- the call, once it is due by what a plan says of the next try
abbrev pub call_by : ℕ → Call → NextTry → Call
call_by at wanted Now = wanted
call_by at wanted (At due) = if nat_le due at then wanted else TryAt due
call_by at wanted Never = Nothing
call_by at wanted (GiveUp attempts) = Nothing

-- whether a plan gives up
abbrev pub is_end_of_tries : NextTry → Bool
is_end_of_tries Now = false
is_end_of_tries (At due) = false
is_end_of_tries Never = false
is_end_of_tries (GiveUp attempts) = true
