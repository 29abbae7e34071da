-- What a plan says, against the definitions of a further try.
use Rattle.std.proofs.Common.{◌≡◌, ℕ, ◌^◌, ◌-◌, Bool, true, false, ◌&&◌, not, ◌==◌, nat_lt, nat_le, List, [], ◌∷◌, Option, Some, None, if◌then◌else◌, refl, arith}
use Rattle.std.proofs.lemmas.Bool.Decides.{nat_tests}
use Rattle.relay_model.specs.Tries.{is_out_of_tries, next_due}
use Rattle.relay_model.specs.Openings.{when_due}
use Rattle.relay_model.specs.declared.calls.Call.{Call}
use Rattle.relay_model.specs.declared.calls.Call.TheVariants.{Nothing}
use Rattle.retry_plan.specs.declared.NextTry.TheVariants.{GiveUp}
use Rattle.retry_plan.specs.Plans.{next_try, at_or_never, attempts_of}
use Rattle.place_openings.specs.Tried.{try_call, call_by, is_end_of_tries}

and_false : (a : Bool) → (a && false) ≡ false
and_false true = refl
and_false false = refl

not_below_zero : (n : ℕ) → nat_lt n 0 ≡ false
not_below_zero n = grind (arith, nat_tests)

-- with no failure there are tries left
pub some_left : (retry : ℕ) (forever : Bool) → is_out_of_tries retry forever [] ≡ false
some_left retry forever = rw (not_below_zero retry) (and_false (not forever && not (retry == 2 ^ 64 - 1)))

zero_below : (n : ℕ) → nat_le 0 n ≡ true
zero_below n = grind (arith, nat_tests)

by_due : (due : Option ℕ) (at : ℕ) (wanted : Call) → call_by at wanted (at_or_never due) ≡ when_due at due wanted
by_due None at wanted = refl
by_due (Some m) at wanted = refl

by_end : (b : Bool) (attempts : ℕ) (due : Option ℕ) (at : ℕ) (wanted : Call) → call_by at wanted (if b then GiveUp attempts else at_or_never due) ≡ (if b then Nothing else when_due at due wanted)
by_end true attempts due at wanted = refl
by_end false attempts due at wanted = by_due due at wanted

-- what a plan says of the next try, as a call
pub by_plan : (retry : ℕ) (forever : Bool) (interval : ℕ) (failures : List ℕ) (at : ℕ) (wanted : Call) → call_by at wanted (next_try retry forever interval failures) ≡ try_call retry forever interval failures at wanted
by_plan retry forever interval [] at wanted = rw (some_left retry forever, zero_below at) refl
by_plan retry forever interval (f ∷ fs) at wanted =
    by_end (is_out_of_tries retry forever (f ∷ fs)) (attempts_of (f ∷ fs)) (next_due interval (f ∷ fs)) at wanted

not_by_due : (due : Option ℕ) → is_end_of_tries (at_or_never due) ≡ false
not_by_due None = refl
not_by_due (Some m) = refl

end_by : (b : Bool) (attempts : ℕ) (due : Option ℕ) → is_end_of_tries (if b then GiveUp attempts else at_or_never due) ≡ b
end_by true attempts due = refl
end_by false attempts due = not_by_due due

-- a plan gives up where no try is left
pub gives_up : (retry : ℕ) (forever : Bool) (interval : ℕ) (failures : List ℕ) → is_end_of_tries (next_try retry forever interval failures) ≡ is_out_of_tries retry forever failures
gives_up retry forever interval [] = rw (some_left retry forever) refl
gives_up retry forever interval (f ∷ fs) =
    end_by (is_out_of_tries retry forever (f ∷ fs)) (attempts_of (f ∷ fs)) (next_due interval (f ∷ fs))
