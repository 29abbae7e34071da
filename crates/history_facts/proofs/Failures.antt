-- When a try falls due, by the last failure alone.
use Rattle.std.proofs.Common.{◌≡◌, refl, ℕ, ◌+◌, ◌^◌, Bool, true, false, cond, max, List, [], ◌∷◌}
use Rattle.std.specs.Prelude.{Option, Some, None, nat_lt, if◌then◌else◌}
use Rattle.relay_model.specs.Tries.{next_due, moment_of_try}
use Rattle.history_facts.specs.Told.{newest}

pub due_after_none : (interval : ℕ) (failures : List ℕ) → newest failures ≡ None → next_due interval failures ≡ Some 0
due_after_none interval [] e = refl
due_after_none interval (m ∷ ms) e = cc e

pub due_after_some : (interval at : ℕ) (failures : List ℕ) → newest failures ≡ Some at → next_due interval failures ≡ (if nat_lt (moment_of_try interval at) (2 ^ 64) then Some (moment_of_try interval at) else None)
due_after_some interval at [] e = cc e
due_after_some interval at (m ∷ ms) e = cc e
