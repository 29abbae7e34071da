-- When an opening or a listening that failed is tried again. The moments of the failures stand newest first.
use Rattle.std.specs.Prelude.{ℕ, ◌+◌, ◌-◌, ◌^◌, Bool, not, ◌&&◌, ◌==◌, nat_lt, max, List, [], ◌∷◌, length, Option, Some, None, if◌then◌else◌}

-- whether no further try may come: the failures are more than `retry`, and neither `forever` nor the
-- greatest `retry` stands for tries without end
abbrev pub is_out_of_tries : ℕ → Bool → List ℕ → Bool
is_out_of_tries retry forever failures = not forever && not (retry == 2 ^ 64 - 1) && nat_lt retry (length failures)

-- the moment of the next try, counted from the last failure: an interval below 1 ms is 1 ms
abbrev pub moment_of_try : ℕ → ℕ → ℕ
moment_of_try interval failed_at = failed_at + max interval 1

-- the moment at which the next try falls due, if it ever does: at once before any failure, and never above
-- the greatest moment
abbrev pub next_due : ℕ → List ℕ → Option ℕ
next_due interval [] = Some 0
next_due interval (failed_at ∷ failures) =
    if nat_lt (moment_of_try interval failed_at) (2 ^ 64)
    then Some (moment_of_try interval failed_at)
    else None
