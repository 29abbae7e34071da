-- The moments of a session: when it last moved, when its directions were done, and when its timers fall due.
use Rattle.std.specs.Prelude.{ℕ, ◌+◌, Bool, false, not, ◌&&◌, ◌||◌, nat_lt, nat_le, List, [], ◌∷◌, Option, Some, None, is_some, if◌then◌else◌}
use Rattle.relay_model.specs.declared.places.Way.{Way}
use Rattle.relay_model.specs.declared.places.Way.TheVariants.{LeftToRight, RightToLeft}
use Rattle.relay_model.specs.declared.commands.Config.{Config}
use Rattle.relay_model.specs.declared.acts.Act.{Act}
use Rattle.relay_model.specs.declared.acts.Act.TheVariants.{Opened, Accepted, Read, Wrote}
use Rattle.relay_model.specs.Choices.{or_else}
use Rattle.relay_model.specs.Configs.{input, output, formed, is_place_of}
use Rattle.relay_model.specs.History.{now, shut_at, read_fault_at, write_fault_at}

-- the moment at which a place of the session was last opened or accepted, or bytes were last read or written at one
abbrev pub moved_at : Config → List Act → ℕ → ℕ
moved_at c [] s = 0
moved_at c (Opened q ∷ past) s = if is_place_of c s q then now past else moved_at c past s
moved_at c (Accepted q peer ∷ past) s = if is_place_of c s q then now past else moved_at c past s
moved_at c (Read q bytes ∷ past) s = if is_place_of c s q then now past else moved_at c past s
moved_at c (Wrote q bytes ∷ past) s = if is_place_of c s q then now past else moved_at c past s
moved_at c (act ∷ past) s = moved_at c past s

-- the moment at which the direction passed its end
abbrev pub passed_at : Config → List Act → ℕ → Way → Option ℕ
passed_at c past s w = shut_at past (output c s w)

-- the direction has passed its end
abbrev pub passed : Config → List Act → ℕ → Way → Bool
passed c past s w = is_some (passed_at c past s w)

-- the moment at which a fault broke the direction; only with `-s` does one
abbrev pub broken_at : Config → List Act → ℕ → Way → Option ℕ
broken_at c past s w = if c.sloppy then or_else (read_fault_at past (input c s w)) (write_fault_at past (output c s w)) else None

-- a fault has broken the direction
abbrev pub broken : Config → List Act → ℕ → Way → Bool
broken c past s w = is_some (broken_at c past s w)

-- the moment at which the direction was done: it had passed its end or was broken
abbrev pub done_at : Config → List Act → ℕ → Way → Option ℕ
done_at c past s w = or_else (passed_at c past s w) (broken_at c past s w)

-- the direction is done
abbrev pub done : Config → List Act → ℕ → Way → Bool
done c past s w = is_some (done_at c past s w)

-- where exactly one of two directions is done, the moment that lies so much later
abbrev pub after_one : ℕ → Option ℕ → Option ℕ → Option ℕ
after_one closing (Some one) None = Some (one + closing)
after_one closing None (Some other) = Some (other + closing)
after_one closing (Some one) (Some other) = None
after_one closing None None = None

-- when the closing time ends, after the first done direction of two
abbrev pub closing_moment : Config → List Act → ℕ → Option ℕ
closing_moment c past s =
    if formed c LeftToRight && formed c RightToLeft
    then after_one c.closing (done_at c past s LeftToRight) (done_at c past s RightToLeft)
    else None

-- whether some formed direction isn't done
abbrev pub is_unfinished : Config → List Act → ℕ → Bool
is_unfinished c past s = formed c LeftToRight && not (done c past s LeftToRight) || formed c RightToLeft && not (done c past s RightToLeft)

-- when inactivity ends the session
abbrev pub idle_moment : Config → List Act → ℕ → Option ℕ
idle_moment c past s = if nat_lt 0 c.idle && is_unfinished c past s then Some (moved_at c past s + c.idle) else None

-- there is such a moment, and it has come
abbrev pub reached : Option ℕ → ℕ → Bool
reached None at = false
reached (Some m) at = nat_le m at
