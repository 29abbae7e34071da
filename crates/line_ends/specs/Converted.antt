-- Both conversions of a direction, one after the other, and where they change something.
use Rattle.std.specs.Prelude.{◌≡◌, ◌⊎◌, ℕ, ◌<◌, List, length, take, slice_index, Option, None, Some}
use Rattle.relay_model.specs.{read_converted, write_converted}
use Rattle.line_ends.specs.declared.Convs.{Convs}

-- bytes as they were read, converted for reading and then for writing
abbrev pub converted : Convs → List ℕ → List ℕ
converted how xs = write_converted how.write (read_converted how.read xs)

-- what stands before this place is not changed, and a carriage return or a newline stands at it; with no place nothing is changed
abbrev pub IsNextLineEnd : Convs → List ℕ → Option ℕ → Type 0
IsNextLineEnd how xs None = converted how xs ≡ xs
IsNextLineEnd how xs (Some at) =
    (at < length xs) × (converted how (take at xs) ≡ take at xs) × ((slice_index xs at ≡ 13) ⊎ (slice_index xs at ≡ 10))
