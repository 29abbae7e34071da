-- What a direction of a session has read, owes and has written.
use Rattle.std.specs.Prelude.{ℕ, ◌-◌, Bool, true, false, not, ◌&&◌, ◌||◌, ◌==◌, List, [], ◌∷◌, ◌++◌, length, drop, if◌then◌else◌}
use Rattle.relay_model.specs.declared.places.Way.{Way}
use Rattle.relay_model.specs.declared.places.Place.{Place}
use Rattle.relay_model.specs.declared.commands.Config.{Config}
use Rattle.relay_model.specs.declared.acts.Act.{Act}
use Rattle.relay_model.specs.declared.acts.Act.TheVariants.{Read}
use Rattle.relay_model.specs.Places.{same_place}
use Rattle.relay_model.specs.Choices.{joined}
use Rattle.relay_model.specs.Configs.{input, output, options_of, keeps_borders}
use Rattle.relay_model.specs.Conversions.{due_of, is_over, read_size, packet_size, packet_cap}
use Rattle.relay_model.specs.History.{got, put, met_end, met_empty}

-- what is to be written of the bytes that a direction reads
abbrev pub due : Config → Way → List ℕ → List ℕ
due c w xs =
    due_of (options_of c (input c 0 w)).conv (options_of c (output c 0 w)).conv
    (options_of c (input c 0 w)).input.readbytes (options_of c (input c 0 w)).input.escape xs

-- what a further piece adds to it
abbrev pub due_part : Config → Way → List ℕ → List ℕ → List ℕ
due_part c w before piece = drop (length (due c w before)) (due c w (before ++ piece))

-- there are no bytes
abbrev pub is_empty : List ℕ → Bool
is_empty [] = true
is_empty (b ∷ bs) = false

-- what is to be written, piece by piece as it was read; a piece that adds nothing is left out
abbrev pub due_pieces : Config → List Act → ℕ → Way → List (List ℕ)
due_pieces c [] s w = []
due_pieces c (Read q bytes ∷ past) s w = with_piece (same_place q (input c s w)) (due_pieces c past s w) (due_part c w (got past (input c s w)) bytes)
  where
    with_piece : Bool → List (List ℕ) → List ℕ → List (List ℕ)
    with_piece here before piece = joined (here && not (is_empty piece)) before (piece ∷ [])
due_pieces c (act ∷ past) s w = due_pieces c past s w

-- the input of a place is over
abbrev pub over : Config → List Act → Place → Bool
over c past p =
    met_end past p && not (options_of c p).input.ignoreeof
    || met_empty past p && (options_of c p).input.null_eof
    || is_over (options_of c p).input.readbytes (options_of c p).input.escape (got past p)

-- how many bytes are due and not yet written
abbrev pub backlog : Config → List Act → ℕ → Way → ℕ
backlog c past s w = length (due c w (got past (input c s w))) - length (put past (output c s w))

-- how many bytes the next read asks for at most
abbrev pub greatest_read : Config → List Act → ℕ → Way → ℕ
greatest_read c past s w =
    if keeps_borders c w
    then packet_size c.block (packet_cap (options_of c (output c 0 w)).conv) (options_of c (input c 0 w)).input.readbytes (length (got past (input c s w))) (backlog c past s w)
    else read_size c.block (options_of c (input c 0 w)).input.readbytes (length (got past (input c s w))) (backlog c past s w)

-- the direction has been read to its end and all was written
abbrev pub is_spent : Config → List Act → ℕ → Way → Bool
is_spent c past s w = over c past (input c s w) && backlog c past s w == 0
