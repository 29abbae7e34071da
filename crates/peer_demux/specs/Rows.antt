-- What contracts see of a row: the packets of one sender that weren't given yet.
use Rattle.std.specs.Prelude.{◌≡◌, ℕ, ◌+◌, ◌-◌, ◌<◌, ◌≤◌, nat_lt, nat_le, Bool, ◌||◌, List, [], ◌∷◌, length, take, drop, min, slice_index_or, Option, None, Some, if◌then◌else◌}
use Rattle.std.specs.List.{sum_by}
use Rattle.relay_model.specs.{Peer}

-- its number, its peer, the packets that it holds, and how many bytes of the first one were given
pub record RowState : Type 0 where
  pub number : ℕ
  pub peer : Peer
  pub packets : List (List ℕ)
  pub given : ℕ

-- a row of one packet, of which nothing was given
abbrev pub fresh_row : ℕ → Peer → List ℕ → RowState
fresh_row number peer bytes = record { number = number; peer = peer; packets = bytes ∷ []; given = 0 }

-- its first packet
abbrev pub first_packet : List (List ℕ) → List ℕ
first_packet packets = slice_index_or packets 0 []

-- of the first packet bytes are left, unless it has none
abbrev pub IsWithin : List (List ℕ) → ℕ → Type 0
IsWithin packets given = given ≤ length (first_packet packets) - 1

-- how many bytes it holds
abbrev pub held_bytes : RowState → ℕ
held_bytes row = sum_by length row.packets - row.given

-- it holds 64 packets, or its bytes and so many more exceed 65,536
abbrev pub is_full : RowState → ℕ → Bool
is_full row count = nat_le 64 (length row.packets) || nat_lt 65536 (held_bytes row + count)

-- so many bytes were given more, and a packet that was given whole is gone
abbrev pub after_giving : RowState → ℕ → RowState
after_giving row count =
    if nat_lt (row.given + count) (length (first_packet row.packets))
    then record row { given = row.given + count }
    else record row { packets = drop 1 row.packets; given = 0 }

-- the next bytes of the first packet, as many as fit, came into the buffer
pub record GivesPart (before now : RowState) (into : List ℕ) (count : ℕ) : Type 0 where
  pub holds : 0 < length before.packets
  pub fits : count ≡ min (length (first_packet before.packets) - before.given) (length into)
  pub bytes : take count into ≡ take count (drop before.given (first_packet before.packets))
  pub empty : count ≡ 0 → length (first_packet before.packets) ≡ 0
  pub left : now ≡ after_giving before count

-- a row without packets gives none
abbrev pub GivesFirst : RowState → RowState → List ℕ → Option ℕ → Type 0
GivesFirst before now into None = (length before.packets ≡ 0) × (now ≡ before)
GivesFirst before now into (Some count) = GivesPart before now into count
