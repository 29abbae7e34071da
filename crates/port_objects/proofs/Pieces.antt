-- Bytes that are handed out piece by piece.
use Rattle.std.proofs.Common.{◌≡◌, ℕ, ◌+◌, List, ◌++◌, take, drop, sym, ap, ◌∙◌}
use Rattle.std.proofs.lemmas.List.{take-append-drop, drop-drop}

-- a piece and what lies behind it
pub split_off : (bytes : List ℕ) (at n : ℕ) → take n (drop at bytes) ++ drop (at + n) bytes ≡ drop at bytes
split_off bytes at n = ap (λ rest. take n (drop at bytes) ++ rest) (sym (drop-drop n at bytes)) ∙ take-append-drop n (drop at bytes)
