-- What the loop reads into has room for a block.
use Rattle.std.proofs.Common.{◌≡◌, ℕ, ◌≤◌, sym, subst}

-- so it has after a call that leaves it as long as it was
pub kept_room : (block n m : ℕ) → block ≤ n → m ≡ n → block ≤ m
kept_room block n m room same = subst (λ (k : ℕ). block ≤ k) (sym same) room
