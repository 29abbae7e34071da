-- A step along a mask and two addresses.
use Rattle.std.proofs.Common.{◌≡◌, ℕ, ◌+◌, ◌<◌, ◌&&◌, ◌==◌, bit_and, List, length, get_or, drop, add-one, drop-cons}
use Rattle.relay_model.specs.Permits.{is_same_under}

-- what is left from `i` on agrees where the bytes at `i` do, and what is left after them
pub same_under_step : (mask one other : List ℕ) (i : ℕ) → i < length mask → i < length one → i < length other → is_same_under (drop i mask) (drop i one) (drop i other) ≡ (bit_and (get_or one i 0) (get_or mask i 0) == bit_and (get_or other i 0) (get_or mask i 0) && is_same_under (drop (i + 1) mask) (drop (i + 1) one) (drop (i + 1) other))
same_under_step mask one other i in_mask in_one in_other = rw (add-one, drop-cons mask i 0, drop-cons one i 0, drop-cons other i 0)
