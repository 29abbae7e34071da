-- What contracts see of the descriptors in reserve.
use Rattle.std.specs.Prelude.{ℕ}

-- how many are held, and how many are to be held before a peer is taken
pub record ReserveState : Type 0 where
  pub held : ℕ
  pub wanted : ℕ
