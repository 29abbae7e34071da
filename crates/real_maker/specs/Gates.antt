-- What contracts see of a door's descriptors.
use Rattle.std.specs.Prelude.{◌==◌, ℕ, Bool, true, false, if◌then◌else◌}
use Rattle.port_trait.specs.{Hint}

-- whether its maker keeps descriptors for each of its peers, and how many the last accepting lacked
pub record GateState : Type 0 where
  pub shared : Bool
  pub lacking : ℕ

-- the halves at which a door may hint that lacks so many, where the port beneath may hint these
abbrev pub gate_halves : ℕ → Hint → Hint
gate_halves lacking halves = if lacking == 0 then halves else (record { readable = true; writable = false })
