-- Which halves a port may hint at until the next call on it.
use Rattle.std.specs.Prelude.{◌≡◌, true, false}
use Rattle.port_trait.specs.declared.answers.Hint.{Hint}

-- a hint at nothing
abbrev pub no_hint : Hint
no_hint = record { readable = false; writable = false }

-- a hint at both halves
abbrev pub all_hints : Hint
all_hints = record { readable = true; writable = true }

-- a hint only at halves that may be hinted
pub record IsWithin (may hint : Hint) : Type 0 where
  pub readable : hint.readable ≡ true → may.readable ≡ true
  pub writable : hint.writable ≡ true → may.writable ≡ true
