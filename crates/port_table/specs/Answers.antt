-- What the answers of ports say.
use Rattle.std.specs.Prelude.{◌≡◌, ℕ, ◌≤◌, ◌<◌, Bool, true, false, List, length, take, Option, None, Some, ⊤}
use Rattle.port_trait.specs.{Adds, Got, Took}
use Rattle.port_trait.specs.declared.answers.Got.TheVariants as gots
use Rattle.port_trait.specs.declared.answers.Took.TheVariants as tooks

-- a read found nothing yet
abbrev pub is_got_not_yet : Got → Bool
is_got_not_yet (gots.Bytes n) = false
is_got_not_yet gots.Empty = false
is_got_not_yet gots.End = false
is_got_not_yet gots.NotYet = true
is_got_not_yet gots.Failed = false

-- a write found no room yet
abbrev pub is_took_not_yet : Took → Bool
is_took_not_yet (tooks.Took n) = false
is_took_not_yet tooks.NotYet = true
is_took_not_yet tooks.Failed = false

-- some bytes, and no more than there is room for
abbrev pub GotFits : ℕ → Got → Type 0
GotFits room (gots.Bytes n) = (0 < n) × (n ≤ room)
GotFits room gots.Empty = ⊤
GotFits room gots.End = ⊤
GotFits room gots.NotYet = ⊤
GotFits room gots.Failed = ⊤

-- some bytes, and no more than were handed in
abbrev pub TookFits : ℕ → Took → Type 0
TookFits count (tooks.Took n) = (0 < n) × (n ≤ count)
TookFits count tooks.NotYet = ⊤
TookFits count tooks.Failed = ⊤

-- what standard error took of a note: all of it, a front of it where that failed, or nothing where there was no memory
abbrev pub SaidSo : Option Took → Option (List ℕ) → Option (List ℕ) → List ℕ → Type 0
SaidSo None before now text = now ≡ before
SaidSo (Some (tooks.Took n)) before now text = Adds before now text
SaidSo (Some tooks.NotYet) before now text = ⊥
SaidSo (Some tooks.Failed) before now text = (n : ℕ) × (n ≤ length text) × Adds before now (take n text)

-- a text could not be told
abbrev pub is_unsaid : Option Took → Bool
is_unsaid None = false
is_unsaid (Some (tooks.Took n)) = false
is_unsaid (Some tooks.NotYet) = true
is_unsaid (Some tooks.Failed) = true
