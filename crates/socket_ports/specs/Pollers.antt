-- What contracts see of a poller that also takes what comes for peers.
use Rattle.std.specs.Prelude.{◌≡◌, ◌⊎◌, ◌++◌, ℕ, ◌^◌, ◌-◌, ◌==◌, Bool, true, false, List, Option, Some, IfSome}
use Rattle.std.specs.List.{list_any}
use Rattle.relay_model.specs.{Half}
use Rattle.port_trait.specs.{KeysListed, Polled}

-- the poller beneath, whether ports are left that didn't fit, until when the last poll was asked to wait at most, what it named, and whether it said stop
pub record PeerPollerState (P : Type 0) : Type 0 where
  pub beneath : P
  pub owed : Bool
  pub asked : Option ℕ
  pub named : List (ℕ × Half)
  pub stopped : Bool

-- entries were appended, and those before them stay
abbrev pub Appends : List (ℕ × Half) → List (ℕ × Half) → Type 0
Appends before now = (more : List (ℕ × Half)) × (now ≡ before ++ more)

-- the list keeps its room, and entries were appended
pub record Extends (before now : KeysListed) : Type 0 where
  pub room : now.room ≡ before.room
  pub appended : Appends before.entries now.entries

-- the poller beneath was asked once; where ports were owed it wasn't asked
abbrev pub AsksBeneath : {P : Type 0} → (P → Option ℕ → P → Polled → Type 0) → Bool → P → P → Polled → Type 0
AsksBeneath polls owed before now polled = (owed ≡ true × (now ≡ before) × (polled.stop ≡ false)) ⊎ ((until : Option ℕ) × polls before until now polled)

-- what the poller beneath named comes first, unless ports were owed
abbrev pub NamesBeneath : Bool → Option (List (ℕ × Half)) → List (ℕ × Half) → Type 0
NamesBeneath owed told entries = owed ≡ true ⊎ IfSome told (λ below. Appends below entries)

-- the key of sockets that are shared is named
abbrev pub has_shared : List (ℕ × Half) → Bool
has_shared entries = list_any (λ entry. entry.0 == 2 ^ 64 - 5) entries

-- the poller beneath was asked for this moment or not to wait at all, or it wasn't asked
abbrev pub AsksNoLater : Option ℕ → Option ℕ → Option ℕ → Type 0
AsksNoLater before now until = (now ≡ until) ⊎ (now ≡ Some 0) ⊎ (now ≡ before)
