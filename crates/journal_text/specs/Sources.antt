-- When a text was read to its end.
use Rattle.std.specs.Prelude.{◌≡◌, ℕ, ◌≤◌, List, [], length, Option, IfSome}
use Rattle.port_trait.specs.{Rose, Loses}
use Rattle.std.specs.Io.KnownBytes.{Consumes, IsAtEnd}
use Rattle.journal_text.specs.declared.sources.Unread.{Unread}
use Rattle.journal_text.specs.declared.sources.Unread.TheVariants.{Memory, Failed}

-- the longest text that is read, in bytes
abbrev pub longest_text : ℕ
longest_text = 16777216

-- all of a text was read: its end was met and nothing is left, or more was given than is read
pub record HasRead (text : List ℕ) (left_before left : Option (List ℕ)) (ends_before ends : ℕ) : Type 0 where
  pub gave : Loses left_before left text
  pub ended : length text ≤ longest_text → Rose ends_before ends × IfSome left (λ rest. rest ≡ [])

-- the reader beneath lost the text, and is at its end unless more was given than is read
pub record HasReadBeneath (text : List ℕ) (rest_before rest : Option (List ℕ)) : Type 0 where
  pub gave : Consumes rest_before rest text
  pub ended : length text ≤ longest_text → IsAtEnd rest

-- why a text wasn't read: want of memory has no further cause
abbrev pub WhyUnread : ℕ → ℕ → Unread → Type 0
WhyUnread faults_before faults Memory = Unit {0}
WhyUnread faults_before faults Failed = Rose faults_before faults
