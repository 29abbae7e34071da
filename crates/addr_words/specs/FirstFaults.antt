-- Which fault the words of a text have, by what texts spell alone. Nothing here says how a text is read.
use Rattle.std.specs.Prelude.{◌≡◌, ℕ, ◌≤◌, ◌<◌, List, [], ◌∷◌, ◌++◌, length, take}
use Rattle.addr_words.specs.declared.token_list.TokenKind.{TokenKind}
use Rattle.addr_words.specs.declared.faults.WordFault.{WordFault}
use Rattle.addr_words.specs.declared.faults.WordFault.TheVariants.{Unclosed, LoneBackslash, TooLong, Memory}
use Rattle.addr_words.specs.Spelling.{SpellsKinds}

-- at the end of the text nothing is open and nothing is being escaped
abbrev pub IsClosed : List ℕ → Type 0
IsClosed text = (kinds : List TokenKind) × SpellsKinds [] text kinds

-- The text escapes the byte that comes next: what closes it after one next byte closes it after any other.
abbrev pub EscapesNext : List ℕ → Type 0
EscapesNext text = (b c : ℕ) (rest : List ℕ) → IsClosed (text ++ b ∷ rest) → IsClosed (text ++ c ∷ rest)

-- the last byte is a backslash that would escape a next one
pub record IsLoneAt (text : List ℕ) (at : ℕ) : Type 0 where
  pub front : List ℕ
  pub last : text ≡ front ++ 92 ∷ []
  pub place : at ≡ length front
  pub escapes : EscapesNext text
  pub not_closed : IsClosed text → ⊥

-- The last place before which all is closed. A text that ends with a lone backslash is no such text.
pub record IsUnclosedAt (text : List ℕ) (at : ℕ) : Type 0 where
  pub within : at < length text
  pub closed : IsClosed (take at text)
  pub last : (k : ℕ) → at < k → IsClosed (take k text) → ⊥
  pub no_lone : EscapesNext text → ⊥

-- A text that is too long is nothing else. Want of memory is a call's alone, whatever the text is.
abbrev pub IsFaultOf : List ℕ → WordFault → Type 0
IsFaultOf text (Unclosed at) = (length text ≤ 65536) × IsUnclosedAt text at
IsFaultOf text (LoneBackslash at) = (length text ≤ 65536) × IsLoneAt text at
IsFaultOf text TooLong = 65536 < length text
IsFaultOf text Memory = Unit {0}

-- no text has two of these faults
abbrev pub HaveAtMostOne : Type 0
HaveAtMostOne =
    (text : List ℕ) (one other : WordFault) → IsFaultOf text one → IsFaultOf text other → (one ≡ Memory → ⊥) → (other ≡ Memory → ⊥) → one ≡ other

-- and none that is closed and not too long has any
abbrev pub ClosedHaveNone : Type 0
ClosedHaveNone = (text : List ℕ) (fault : WordFault) → length text ≤ 65536 → IsClosed text → IsFaultOf text fault → fault ≡ Memory
