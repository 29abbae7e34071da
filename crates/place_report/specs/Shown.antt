-- How bytes are shown: printable ones as they are, any other by its number, so that no terminal is told to do anything.
use Rattle.std.specs.Prelude.{◌≡◌, ℕ, ◌<◌, ◌/◌, ◌%◌, Bool, true, not, ◌&&◌, ◌||◌, ◌==◌, nat_le, List, [], ◌∷◌, ◌++◌, map, codes, if◌then◌else◌}
use Prim.Native.String.{String}
use Rattle.std.specs.List.{list_all, flat_map, AllByRecursion}
use Rattle.relay_model.specs.{hex_digit}

-- a byte that may stand in a report: a printable one of ASCII, or the end of a line
abbrev pub is_printable : ℕ → Bool
is_printable byte = nat_le 32 byte && nat_le byte 126 || byte == 10

-- a text of such bytes alone
abbrev pub IsPrintable : List ℕ → Type 0
IsPrintable text = list_all is_printable text ≡ true

-- a byte that is shown as it is: a printable one, but the backslash
abbrev pub is_plain : ℕ → Bool
is_plain byte = nat_le 32 byte && nat_le byte 126 && not (byte == 92)

-- a byte by its number: a backslash, an x and two digits
abbrev pub escaped : ℕ → List ℕ
escaped byte = 92 ∷ 120 ∷ hex_digit (byte / 16) ∷ hex_digit (byte % 16) ∷ []

-- how a byte is shown
abbrev pub shown_byte : ℕ → List ℕ
shown_byte byte = if is_plain byte then byte ∷ [] else escaped byte

-- how bytes are shown
abbrev pub shown : List ℕ → List ℕ
shown bytes = flat_map shown_byte bytes

-- words of the report's own
abbrev pub said : String → List ℕ
said words = shown (codes words)

-- bytes of the command, between quotes
abbrev pub quoted : List ℕ → List ℕ
quoted bytes = 34 ∷ shown bytes ++ 34 ∷ []

-- a mark below each byte that is shown
abbrev pub marked : ℕ → List ℕ → List ℕ
marked mark bytes = map (λ _. mark) (shown bytes)

-- a text ends with its last line's end, so it isn't empty
pub record EndsLine (text : List ℕ) : Type 0 where
  pub front : List ℕ
  pub ends : text ≡ front ++ 10 ∷ []

-- each is a byte
abbrev pub AreBytes : List ℕ → Type 0
AreBytes bytes = AllByRecursion (λ byte. byte < 256) bytes

-- no two lists of bytes look alike
abbrev pub ShownTells : Type 0
ShownTells = (one other : List ℕ) → AreBytes one → AreBytes other → shown one ≡ shown other → one ≡ other
