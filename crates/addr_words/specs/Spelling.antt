-- Which texts spell which tokens, as a relation by cases on the bytes. Where they stand in the text doesn't matter.
use Rattle.std.specs.Prelude.{◌≡◌, ℕ, Bool, false, ◌&&◌, ◌||◌, ◌==◌, if◌then◌else◌, ◌⊎◌, List, [], ◌∷◌}
use Rattle.addr_words.specs.declared.token_list.TokenKind.{TokenKind}
use Rattle.addr_words.specs.declared.token_list.TokenKind.TheVariants.{Byte, Colon, Comma, Dual, Equals}

-- the marks of quotes, each of which ends what it begins
abbrev pub IsQuoteMark : ℕ → Type 0
IsQuoteMark b = (b ≡ 34) ⊎ (b ≡ 39)

-- a byte that opens a bracket, and the one that closes it
abbrev pub IsBracketPair : ℕ → ℕ → Type 0
IsBracketPair b e = ((b ≡ 40) × (e ≡ 41)) ⊎ (((b ≡ 91) × (e ≡ 93)) ⊎ ((b ≡ 123) × (e ≡ 125)))

-- What is open is told by the bytes that close it, the innermost first. Whether that is a quote:
abbrev pub in_quotes : List ℕ → Bool
in_quotes [] = false
in_quotes (e ∷ ends) = (e == 34) || (e == 39)

-- the innermost open thing is a single quote
abbrev pub in_single_quotes : List ℕ → Bool
in_single_quotes [] = false
in_single_quotes (e ∷ ends) = e == 39

-- the byte is among these
abbrev pub is_one_of : List ℕ → ℕ → Bool
is_one_of [] b = false
is_one_of (s ∷ specials) b = (b == s) || is_one_of specials b

-- the bytes that stand for something else than themselves: outside, in single quotes, in double quotes, in a bracket
abbrev pub special_in : List ℕ → List ℕ
special_in [] = 92 ∷ 34 ∷ 39 ∷ 40 ∷ 91 ∷ 123 ∷ 58 ∷ 44 ∷ 61 ∷ []
special_in (e ∷ ends) =
    if e == 39 then 39 ∷ []
    else (if e == 34 then 92 ∷ 34 ∷ []
    else e ∷ 92 ∷ 34 ∷ 39 ∷ 40 ∷ 91 ∷ 123 ∷ [])

-- whether a byte and what follows it begin with `!!` outside
abbrev pub parts_halves : List ℕ → ℕ → List ℕ → Bool
parts_halves [] b [] = false
parts_halves [] b (c ∷ bytes) = (b == 33) && (c == 33)
parts_halves (e ∷ ends) b bytes = false

-- What bytes stand for, one after the other, where some quotes and brackets are open; at the end none may be. A
-- backslash takes the next byte with it, but in single quotes. Quotes don't nest, and their marks stand for nothing.
-- Brackets nest, and stand for themselves. Colons, commas, equals signs and `!!` are marks outside alone. Whatever is
-- none of these stands for itself.
pub data SpellsKinds : List ℕ → List ℕ → List TokenKind → Type 0 where
  over : SpellsKinds [] [] []
  escaped : (ends bytes : List ℕ) (kinds : List TokenKind) (b : ℕ) → in_single_quotes ends ≡ false → SpellsKinds ends bytes kinds → SpellsKinds ends (92 ∷ b ∷ bytes) (Byte b ∷ kinds)
  quote_begins : (ends bytes : List ℕ) (kinds : List TokenKind) (q : ℕ) → IsQuoteMark q → in_quotes ends ≡ false → SpellsKinds (q ∷ ends) bytes kinds → SpellsKinds ends (q ∷ bytes) kinds
  quote_ends : (ends bytes : List ℕ) (kinds : List TokenKind) (q : ℕ) → IsQuoteMark q → SpellsKinds ends bytes kinds → SpellsKinds (q ∷ ends) (q ∷ bytes) kinds
  bracket_begins : (ends bytes : List ℕ) (kinds : List TokenKind) (b e : ℕ) → IsBracketPair b e → in_quotes ends ≡ false → SpellsKinds (e ∷ ends) bytes kinds → SpellsKinds ends (b ∷ bytes) (Byte b ∷ kinds)
  bracket_ends : (ends bytes : List ℕ) (kinds : List TokenKind) (e : ℕ) → in_quotes (e ∷ ends) ≡ false → SpellsKinds ends bytes kinds → SpellsKinds (e ∷ ends) (e ∷ bytes) (Byte e ∷ kinds)
  colon : (bytes : List ℕ) (kinds : List TokenKind) → SpellsKinds [] bytes kinds → SpellsKinds [] (58 ∷ bytes) (Colon ∷ kinds)
  comma : (bytes : List ℕ) (kinds : List TokenKind) → SpellsKinds [] bytes kinds → SpellsKinds [] (44 ∷ bytes) (Comma ∷ kinds)
  equals : (bytes : List ℕ) (kinds : List TokenKind) → SpellsKinds [] bytes kinds → SpellsKinds [] (61 ∷ bytes) (Equals ∷ kinds)
  dual : (bytes : List ℕ) (kinds : List TokenKind) → SpellsKinds [] bytes kinds → SpellsKinds [] (33 ∷ 33 ∷ bytes) (Dual ∷ kinds)
  itself : (ends bytes : List ℕ) (kinds : List TokenKind) (b : ℕ) → is_one_of (special_in ends) b ≡ false → parts_halves ends b bytes ≡ false → SpellsKinds ends bytes kinds → SpellsKinds ends (b ∷ bytes) (Byte b ∷ kinds)
