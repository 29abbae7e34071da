-- Which address a list of tokens spells, and what is wrong with one that spells none.
use Rattle.std.specs.Prelude.{◌≡◌, ℕ, Bool, false, true, if◌then◌else◌, List, [], ◌∷◌, map, Option, Some, None, option_map, Result, Ok, Err}
use Rattle.addr_words.specs.{Token, TokenKind, WordFault, tokens_of}
use Rattle.addr_words.specs.declared.token_list.TokenKind.TheVariants as kinds
use Rattle.addr_words.specs.declared.faults.WordFault.TheVariants as words
use Rattle.addr_grammar.specs.declared.cutting.Mark.{Mark}
use Rattle.addr_grammar.specs.declared.cutting.Mark.TheVariants.{Colon, Comma, Dual, Equals}
use Rattle.addr_grammar.specs.declared.faults.GrammarFault.{GrammarFault}
use Rattle.addr_grammar.specs.declared.faults.GrammarFault.TheVariants.{Unclosed, LoneBackslash, TooLong, Empty, TooManyDuals, EmptyOption, Memory}
use Rattle.addr_grammar.specs.declared.addresses.RawAddress.{RawAddress}
use Rattle.addr_grammar.specs.declared.addresses.RawAddress.TheVariants.{One, Two}
use Rattle.addr_grammar.specs.Addresses.{Named, Parts, is_empty, is_dash, has_slash}

-- the token is this mark
abbrev pub is_mark : Mark → TokenKind → Bool
is_mark Colon kinds.Colon = true
is_mark Comma kinds.Comma = true
is_mark Dual kinds.Dual = true
is_mark Equals kinds.Equals = true
is_mark mark kind = false

-- the tokens before the first such mark
abbrev pub before : Mark → List Token → List Token
before mark [] = []
before mark (t ∷ tokens) = if is_mark mark t.kind then [] else t ∷ before mark tokens

-- the first such mark and the tokens after it
abbrev pub after : Mark → List Token → Option (Token × List Token)
after mark [] = None
after mark (t ∷ tokens) = if is_mark mark t.kind then Some (t, tokens) else after mark tokens

-- a part between two marks: where its text begins, and its tokens
pub record Piece : Type 0 where
  pub at : ℕ
  pub tokens : List Token

-- the pieces with one more token at the front of the first
abbrev pub with_first : Token → List Piece → List Piece
with_first t [] = []
with_first t (p ∷ pieces) = record { at = p.at; tokens = t ∷ p.tokens } ∷ pieces

-- tokens that begin at an offset, parted at each such mark
abbrev pub pieces : Mark → ℕ → List Token → List Piece
pieces mark at [] = record { at = at; tokens = [] } ∷ []
pieces mark at (t ∷ tokens) =
    if is_mark mark t.kind then record { at = at; tokens = [] } ∷ pieces mark t.to tokens
    else with_first t (pieces mark at tokens)

-- the parts after the first such mark
abbrev pub later : Mark → Option (Token × List Token) → List Piece
later mark None = []
later mark (Some (t, tokens)) = pieces mark t.to tokens

-- where the texts of the parts begin
abbrev pub begins_of : List Piece → List ℕ
begins_of ps = map (λ p. p.at) ps

-- the byte that a token stands for where it parts nothing
abbrev pub byte_of : TokenKind → ℕ
byte_of (kinds.Byte b) = b
byte_of kinds.Colon = 58
byte_of kinds.Comma = 44
byte_of kinds.Dual = 33
byte_of kinds.Equals = 61

-- the bytes that tokens stand for
abbrev pub decoded : List Token → List ℕ
decoded tokens = map (λ t. byte_of t.kind) tokens

infixl 10 ◌>>=◌
-- the next step where this one succeeded, else its fault
abbrev pub ◌>>=◌ : {A B E : Type 0} → Result A E → (A → Result B E) → Result B E
(Ok x) >>= f = f x
(Err e) >>= f = Err e

-- a keyword with its parameters
pub record Header : Type 0 where
  pub keyword : List ℕ
  pub params : List (List ℕ)

-- `GOPEN`
abbrev pub gopen : List ℕ
gopen = 71 ∷ 79 ∷ 80 ∷ 69 ∷ 78 ∷ []

-- `STDIO`
abbrev pub stdio : List ℕ
stdio = 83 ∷ 84 ∷ 68 ∷ 73 ∷ 79 ∷ []

-- what the first part of a head, the further parts and the whole head make: a file name, `-`, or a keyword
abbrev pub header : List ℕ → List (List ℕ) → List ℕ → Result Header GrammarFault
header first others whole =
    if has_slash first then Ok (record { keyword = gopen; params = whole ∷ [] })
    else (if is_dash first then Ok (record { keyword = stdio; params = others })
    else (if is_empty first then Err Empty
    else Ok (record { keyword = first; params = others })))

-- the bytes of each piece
abbrev pub texts : List Piece → List (List ℕ)
texts ps = map (λ p. decoded p.tokens) ps

-- the head of a single address, parted at colons
abbrev pub head_of : List Token → Result Header GrammarFault
head_of tokens = header (decoded (before Colon tokens)) (texts (later Colon (after Colon tokens))) (decoded tokens)

-- the value of an option, where an equals sign stands before it
abbrev pub value_of : Option (Token × List Token) → Option (List ℕ)
value_of back = option_map (λ b. decoded b.1) back

-- an option, parted at the first equals sign
abbrev pub option_of : Piece → Result Named GrammarFault
option_of p =
    if is_empty (decoded (before Equals p.tokens)) then Err (EmptyOption p.at)
    else Ok (record { name = decoded (before Equals p.tokens); value = value_of (after Equals p.tokens) })

-- the options of the pieces, or the first one's fault
abbrev pub options_of : List Piece → Result (List Named) GrammarFault
options_of [] = Ok []
options_of (p ∷ ps) = option_of p >>= λ option. options_of ps >>= λ options. Ok (option ∷ options)

-- a single address: its head, and its options behind the commas
abbrev pub single_of : List Token → Result Parts GrammarFault
single_of tokens =
    head_of (before Comma tokens) >>= λ head.
    options_of (later Comma (after Comma tokens)) >>= λ options.
    Ok (record { keyword = head.keyword; params = head.params; options = options })

-- an address that isn't dual
abbrev pub one_of : List Token → Result RawAddress GrammarFault
one_of tokens = single_of tokens >>= λ single. Ok (One single)

-- a dual address of two halves
abbrev pub two_of : List Token → List Token → Result RawAddress GrammarFault
two_of left right = single_of left >>= λ reading. single_of right >>= λ writing. Ok (Two reading writing)

-- what stands after the first `!!`, where there is one: another single address, in which no further one may stand
abbrev pub second_half : List Token → List Token → Option (Token × List Token) → Result RawAddress GrammarFault
second_half left right None = two_of left right
second_half left right (Some (t, more)) = Err (TooManyDuals t.from)

-- an address by its first `!!`, if it has one
abbrev pub halves : List Token → Option (Token × List Token) → Result RawAddress GrammarFault
halves tokens None = one_of tokens
halves tokens (Some (t, right)) = second_half (before Dual tokens) right (after Dual right)

-- the address that tokens spell
abbrev pub address_of : List Token → Result RawAddress GrammarFault
address_of tokens = halves tokens (after Dual tokens)

-- the fault of a text, as one of an address
abbrev pub widened : WordFault → GrammarFault
widened (words.Unclosed at) = Unclosed at
widened (words.LoneBackslash at) = LoneBackslash at
widened words.TooLong = TooLong
widened words.Memory = Memory

-- an answer with the fault of a text, as one with a fault of an address
abbrev pub widen : {A : Type 0} → Result A WordFault → Result A GrammarFault
widen (Ok x) = Ok x
widen (Err fault) = Err (widened fault)

-- the address that a text spells, or the first fault
abbrev pub reading : List ℕ → Result RawAddress GrammarFault
reading text = widen (tokens_of text) >>= address_of

-- a fault that was reported is the one that reading gives, unless memory ran out
abbrev pub Reports : {Y : Type 0} → GrammarFault → Result Y GrammarFault → Type 0
Reports Memory read = Unit {0}
Reports fault read = read ≡ Err fault

-- what a function returned, seen by view, is what reading gives, unless memory ran out
abbrev pub Reads : {X Y : Type 0} → (X → Y) → Result X GrammarFault → Result Y GrammarFault → Type 0
Reads view (Ok x) read = read ≡ Ok (view x)
Reads view (Err fault) read = Reports fault read
