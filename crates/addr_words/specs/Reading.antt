-- Which tokens a text has.
use Rattle.std.specs.Prelude.{◌≡◌, ℕ, ◌+◌, Bool, false, true, ◌&&◌, ◌||◌, ◌==◌, nat_lt, if◌then◌else◌, List, [], ◌∷◌, ◌++◌, length, Option, Some, None, Result, Ok, Err}
use Rattle.addr_words.specs.declared.token_list.Token.{Token}
use Rattle.addr_words.specs.declared.token_list.TokenKind.{TokenKind}
use Rattle.addr_words.specs.declared.token_list.TokenKind.TheVariants.{Byte, Colon, Comma, Dual, Equals}
use Rattle.addr_words.specs.declared.nesting.Enclosure.{Enclosure}
use Rattle.addr_words.specs.declared.nesting.Enclosure.TheVariants.{DoubleQuote, SingleQuote, Bracket}
use Rattle.addr_words.specs.declared.nesting.OpenEnclosure.{OpenEnclosure}
use Rattle.addr_words.specs.declared.faults.WordFault.{WordFault}
use Rattle.addr_words.specs.declared.faults.WordFault.TheVariants as faults

-- a single or double quote
abbrev pub is_quote : ℕ → Bool
is_quote b = (b == 34) || (b == 39)

-- the quote or bracket that a byte begins
abbrev pub begun_by : ℕ → Option Enclosure
begun_by b =
    if b == 34 then Some DoubleQuote
    else (if b == 39 then Some SingleQuote
    else (if b == 40 then Some (Bracket 41)
    else (if b == 91 then Some (Bracket 93)
    else (if b == 123 then Some (Bracket 125)
    else None))))

-- the byte that ends what is open
abbrev pub is_ended_by : Enclosure → ℕ → Bool
is_ended_by DoubleQuote b = b == 34
is_ended_by SingleQuote b = b == 39
is_ended_by (Bracket closing) b = b == closing

-- a bracket, and no quote
abbrev pub is_bracket : Enclosure → Bool
is_bracket DoubleQuote = false
is_bracket SingleQuote = false
is_bracket (Bracket closing) = true

-- Lists of openings have the innermost first. This is what encloses the next byte; nothing does outside.
abbrev pub innermost : List OpenEnclosure → Option Enclosure
innermost [] = None
innermost (o ∷ around) = Some o.what

-- where the outermost begins
abbrev pub outermost : List OpenEnclosure → Option ℕ
outermost [] = None
outermost (o ∷ []) = Some o.at
outermost (o ∷ p ∷ around) = outermost (p ∷ around)

-- what is open, with one more thing where one was opened
abbrev pub opened : Option Enclosure → ℕ → List OpenEnclosure → List OpenEnclosure
opened None at around = around
opened (Some e) at around = record { what = e; at = at } ∷ around

-- What is open after a byte that isn't escaped. Quotes don't nest.
abbrev pub open_after : List OpenEnclosure → ℕ → ℕ → List OpenEnclosure
open_after [] at b = opened (begun_by b) at []
open_after (o ∷ around) at b =
    if is_ended_by o.what b then around
    else (if is_bracket o.what then opened (begun_by b) at (o ∷ around) else o ∷ around)

-- whether a byte is a backslash that escapes the next one
abbrev pub escapes : Option Enclosure → ℕ → Bool
escapes None b = b == 92
escapes (Some DoubleQuote) b = b == 92
escapes (Some SingleQuote) b = false
escapes (Some (Bracket closing)) b = b == 92

-- whether two bytes are the one token of two exclamation marks
abbrev pub is_dual : Option Enclosure → ℕ → ℕ → Bool
is_dual None b c = (b == 33) && (c == 33)
is_dual (Some e) b c = false

-- what a byte is outside
abbrev pub mark : ℕ → TokenKind
mark b = if b == 58 then Colon else (if b == 44 then Comma else (if b == 61 then Equals else Byte b))

-- what a byte gives that is neither escaped nor one of two exclamation marks: the marks of quotes give no token
abbrev pub meaning : Option Enclosure → ℕ → Option TokenKind
meaning None b = if is_quote b then None else Some (mark b)
meaning (Some DoubleQuote) b = if b == 34 then None else Some (Byte b)
meaning (Some SingleQuote) b = if b == 39 then None else Some (Byte b)
meaning (Some (Bracket closing)) b = if is_quote b then None else Some (Byte b)

-- a token that covers these bytes
abbrev pub token : TokenKind → ℕ → ℕ → Token
token kind from to = record { kind = kind; from = from; to = to }

-- the token of one byte, where it is one
abbrev pub single : Option TokenKind → ℕ → List Token
single None at = []
single (Some kind) at = token kind at (at + 1) ∷ []

-- some tokens, and then those that are read
abbrev pub after_front : List Token → Result (List Token) WordFault → Result (List Token) WordFault
after_front front (Ok tokens) = Ok (front ++ tokens)
after_front front (Err fault) = Err fault

-- a text is over: nothing may be open
abbrev pub over_at : Option ℕ → Result (List Token) WordFault
over_at None = Ok []
over_at (Some at) = Err (faults.Unclosed at)

-- the tokens of the rest of a text, from an offset on, where these are open
unfoldable pub tokens_from : List OpenEnclosure → ℕ → List ℕ → Result (List Token) WordFault
tokens_from around at [] = over_at (outermost around)
tokens_from around at (b ∷ []) =
    if escapes (innermost around) b then Err (faults.LoneBackslash at)
    else after_front (single (meaning (innermost around) b) at) (tokens_from (open_after around at b) (at + 1) [])
tokens_from around at (b ∷ c ∷ bs) =
    if escapes (innermost around) b then after_front (token (Byte c) at (at + 2) ∷ []) (tokens_from around (at + 2) bs)
    else (if is_dual (innermost around) b c then after_front (token Dual at (at + 2) ∷ []) (tokens_from around (at + 2) bs)
    else after_front (single (meaning (innermost around) b) at) (tokens_from (open_after around at b) (at + 1) (c ∷ bs)))

-- the tokens of a text
abbrev pub tokens_of : List ℕ → Result (List Token) WordFault
tokens_of text = if nat_lt 65536 (length text) then Err faults.TooLong else tokens_from [] 0 text

-- A fault that was reported is the one that reading gives, unless memory ran out.
abbrev pub Reports : {Y : Type 0} → WordFault → Result Y WordFault → Type 0
Reports (faults.Unclosed at) read = read ≡ Err (faults.Unclosed at)
Reports (faults.LoneBackslash at) read = read ≡ Err (faults.LoneBackslash at)
Reports faults.TooLong read = read ≡ Err faults.TooLong
Reports faults.Memory read = Unit {0}

-- what a function returned is what reading gives, unless memory ran out
abbrev pub Reads : {Y : Type 0} → Result Y WordFault → Result Y WordFault → Type 0
Reads (Ok tokens) read = read ≡ Ok tokens
Reads (Err fault) read = Reports fault read
