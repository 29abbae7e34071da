-- Which fault a text has, by what texts spell alone. Nothing here says how a text is read.
use Rattle.std.specs.Prelude.{◌≡◌, ℕ, ◌+◌, ◌≤◌, ◌⊎◌, List, [], ◌∷◌, ◌++◌, length, take, Some, Ok}
use Rattle.std.specs.List.{AllByRecursion}
use Rattle.addr_words.specs.{Token, TokenKind, tokens_of, SpellsKinds}
use Rattle.addr_words.specs.declared.token_list.TokenKind.TheVariants.{Byte, Colon, Comma, Dual, Equals}
use Rattle.addr_words.specs.declared.faults.WordFault.TheVariants as words
use Rattle.addr_words.specs.FirstFaults as faulty
use Rattle.addr_grammar.specs.declared.faults.GrammarFault.{GrammarFault}
use Rattle.addr_grammar.specs.declared.faults.GrammarFault.TheVariants.{Unclosed, LoneBackslash, TooLong, Empty, TooManyDuals, EmptyOption, Memory}
use Rattle.addr_grammar.specs.declared.cutting.Mark.TheVariants as Mark
use Rattle.addr_grammar.specs.Grammar.{after, later, begins_of}
use Rattle.addr_grammar.specs.Spelling.{Free, PartAt}

-- The second `!!` of a text: with its first byte alone one `!!` stands in the text so far, with both bytes two do.
pub record IsSecondDual (text : List ℕ) (at : ℕ) : Type 0 where
  pub left : List TokenKind
  pub middle : List TokenKind
  pub left_free : Free Dual left
  pub middle_free : Free Dual middle
  pub one : SpellsKinds [] (take (at + 1) text) (left ++ Dual ∷ (middle ++ Byte 33 ∷ []))
  pub both : SpellsKinds [] (take (at + 2) text) (left ++ Dual ∷ (middle ++ Dual ∷ []))

-- where an option's text begins: just behind a comma that parts
abbrev pub IsOptionPlace : List ℕ → ℕ → Type 0
IsOptionPlace text at = (kinds : List TokenKind) × SpellsKinds [] (take at text) (kinds ++ Comma ∷ [])

-- The options of an address begin at such places: side are the tokens of the address, or of one half of it.
abbrev pub OptionsBeginBehindCommas : Type 0
OptionsBeginBehindCommas =
    (text : List ℕ) (tokens front side back : List Token) → tokens_of text ≡ Ok tokens → tokens ≡ front ++ (side ++ back) → AllByRecursion (IsOptionPlace text) (begins_of (later Mark.Comma (after Mark.Comma side)))

-- one address, or two around one `!!`
abbrev pub HasFewDuals : List TokenKind → Type 0
HasFewDuals kinds = Free Dual kinds ⊎ ((left : List TokenKind) × (right : List TokenKind) × PartAt Dual kinds left (Some right) × Free Dual right)

-- the one address of these kinds, or one of the two around their `!!`
abbrev pub IsSideOf : List TokenKind → List TokenKind → Type 0
IsSideOf kinds side =
    (Free Dual kinds × (side ≡ kinds))
    ⊎ ((left : List TokenKind) × (right : List TokenKind) × PartAt Dual kinds left (Some right) × Free Dual right × ((side ≡ left) ⊎ (side ≡ right)))

-- these kinds name no keyword: there are none, or a colon or a comma comes first
abbrev pub NamesNothing : List TokenKind → Type 0
NamesNothing kinds = (kinds ≡ []) ⊎ ((rest : List TokenKind) × ((kinds ≡ Comma ∷ rest) ⊎ (kinds ≡ Colon ∷ rest)))

-- the text is closed, and of its one address or two one names no keyword
pub record HasEmptySide (text : List ℕ) : Type 0 where
  pub kinds : List TokenKind
  pub side : List TokenKind
  pub stands : SpellsKinds [] text kinds
  pub is_side : IsSideOf kinds side
  pub nameless : NamesNothing side

-- these kinds name no option: there are none, or a comma, an equals sign or a `!!` comes first
abbrev pub NamesNoOption : List TokenKind → Type 0
NamesNoOption kinds = (kinds ≡ []) ⊎ ((rest : List TokenKind) × ((kinds ≡ Comma ∷ rest) ⊎ (kinds ≡ Equals ∷ rest) ⊎ (kinds ≡ Dual ∷ rest)))

-- the text is closed and is one address or two, and just behind one of its commas no option is named
pub record IsEmptyOption (text : List ℕ) (at : ℕ) : Type 0 where
  pub front : List TokenKind
  pub behind : List TokenKind
  pub begins : SpellsKinds [] (take at text) (front ++ Comma ∷ [])
  pub stands : SpellsKinds [] text (front ++ Comma ∷ behind)
  pub few : HasFewDuals (front ++ Comma ∷ behind)
  pub nameless : NamesNoOption behind

-- The faults of words come first, then a second `!!`, then those of its parts. Want of memory is a call's alone,
-- whatever the text is.
abbrev pub IsFaultOf : List ℕ → GrammarFault → Type 0
IsFaultOf text (Unclosed at) = faulty.IsFaultOf text (words.Unclosed at)
IsFaultOf text (LoneBackslash at) = faulty.IsFaultOf text (words.LoneBackslash at)
IsFaultOf text TooLong = faulty.IsFaultOf text words.TooLong
IsFaultOf text (TooManyDuals at) = (length text ≤ 65536) × faulty.IsClosed text × IsSecondDual text at
IsFaultOf text Empty = (length text ≤ 65536) × HasEmptySide text
IsFaultOf text (EmptyOption at) = (length text ≤ 65536) × IsEmptyOption text at
IsFaultOf text Memory = Unit {0}
