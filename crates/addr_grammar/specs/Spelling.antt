-- Which texts spell which addresses. Where they stand in the text doesn't matter.
use Rattle.std.specs.Prelude.{◌≡◌, ◌≢◌, ℕ, ◌≤◌, true, false, ◌⊎◌, List, [], ◌∷◌, ◌++◌, length, map, Option, Some, None, option_map, Result, Ok}
use Rattle.std.specs.List.{AllByRecursion}
use Rattle.addr_words.specs.{TokenKind, SpellsKinds}
use Rattle.addr_words.specs.declared.token_list.TokenKind.TheVariants.{Byte, Colon, Comma, Dual, Equals}
use Rattle.addr_grammar.specs.declared.addresses.RawAddress.{RawAddress}
use Rattle.addr_grammar.specs.declared.addresses.RawAddress.TheVariants.{One, Two}
use Rattle.addr_grammar.specs.declared.faults.GrammarFault.{GrammarFault}
use Rattle.addr_grammar.specs.Addresses.{Named, Parts, is_empty, is_dash, has_slash, FitsKeyword}
use Rattle.addr_grammar.specs.Grammar.{Reads}

-- the byte that each of these is where it parts nothing
abbrev pub byte_in : TokenKind → ℕ
byte_in (Byte b) = b
byte_in Colon = 58
byte_in Comma = 44
byte_in Dual = 33
byte_in Equals = 61

-- the bytes that kinds of tokens stand for
abbrev pub bytes_in : List TokenKind → List ℕ
bytes_in = map byte_in

-- no such mark stands among these
abbrev pub Free : TokenKind → List TokenKind → Type 0
Free mark = AllByRecursion (λ kind. kind ≢ mark)

-- what stands before the first such mark and what stands after it; without a mark all stands before it
abbrev pub PartAt : TokenKind → List TokenKind → List TokenKind → Option (List TokenKind) → Type 0
PartAt mark kinds front None = Free mark front × (kinds ≡ front)
PartAt mark kinds front (Some back) = Free mark front × (kinds ≡ front ++ mark ∷ back)

-- parameters: the texts between the colons behind the first part
abbrev pub SpellsTexts : Option (List TokenKind) → List (List ℕ) → Type 0
SpellsTexts None [] = Unit {0}
SpellsTexts None (p ∷ params) = ⊥
SpellsTexts (Some kinds) [] = ⊥
SpellsTexts (Some kinds) (p ∷ params) = (front : List TokenKind) × (back : Option (List TokenKind)) × PartAt Colon kinds front back × (bytes_in front ≡ p) × SpellsTexts back params

-- a file name (`GOPEN`), `-` (`STDIO`), or a keyword
abbrev pub SpellsKeyword : List ℕ → Option (List TokenKind) → List ℕ → List ℕ → List (List ℕ) → Type 0
SpellsKeyword first back whole keyword params =
    ((has_slash first ≡ true) × (keyword ≡ 71 ∷ 79 ∷ 80 ∷ 69 ∷ 78 ∷ []) × (params ≡ whole ∷ []))
    ⊎ (((has_slash first ≡ false) × (is_dash first ≡ true) × (keyword ≡ 83 ∷ 84 ∷ 68 ∷ 73 ∷ 79 ∷ []) × SpellsTexts back params)
    ⊎ (FitsKeyword first × (keyword ≡ first) × SpellsTexts back params))

-- what stands before the first comma spells this keyword and these parameters
abbrev pub SpellsHead : List TokenKind → List ℕ → List (List ℕ) → Type 0
SpellsHead kinds keyword params =
    (front : List TokenKind) × (back : Option (List TokenKind)) × PartAt Colon kinds front back × SpellsKeyword (bytes_in front) back (bytes_in kinds) keyword params

-- a name that isn't empty, and the value behind the first equals sign
pub record SpellsOption (kinds : List TokenKind) (option : Named) : Type 0 where
  pub front : List TokenKind
  pub back : Option (List TokenKind)
  pub parted : PartAt Equals kinds front back
  pub name : bytes_in front ≡ option.name
  pub not_empty : is_empty option.name ≡ false
  pub value : option_map bytes_in back ≡ option.value

-- options: the parts between the commas behind the head
abbrev pub SpellsOptions : Option (List TokenKind) → List Named → Type 0
SpellsOptions None [] = Unit {0}
SpellsOptions None (o ∷ options) = ⊥
SpellsOptions (Some kinds) [] = ⊥
SpellsOptions (Some kinds) (o ∷ options) = (front : List TokenKind) × (back : Option (List TokenKind)) × PartAt Comma kinds front back × SpellsOption front o × SpellsOptions back options

-- kinds of tokens spell a single address: its head, and its options behind commas
pub record SpellsSingle (kinds : List TokenKind) (single : Parts) : Type 0 where
  pub front : List TokenKind
  pub back : Option (List TokenKind)
  pub parted : PartAt Comma kinds front back
  pub head : SpellsHead front single.keyword single.params
  pub options : SpellsOptions back single.options

-- kinds of tokens spell this address, single or dual
abbrev pub SpellsAddress : List TokenKind → RawAddress → Type 0
SpellsAddress kinds (One single) = Free Dual kinds × SpellsSingle kinds single
SpellsAddress kinds (Two reading writing) =
    (left : List TokenKind) × (right : List TokenKind) × PartAt Dual kinds left (Some right) × Free Dual right × SpellsSingle left reading × SpellsSingle right writing

-- a text of at most 65,536 bytes spells this address
pub record Spells (text : List ℕ) (address : RawAddress) : Type 0 where
  pub kinds : List TokenKind
  pub short : length text ≤ 65536
  pub stands : SpellsKinds [] text kinds
  pub spelled : SpellsAddress kinds address

-- what is spelled so is read, unless memory runs out
abbrev pub ReadsSpelled : List ℕ → Result RawAddress GrammarFault → Type 0
ReadsSpelled text result = (address : RawAddress) → Spells text address → Reads (λ read. read) result (Ok address)

-- no text spells two addresses
abbrev pub SpellsAtMostOne : Type 0
SpellsAtMostOne = (text : List ℕ) (one other : RawAddress) → Spells text one → Spells text other → one ≡ other
