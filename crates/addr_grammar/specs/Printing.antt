-- The text that an address is printed as.
use Rattle.std.specs.Prelude.{ℕ, List, [], ◌∷◌, ◌++◌, Option, Some, None}
use Rattle.addr_words.specs.{written}
use Rattle.addr_grammar.specs.declared.addresses.RawAddress.{RawAddress}
use Rattle.addr_grammar.specs.declared.addresses.RawAddress.TheVariants.{One, Two}
use Rattle.addr_grammar.specs.Addresses.{Named, Parts, IsSingle}

-- each parameter behind a colon
abbrev pub printed_params : List (List ℕ) → List ℕ
printed_params [] = []
printed_params (p ∷ params) = (58 ∷ written p) ++ printed_params params

-- a value behind an equals sign
abbrev pub printed_value : Option (List ℕ) → List ℕ
printed_value None = []
printed_value (Some value) = 61 ∷ written value

-- an option as it is printed
abbrev pub printed_option : Named → List ℕ
printed_option option = (44 ∷ written option.name) ++ printed_value option.value

-- each option behind a comma
abbrev pub printed_options : List Named → List ℕ
printed_options [] = []
printed_options (option ∷ options) = printed_option option ++ printed_options options

-- a single address as it is printed
abbrev pub printed_single : Parts → List ℕ
printed_single single = written single.keyword ++ (printed_params single.params ++ printed_options single.options)

-- two halves are joined by `!!`
abbrev pub printed : RawAddress → List ℕ
printed (One single) = printed_single single
printed (Two reading writing) = printed_single reading ++ (33 ∷ 33 ∷ printed_single writing)

-- a text can spell each half
abbrev pub IsAddress : RawAddress → Type 0
IsAddress (One single) = IsSingle single
IsAddress (Two reading writing) = IsSingle reading × IsSingle writing
