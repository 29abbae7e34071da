-- No text is told to want memory.
use Rattle.std.proofs.Common.{◌≡◌, ℕ, List, [], ◌∷◌, Option, Some, None, Result, Ok, Err, refl}
use Rattle.std.specs.List.{AllByRecursion}
use Rattle.addr_words.specs.declared.token_list.Token.{Token}
use Rattle.addr_words.specs.declared.faults.WordFault.{WordFault}
use Rattle.addr_words.specs.declared.faults.WordFault.TheVariants as words
use Rattle.addr_words.specs.Reading.{tokens_of}
use Rattle.addr_words.proofs.Told.{text_told}
use Rattle.addr_grammar.specs.declared.cutting.Mark.TheVariants.{Comma, Dual}
use Rattle.addr_grammar.specs.declared.faults.GrammarFault.{GrammarFault}
use Rattle.addr_grammar.specs.declared.faults.GrammarFault.TheVariants.{Unclosed, LoneBackslash, TooLong, TooManyDuals, EmptyOption, Memory}
use Rattle.addr_grammar.specs.Grammar.{before, after, Piece, later, head_of, options_of, single_of, second_half, halves, address_of, widen, reading}
use Rattle.addr_grammar.proofs.Faulty.{Faults, Nameless, err_faults, then_faults, head_faults, options_faults, single_faults, one_faults, two_faults}

abbrev IsTold : GrammarFault → Type 0
IsTold Memory = ⊥
IsTold fault = Unit {0}

-- an answer that isn't want of memory
abbrev pub Told : {A : Type 0} → Result A GrammarFault → Type 0
Told r = r ≡ Err Memory → ⊥

all_told : (ps : List Piece) → AllByRecursion (λ p. Nameless IsTold p.at p.tokens) ps
all_told [] = tt
all_told (p ∷ ps) = (λ _. tt, all_told ps)

pub head_told : (tokens : List Token) → Told (head_of tokens)
head_told tokens e = head_faults IsTold tokens (λ _. tt) Memory e

pub options_told : (ps : List Piece) → Told (options_of ps)
options_told ps e = options_faults IsTold ps (all_told ps) Memory e

pub single_told : (tokens : List Token) → Told (single_of tokens)
single_told tokens e = single_faults IsTold tokens (λ _. tt) (all_told (later Comma (after Comma tokens))) Memory e

second_told : (left right : List Token) (back : Option (Token × List Token)) → Faults IsTold (second_half left right back)
second_told left right None = two_faults IsTold left right (λ _. tt) (λ _. tt) (all_told (later Comma (after Comma left))) (all_told (later Comma (after Comma right)))
second_told left right (Some (t, more)) = err_faults IsTold (TooManyDuals t.from) tt

halves_told : (tokens : List Token) (back : Option (Token × List Token)) → Faults IsTold (halves tokens back)
halves_told tokens None = one_faults IsTold tokens (λ _. tt) (all_told (later Comma (after Comma tokens)))
halves_told tokens (Some (t, right)) = second_told (before Dual tokens) right (after Dual right)

pub address_told : (tokens : List Token) → Told (address_of tokens)
address_told tokens e = halves_told tokens (after Dual tokens) Memory e

widen_told : (r : Result (List Token) WordFault) → (r ≡ Err words.Memory → ⊥) → Faults IsTold (widen r)
widen_told (Ok tokens) told fault e = absurd cc
widen_told (Err (words.Unclosed at)) told fault e = err_faults IsTold (Unclosed at) tt fault e
widen_told (Err (words.LoneBackslash at)) told fault e = err_faults IsTold (LoneBackslash at) tt fault e
widen_told (Err words.TooLong) told fault e = err_faults IsTold TooLong tt fault e
widen_told (Err words.Memory) told fault e = absurd (told refl)

pub text_is_told : (text : List ℕ) → Told (reading text)
text_is_told text e = then_faults IsTold (widen (tokens_of text)) address_of (widen_told (tokens_of text) (text_told text)) (λ tokens f. halves_told tokens (after Dual tokens)) Memory e
