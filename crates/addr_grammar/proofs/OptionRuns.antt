-- Options that are read one after the other.
use Rattle.std.proofs.Common.{◌≡◌, ℕ, List, [], ◌∷◌, ◌++◌, Option, Some, None, Result, Ok, Err, refl, sym, ap, ◌∙◌, append_assoc}
use Rattle.std.proofs.lemmas.List.{append-nil}
use Rattle.addr_words.specs.declared.token_list.Token.{Token}
use Rattle.addr_grammar.specs.declared.cutting.Mark.TheVariants.{Comma}
use Rattle.addr_grammar.specs.declared.faults.GrammarFault.{GrammarFault}
use Rattle.addr_grammar.specs.declared.faults.GrammarFault.TheVariants.{Memory}
use Rattle.addr_grammar.specs.Addresses.{Named}
use Rattle.addr_grammar.specs.Grammar.{◌>>=◌, before, after, Piece, pieces, later, option_of, options_of, Reports}
use Rattle.addr_grammar.proofs.Pieces.{pieces_cut}

-- some options, and then those that are read
abbrev pub after_options : List Named → Result (List Named) GrammarFault → Result (List Named) GrammarFault
after_options front (Ok options) = Ok (front ++ options)
after_options front (Err fault) = Err fault

regroup : (front : List Named) (option : Named) (r : Result (List Named) GrammarFault) → after_options front (r >>= λ options. Ok (option ∷ options)) ≡ after_options (front ++ option ∷ []) r
regroup front option (Ok options) = ap Ok (sym (append_assoc front (option ∷ []) options))
regroup front option (Err fault) = refl

-- the part at hand: where it begins, up to the next comma
abbrev part : ℕ → List Token → Piece
part begin rest = record { at = begin; tokens = before Comma rest }

-- an option is read
option_step : (front : List Named) (begin : ℕ) (rest : List Token) (option : Named) → option_of (part begin rest) ≡ Ok option
    → after_options front (options_of (pieces Comma begin rest)) ≡ after_options (front ++ option ∷ []) (options_of (later Comma (after Comma rest)))
option_step front begin rest option e =
    ap (λ (ps : List Piece). after_options front (options_of ps)) (pieces_cut Comma begin rest)
    ∙ ap (λ (r : Result Named GrammarFault). after_options front (r >>= λ o. options_of (later Comma (after Comma rest)) >>= λ options. Ok (o ∷ options))) e
    ∙ regroup front option (options_of (later Comma (after Comma rest)))

pub options_go_on : (front : List Named) (begin : ℕ) (rest : List Token) (option : Named) (t : Token) (next : List Token) (whole : Result (List Named) GrammarFault)
    → option_of (part begin rest) ≡ Ok option → after Comma rest ≡ Some (t, next) → after_options front (options_of (pieces Comma begin rest)) ≡ whole
    → after_options (front ++ option ∷ []) (options_of (pieces Comma t.to next)) ≡ whole
options_go_on front begin rest option t next whole e back so_far =
    sym (option_step front begin rest option e ∙ ap (λ (b : Option (Token × List Token)). after_options (front ++ option ∷ []) (options_of (later Comma b))) back) ∙ so_far

pub options_end : (front : List Named) (begin : ℕ) (rest : List Token) (option : Named) (whole : Result (List Named) GrammarFault)
    → option_of (part begin rest) ≡ Ok option → after Comma rest ≡ None → after_options front (options_of (pieces Comma begin rest)) ≡ whole
    → whole ≡ Ok (front ++ option ∷ [])
options_end front begin rest option whole e back so_far =
    sym so_far ∙ option_step front begin rest option e ∙ ap (λ (b : Option (Token × List Token)). after_options (front ++ option ∷ []) (options_of (later Comma b))) back ∙ ap Ok (append-nil (front ++ option ∷ []))

fault_step : (front : List Named) (begin : ℕ) (rest : List Token) (fault : GrammarFault) (whole : Result (List Named) GrammarFault)
    → option_of (part begin rest) ≡ Err fault → after_options front (options_of (pieces Comma begin rest)) ≡ whole → whole ≡ Err fault
fault_step front begin rest fault whole e so_far =
    sym so_far ∙ ap (λ (ps : List Piece). after_options front (options_of ps)) (pieces_cut Comma begin rest)
    ∙ ap (λ (r : Result Named GrammarFault). after_options front (r >>= λ o. options_of (later Comma (after Comma rest)) >>= λ options. Ok (o ∷ options))) e

-- an option with a fault is read
pub options_fault : (fault : GrammarFault) (front : List Named) (begin : ℕ) (rest : List Token) (whole : Result (List Named) GrammarFault)
    → Reports fault (option_of (part begin rest)) → after_options front (options_of (pieces Comma begin rest)) ≡ whole → Reports fault whole
options_fault Memory front begin rest whole e so_far = tt
options_fault fault front begin rest whole e so_far = fault_step front begin rest fault whole e so_far
