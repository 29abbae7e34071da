-- No text is told to want memory.
use Rattle.std.proofs.Common.{◌≡◌, ℕ, Bool, true, false, List, [], length, Result, Err}
use Rattle.std.specs.Prelude.{nat_lt, if◌then◌else◌}
use Rattle.addr_words.specs.declared.token_list.Token.{Token}
use Rattle.addr_words.specs.declared.faults.WordFault.{WordFault}
use Rattle.addr_words.specs.declared.faults.WordFault.TheVariants as faults
use Rattle.addr_words.specs.Reading.{tokens_from, tokens_of}
use Rattle.addr_words.proofs.Fronts.{rest_faults}

limit_told : (long : Bool) (r : Result (List Token) WordFault) → (r ≡ Err faults.Memory → ⊥) → (if long then Err faults.TooLong else r) ≡ Err faults.Memory → ⊥
limit_told true r told e = absurd cc
limit_told false r told e = told e

pub text_told : (text : List ℕ) → tokens_of text ≡ Err faults.Memory → ⊥
text_told text e = limit_told (nat_lt 65536 (length text)) (tokens_from [] 0 text) (rest_faults [] 0 text faults.Memory) e
