-- What a source has left and a sink has taken, one piece after the other.
use Rattle.std.proofs.Common.{◌≡◌, ℕ, List, [], ◌++◌, take, drop, append_assoc, append-nil, refl, ap, sym, ◌∙◌}
use Rattle.std.specs.Prelude.{Option, Some, None, option_map}
use Rattle.std.proofs.lemmas.List.{take-append-drop}
use Rattle.std.specs.Io.KnownBytes.{Keeps, Consumes, IsAtEnd}
use Rattle.std.proofs.KnownBytes.{Consumes-nil, Consumes-trans, Consumes-kept}
use Rattle.port_trait.specs.Streams.{Loses}

-- no bytes are lost at first
pub loses_none : (left : Option (List ℕ)) → Loses left left []
loses_none None = refl
loses_none (Some rest) = refl

-- a further piece is lost
pub loses_more : (before mid now : Option (List ℕ)) (text piece : List ℕ) → Loses before mid text → Loses mid now piece → Loses before now (text ++ piece)
loses_more before mid None text piece lost more = lost ∙ ap (option_map (λ rest. text ++ rest)) more
loses_more before mid (Some rest) text piece lost more = lost ∙ ap (option_map (λ rest. text ++ rest)) more ∙ ap Some (sym (append_assoc text piece rest))

-- a sink takes the front of what is left, and the rest is left
pub takes_more : (took now all : Option (List ℕ)) (n : ℕ) (left : List ℕ) → now ≡ option_map (λ held. held ++ take n left) took → option_map (λ held. held ++ left) took ≡ all → option_map (λ held. held ++ drop n left) now ≡ all
takes_more None now all n left taken so_far = ap (option_map (λ held. held ++ drop n left)) taken ∙ so_far
takes_more (Some held) now all n left taken so_far =
    ap (option_map (λ held. held ++ drop n left)) taken
    ∙ ap Some (append_assoc held (take n left) (drop n left) ∙ ap (λ list. held ++ list) (take-append-drop n left))
    ∙ so_far

-- where nothing is left, the sink has taken it all
pub takes_all : (took all : Option (List ℕ)) (left : List ℕ) → left ≡ [] → option_map (λ held. held ++ left) took ≡ all → took ≡ all
takes_all None all left none so_far = so_far
takes_all (Some held) all left none so_far = sym (ap Some (ap (λ list. held ++ list) none ∙ append-nil held)) ∙ so_far

-- a reader has lost no bytes at first
pub consumes_none : (rest : Option (List ℕ)) → Consumes rest rest []
consumes_none rest = Consumes-nil rest

-- a further piece is lost
pub consumes_more : (before mid now : Option (List ℕ)) (text piece : List ℕ) → Consumes before mid text → Consumes mid now piece → Consumes before now (text ++ piece)
consumes_more before mid now text piece lost more = Consumes-trans before mid now text piece lost more

-- nothing more is lost at the end
pub consumes_kept : (before mid now : Option (List ℕ)) (text : List ℕ) → Consumes before mid text → Keeps mid now → Consumes before now text
consumes_kept before mid now text lost kept = Consumes-kept before mid now text lost kept
