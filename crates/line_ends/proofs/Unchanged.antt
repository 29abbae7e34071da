-- Bytes that are no line ends stay as they are.
use Rattle.std.proofs.Common.{◌≡◌, ℕ, suc, ◌<◌, List, [], ◌∷◌, length, get_or, eqb, false, refl, arith}
use Rattle.std.proofs.lemmas.Bool.{ne_eqb}
use Rattle.relay_model.specs.Conversions.{read_converted, write_converted}
use Rattle.relay_model.specs.declared.commands.Conv.{Conv}
use Rattle.relay_model.specs.declared.commands.Conv.TheVariants.{Plain, Cr, Crnl}

-- the byte stands nowhere in the list
abbrev pub Lacks : ℕ → List ℕ → Type 0
Lacks b xs = (k : ℕ) → k < length xs → get_or xs k 0 ≡ b → ⊥

pub Lacks-rest : (b x : ℕ) (xs : List ℕ) → Lacks b (x ∷ xs) → Lacks b xs
Lacks-rest b x xs lacks k below = lacks (suc k) (omega arith)

pub Lacks-first : (b x : ℕ) (xs : List ℕ) → Lacks b (x ∷ xs) → eqb x b ≡ false
Lacks-first b x xs lacks = ne_eqb x b (lacks 0 (omega arith))

pub read_unchanged : (conv : Conv) (xs : List ℕ) → Lacks 13 xs → read_converted conv xs ≡ xs
read_unchanged Plain xs lacks = refl
read_unchanged Cr [] lacks = refl
read_unchanged Cr (x ∷ xs) lacks = rw (Lacks-first 13 x xs lacks, read_unchanged Cr xs (Lacks-rest 13 x xs lacks))
read_unchanged Crnl [] lacks = refl
read_unchanged Crnl (x ∷ xs) lacks = rw (Lacks-first 13 x xs lacks, read_unchanged Crnl xs (Lacks-rest 13 x xs lacks))

pub write_unchanged : (conv : Conv) (xs : List ℕ) → Lacks 10 xs → write_converted conv xs ≡ xs
write_unchanged Plain xs lacks = refl
write_unchanged Cr [] lacks = refl
write_unchanged Cr (x ∷ xs) lacks = rw (Lacks-first 10 x xs lacks, write_unchanged Cr xs (Lacks-rest 10 x xs lacks))
write_unchanged Crnl [] lacks = refl
write_unchanged Crnl (x ∷ xs) lacks = rw (Lacks-first 10 x xs lacks, write_unchanged Crnl xs (Lacks-rest 10 x xs lacks))
