-- What is written is read as its bytes.
use Rattle.std.proofs.Common.{◌≡◌, ℕ, ◌+◌, ◌≤◌, Bool, true, false, ◌||◌, ◌&&◌, ◌==◌, cond, List, [], ◌∷◌, ◌++◌, length, Result, Ok, Err, Option, Some, None, refl, sym, ap, subst, ◌∙◌, append_assoc, add-zero, arith, length-append, drop}
use Rattle.std.specs.Prelude.{map, IfOk}
use Rattle.std.proofs.lemmas.List.{append-nil, drop_all}
use Rattle.addr_words.specs.declared.token_list.TokenKind.{TokenKind}
use Rattle.addr_words.specs.declared.token_list.TokenKind.TheVariants.{Byte}
use Rattle.addr_words.specs.declared.nesting.OpenEnclosure.{OpenEnclosure}
use Rattle.addr_words.specs.Reading.{meaning, open_after, single, token, after_front, tokens_from}
use Rattle.addr_words.specs.Writing.{is_special, written_byte, written, SpellsBytes, byte_tokens}
use Rattle.addr_words.proofs.Steps.{after_front-after, after_front-none, escape_read, last_read, next_read, short_read, at_end}

none_of : (a b c d e f g h i j : Bool) → (a || b || c || d || e || f || g || h || i || j) ≡ false
    → (a ≡ false) × (b ≡ false) × (c ≡ false) × (d ≡ false) × (e ≡ false) × (f ≡ false) × (g ≡ false) × (h ≡ false) × (i ≡ false) × (j ≡ false)
none_of true b c d e f g h i j no-one = absurd cc
none_of false true c d e f g h i j no-one = absurd cc
none_of false false true d e f g h i j no-one = absurd cc
none_of false false false true e f g h i j no-one = absurd cc
none_of false false false false true f g h i j no-one = absurd cc
none_of false false false false false true g h i j no-one = absurd cc
none_of false false false false false false true h i j no-one = absurd cc
none_of false false false false false false false true i j no-one = absurd cc
none_of false false false false false false false false true j no-one = absurd cc
none_of false false false false false false false false false true no-one = absurd cc
none_of false false false false false false false false false false no-one = (refl, refl, refl, refl, refl, refl, refl, refl, refl, refl)

-- a byte that isn't special stands for itself
plain_read : (at b : ℕ) (more : List ℕ) → is_special b ≡ false → tokens_from [] at (b ∷ more) ≡ after_front (token (Byte b) at (at + 1) ∷ []) (tokens_from [] (at + 1) more)
plain_read at b more e =
    let p = none_of (b == 92) (b == 34) (b == 39) (b == 40) (b == 91) (b == 123) (b == 58) (b == 44) (b == 33) (b == 61) e in
    let is_self : meaning None b ≡ Some (Byte b) = rw (p.1, p.2, p.6, p.7, p.9) refl in
    let is_outside : open_after [] at b ≡ [] = rw (p.1, p.2, p.3, p.4, p.5) refl in
    let goes_on : after_front (single (meaning None b) at) (tokens_from (open_after [] at b) (at + 1) more) ≡ after_front (token (Byte b) at (at + 1) ∷ []) (tokens_from [] (at + 1) more) =
    ap (λ (m : Option TokenKind). after_front (single m at) (tokens_from (open_after [] at b) (at + 1) more)) is_self
    ∙ ap (λ (around : List OpenEnclosure). after_front (token (Byte b) at (at + 1) ∷ []) (tokens_from around (at + 1) more)) is_outside in
    by_rest more p.0 (λ c. ap (λ (x : Bool). x && (c == 33)) p.8) ∙ goes_on
  where
    by_rest : (rest : List ℕ) → (b == 92) ≡ false → ((c : ℕ) → ((b == 33) && (c == 33)) ≡ false) → tokens_from [] at (b ∷ rest) ≡ after_front (single (meaning None b) at) (tokens_from (open_after [] at b) (at + 1) rest)
    by_rest [] escapes dual = last_read [] at b escapes
    by_rest (c ∷ cs) escapes dual = next_read [] at b c cs escapes (dual c)

-- a byte that is written is read as itself
byte_read : (special : Bool) (at b : ℕ) (more : List ℕ) → is_special b ≡ special
    → tokens_from [] at (written_byte b ++ more) ≡ after_front (token (Byte b) at (at + length (written_byte b)) ∷ []) (tokens_from [] (at + length (written_byte b)) more)
byte_read true at b more e =
    let w : written_byte b ≡ 92 ∷ b ∷ [] = ap (λ (s : Bool). cond s (92 ∷ b ∷ []) (b ∷ [])) e in
    subst (λ (w : List ℕ). tokens_from [] at (w ++ more) ≡ after_front (token (Byte b) at (at + length w) ∷ []) (tokens_from [] (at + length w) more)) (sym w) (escape_read [] at 92 b more refl)
byte_read false at b more e =
    let w : written_byte b ≡ b ∷ [] = ap (λ (s : Bool). cond s (92 ∷ b ∷ []) (b ∷ [])) e in
    subst (λ (w : List ℕ). tokens_from [] at (w ++ more) ≡ after_front (token (Byte b) at (at + length w) ∷ []) (tokens_from [] (at + length w) more)) (sym w) (plain_read at b more e)

-- bytes that are written are read as themselves, and then what follows them
pub written_read : (bytes : List ℕ) (at : ℕ) (rest : List ℕ) → tokens_from [] at (written bytes ++ rest) ≡ after_front (byte_tokens at bytes) (tokens_from [] (at + length (written bytes)) rest)
written_read [] at rest = ap (λ (n : ℕ). tokens_from [] n rest) (sym (add-zero at)) ∙ sym (after_front-none (tokens_from [] (at + 0) rest))
written_read (b ∷ bytes) at rest =
    let next : at + length (written_byte b) + length (written bytes) ≡ at + length (written_byte b ++ written bytes) = omega (arith, length-append (written_byte b) (written bytes)) in
    ap (tokens_from [] at) (append_assoc (written_byte b) (written bytes) rest)
    ∙ byte_read (is_special b) at b (written bytes ++ rest) refl
    ∙ ap (after_front (token (Byte b) at (at + length (written_byte b)) ∷ [])) (written_read bytes (at + length (written_byte b)) rest)
    ∙ after_front-after (token (Byte b) at (at + length (written_byte b)) ∷ []) (byte_tokens (at + length (written_byte b)) bytes) _
    ∙ ap (λ (n : ℕ). after_front (byte_tokens at (b ∷ bytes)) (tokens_from [] n rest)) next

kinds_of_bytes : (at : ℕ) (bytes : List ℕ) → map (λ t. t.kind) (byte_tokens at bytes) ≡ map Byte bytes
kinds_of_bytes at [] = refl
kinds_of_bytes at (b ∷ bytes) = ap (λ (ks : List TokenKind). Byte b ∷ ks) (kinds_of_bytes (at + length (written_byte b)) bytes)

pub written_spells : (bytes : List ℕ) → length (written bytes) ≤ 65536 → SpellsBytes (written bytes) bytes
written_spells bytes le = record {
  tokens = byte_tokens 0 bytes;
  read = short_read (written bytes) le ∙ ap (tokens_from [] 0) (sym (append-nil (written bytes))) ∙ written_read bytes 0 [] ∙ ap (after_front (byte_tokens 0 bytes)) (at_end [] (0 + length (written bytes))) ∙ ap Ok (append-nil (byte_tokens 0 bytes));
  each = kinds_of_bytes 0 bytes;
}

-- all bytes are written
pub all_written : (out bytes : List ℕ) (i : ℕ) → length bytes ≤ i → out ++ written (drop i bytes) ≡ written bytes → out ≡ written bytes
all_written out bytes i le so_far = sym (append-nil out) ∙ ap (λ (rest : List ℕ). out ++ written rest) (sym (drop_all i bytes le)) ∙ so_far

pub again : {E : Type 0} (bytes out : List ℕ) (r : Result (List ℕ) E) → out ≡ written bytes → IfOk r (λ word. word ≡ out) → IfOk r (λ word. length word ≤ 65536 → SpellsBytes word bytes)
again bytes out (Ok word) whole e = λ le.
    let is_written : word ≡ written bytes = e ∙ whole in
    subst (λ (w : List ℕ). SpellsBytes w bytes) (sym is_written) (written_spells bytes (subst (λ (w : List ℕ). length w ≤ 65536) is_written le))
again bytes out (Err f) whole e = tt
