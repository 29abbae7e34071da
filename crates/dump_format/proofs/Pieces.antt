-- The front of what a piece was put into.
use Rattle.std.proofs.Common.{◌≡◌, ◌≢◌, ◌⊎◌, inl, inr, refl, sym, ap, ◌∙◌, ℕ, zero, suc, ◌+◌, ◌≤◌, ◌<◌, Bool, true, false, not, ◌&&◌, ◌==◌, List, [], ◌∷◌, ◌++◌, append_assoc, length, take, slice_set, if◌then◌else◌, arith}
use Rattle.std.proofs.lemmas.Bool.{eq-eqb, ne_eqb}
use Rattle.std.proofs.lemmas.List.{append-nil, length-take, take_more_set}
use Rattle.std.proofs.Math.Seq.{take-append-add}
use Rattle.relay_model.specs.Dumps.{newline}

take_less : (i j : ℕ) (xs : List ℕ) → i ≤ j → take i (take j xs) ≡ take i xs
take_less zero j xs b = refl
take_less (suc i) zero xs b = absurd (omega (arith, b))
take_less (suc i) (suc j) [] b = refl
take_less (suc i) (suc j) (x ∷ xs) b = ap (λ ys. x ∷ ys) (take_less i j xs (omega (arith, b)))

front_long : (a : ℕ) (xs : List ℕ) → a ≤ length xs → length (take a xs) ≡ a
front_long a xs b = let e = length-take a xs in omega (arith, b, e)

-- the front of a piece that was put behind what there was
pub piece_front : (a n : ℕ) (old new piece shown : List ℕ) → a ≤ length old → n ≤ length piece → take (a + length piece) new ≡ take a old ++ piece → take n piece ≡ shown → take (a + n) new ≡ take a old ++ shown
piece_front a n old new piece shown b m e f =
    sym (take_less (a + n) (a + length piece) new (omega (arith, m)))
    ∙ ap (take (a + n)) e
    ∙ ap (λ k. take (k + n) (take a old ++ piece)) (sym (front_long a old b))
    ∙ take-append-add (take a old) piece n
    ∙ ap (λ ys. take a old ++ ys) f

-- and a newline behind that
pub line_ended : (end byte : ℕ) (new before shown : List ℕ) (last : Bool) → last ≡ true → byte ≢ 10 → end < length new → take end new ≡ before ++ shown → take (end + 1) (slice_set new end 10) ≡ before ++ (shown ++ (if last && not (byte == 10) then newline else []))
line_ended end byte new before shown last e f b h =
    take_more_set new end 10 b
    ∙ ap (λ ys. ys ++ newline) h
    ∙ append_assoc before shown newline
    ∙ (let g = ne_eqb byte 10 f in rw (e, g) refl)

-- or none
pub line_open : (end byte : ℕ) (new before shown : List ℕ) (last : Bool) → ((last ≡ true) × (byte ≡ 10)) ⊎ (last ≡ false) → take end new ≡ before ++ shown → take end new ≡ before ++ (shown ++ (if last && not (byte == 10) then newline else []))
line_open end byte new before shown last (inl e) h = let g = eq-eqb byte 10 e.1 in h ∙ ap (λ ys. before ++ ys) (sym (append-nil shown)) ∙ rw (e.0, g) refl
line_open end byte new before shown last (inr e) h = h ∙ ap (λ ys. before ++ ys) (sym (append-nil shown)) ∙ rw e refl
