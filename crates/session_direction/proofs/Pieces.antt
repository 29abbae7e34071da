-- Bytes that wait as one piece, before and after a read and a write.
use Rattle.std.proofs.Common.{◌≡◌, refl, sym, ap, ◌∙◌, ℕ, ◌≤◌, Bool, true, false, not, cond, List, [], ◌∷◌, ◌++◌, length, drop, take, Option, Some, None, ◌⊎◌, inl, inr, arith}
use Rattle.std.proofs.lemmas.List.{append-nil, append_cancel_left, take_all}
use Rattle.std.proofs.Math.Seq.{drop-append_seam}
use Rattle.relay_model.specs.Choices.{joined}
use Rattle.relay_model.specs.Transfers.{is_empty}
use Rattle.relay_buffer.specs.Flows.{at_most, most_at_once}
use Rattle.session_direction.specs.Directions.{as_pieces}

joined_piece : (sent : List (List ℕ)) (piece : List ℕ) → joined (not (is_empty piece)) sent (piece ∷ []) ≡ sent ++ as_pieces piece
joined_piece sent [] = sym (append-nil sent)
joined_piece sent (b ∷ bs) = refl

-- a piece that is read while nothing waits is what waits then, and an empty one changes nothing
pub pieces_read : (pieces sent : List (List ℕ)) (put old new due_old due_new : List ℕ) →
    pieces ≡ sent ++ as_pieces old → put ++ old ≡ due_old → put ++ new ≡ due_new → (old ≡ []) ⊎ (due_new ≡ due_old) →
    joined (not (is_empty (drop (length due_old) due_new))) pieces (drop (length due_old) due_new ∷ []) ≡ sent ++ as_pieces new
pieces_read pieces sent put old new due_old due_new p e n (inl none) =
    let all : due_old ≡ put = sym e ∙ ap (λ l. put ++ l) none ∙ append-nil put in
    let piece : drop (length due_old) due_new ≡ new = ap (λ l. drop (length l) due_new) all ∙ ap (drop (length put)) (sym n) ∙ drop-append_seam put new in
    let before : pieces ≡ sent = p ∙ ap (λ l. sent ++ as_pieces l) none ∙ append-nil sent in
    ap (λ l. joined (not (is_empty l)) pieces (l ∷ [])) piece ∙ ap (λ l. joined (not (is_empty new)) l (new ∷ [])) before ∙ joined_piece sent new
pieces_read pieces sent put old new due_old due_new p e n (inr same) =
    let kept : new ≡ old = append_cancel_left put new old (n ∙ same ∙ sym e) in
    let piece : drop (length due_old) due_new ≡ [] = ap (drop (length due_old)) (same ∙ sym (append-nil due_old)) ∙ drop-append_seam due_old [] in
    ap (λ l. joined (not (is_empty l)) pieces (l ∷ [])) piece ∙ p ∙ ap (λ l. sent ++ as_pieces l) (sym kept)

at_most_none : (left : Option ℕ) → at_most left 0 ≡ 0
at_most_none None = refl
at_most_none (Some n) = omega arith

-- a packet is read only while nothing waits
pub waits_or_reads : (cap : ℕ) (block : ℕ) (left : Option ℕ) (over : Bool) (waits bytes : List ℕ) → length bytes ≤ cond over 0 (at_most left (most_at_once (Some cap) block (length waits))) → (waits ≡ []) ⊎ (bytes ≡ [])
waits_or_reads cap block left over [] bytes le = inl refl
waits_or_reads cap block left over (b ∷ waits) [] le = inr refl
waits_or_reads cap block left true (b ∷ waits) (x ∷ bytes) le = absurd (grind arith)
waits_or_reads cap block left false (b ∷ waits) (x ∷ bytes) le = let none = at_most_none left in absurd (grind arith)

-- a piece that is written whole stood where it waited
pub pieces_written : (pieces sent : List (List ℕ)) (waits : List ℕ) (n : ℕ) → 1 ≤ n → n ≡ length waits → pieces ≡ sent ++ as_pieces waits → pieces ≡ sent ++ take n waits ∷ []
pieces_written pieces sent [] n some e p = absurd (omega (arith, some, e))
pieces_written pieces sent (b ∷ bs) n some e p = p ∙ ap (λ l. sent ++ l ∷ []) (sym (take_all n (b ∷ bs) (omega (arith, e))))
