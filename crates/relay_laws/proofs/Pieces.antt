-- Where borders are kept, nothing is read while bytes wait, and what waits is written as one piece.
use Rattle.std.proofs.Common.{◌≡◌, refl, sym, ap, ◌∙◌, ℕ, ◌-◌, ◌≤◌, min, Bool, true, false, not, cond, ◌&&◌, ◌==◌, List, [], ◌∷◌, ◌++◌, length, drop, arith, append_assoc, append-nil, length-append, Option}
use Rattle.std.proofs.lemmas.Bool.{eqb-true, false≢true}
use Rattle.std.proofs.Math.ListN.{drop_of_length-le}
use Rattle.std.proofs.Math.Seq.{drop-append_seam}
use Rattle.std.proofs.lemmas.List.{length-drop, append_cancel_left}
use Rattle.relay_model.specs.declared.places.Way.{Way}
use Rattle.relay_model.specs.declared.places.Way.TheVariants.{LeftToRight, RightToLeft}
use Rattle.relay_model.specs.declared.commands.Config.{Config}
use Rattle.relay_model.specs.declared.acts.Act.{Act}
use Rattle.relay_model.specs.declared.acts.Act.TheVariants.{Read, Wrote}
use Rattle.relay_model.specs.Places.{same_place}
use Rattle.relay_model.specs.Choices.{joined}
use Rattle.relay_model.specs.Configs.{input, output, options_of, keeps_borders}
use Rattle.relay_model.specs.Conversions.{at_most_left, read_size, packet_size, packet_cap}
use Rattle.relay_model.specs.History.{got, put, sent}
use Rattle.relay_model.specs.Transfers.{due, due_part, due_pieces, is_empty, backlog, greatest_read}
use Rattle.relay_model.specs.May.{Legal, BeginsWith, KeepsBorders, MayRead, MayWrite}
use Rattle.relay_laws.specs.Packets.{at_most_one, pieces}
use Rattle.relay_laws.proofs.Growth.{due_nil}
use Rattle.relay_laws.proofs.Permitted.{moved_to, reads_in_room}
use Rattle.relay_laws.proofs.Written.{written_due}

-- ---- what waits

-- all that is due and not yet written
abbrev waiting : Config → List Act → ℕ → Way → List ℕ
waiting c past s w = drop (length (put past (output c s w))) (due c w (got past (input c s w)))

-- where there is room for a packet, nothing waits
room_free : (keeps : Bool) (block cap : ℕ) (o : Option ℕ) (count b n : ℕ) → keeps ≡ true → 1 ≤ n → n ≤ cond keeps (packet_size block cap o count b) (read_size block o count b) → b ≡ 0
room_free false block cap o count b n keeps some in_room = absurd (false≢true keeps)
room_free true block cap o count b n keeps some in_room = go (b == 0) refl in_room
  where
    go : (t : Bool) → (b == 0) ≡ t → n ≤ cond t (at_most_left o count (min block cap)) 0 → b ≡ 0
    go true e h = eqb-true b 0 e
    go false e h = omega (arith, h, some)

reads_when_free : (c : Config) (past : List Act) (s : ℕ) (w : Way) (n : ℕ) → keeps_borders c w ≡ true → 1 ≤ n → n ≤ greatest_read c past s w → backlog c past s w ≡ 0
reads_when_free c past s w n keeps some in_room = room_free (keeps_borders c w) c.block (packet_cap (options_of c (output c 0 w)).conv) (options_of c (input c 0 w)).input.readbytes (length (got past (input c s w))) (backlog c past s w) n keeps some in_room

-- where nothing waits, as many bytes were written as are due
all_written : (written due : List ℕ) → BeginsWith written due → length due - length written ≡ 0 → length written ≡ length due
all_written written due (rest, e) none = let f = ap length e ∙ length-append written rest in omega (arith, f, none)

-- ---- one more piece

-- a piece that was read while nothing waited is all that waits
piece_read : (part : List ℕ) (pieces : List (List ℕ)) → joined (not (is_empty part)) pieces (part ∷ []) ≡ pieces ++ at_most_one part
piece_read [] pieces = sym (append-nil pieces)
piece_read (b ∷ bs) pieces = refl

abbrev first_of : List (List ℕ) → List ℕ
first_of [] = []
first_of (piece ∷ pieces) = piece

abbrev behind_first : List (List ℕ) → List (List ℕ)
behind_first [] = []
behind_first (piece ∷ pieces) = pieces

-- where one piece at most is a piece and more, it is that one
one_piece : (left bytes : List ℕ) (more : List (List ℕ)) → at_most_one left ≡ bytes ∷ more → (left ≡ bytes) × (more ≡ [])
one_piece [] bytes more e = let f = ap length e in let x : ⊥ = omega (arith, f) in absurd x
one_piece (b ∷ bs) bytes more e = (ap first_of e, sym (ap behind_first e))

only_piece : (left bytes : List ℕ) (more pieces : List (List ℕ)) → pieces ++ at_most_one left ≡ (pieces ++ bytes ∷ []) ++ more → (left ≡ bytes) × (more ≡ [])
only_piece left bytes more pieces e = one_piece left bytes more (append_cancel_left pieces (at_most_one left) (bytes ∷ more) (e ∙ append_assoc pieces (bytes ∷ []) more))

begins_kept : (keeps : Bool) (pieces due : List (List ℕ)) → keeps ≡ true → KeepsBorders keeps pieces due → BeginsWith pieces due
begins_kept true pieces due keeps h = h
begins_kept false pieces due keeps h = absurd (false≢true keeps)

writes_piece : (c : Config) (past : List Act) (s : ℕ) (w : Way) (bytes : List ℕ) → keeps_borders c w ≡ true → MayWrite c past (output c s w) bytes → BeginsWith (sent past (output c s w) ++ bytes ∷ []) (due_pieces c past s w)
writes_piece c past s LeftToRight bytes keeps m = begins_kept (keeps_borders c LeftToRight) (sent past (output c s LeftToRight) ++ bytes ∷ []) (due_pieces c past s LeftToRight) keeps m.pieces
writes_piece c past s RightToLeft bytes keeps m = begins_kept (keeps_borders c RightToLeft) (sent past (output c s RightToLeft) ++ bytes ∷ []) (due_pieces c past s RightToLeft) keeps m.pieces

-- where what waited was written, nothing waits
none_left : (written bytes due : List ℕ) → drop (length written) due ≡ bytes → drop (length (written ++ bytes)) due ≡ []
none_left written bytes due e =
    let f = sym (length-drop (length written) due) ∙ ap length e in
    let g = length-append written bytes in
    drop_of_length-le due (omega (arith, f, g))

-- ---- the law

pub packets_due : (c : Config) (n : ℕ) (past : List Act) (s : ℕ) (w : Way) → Legal c n past → keeps_borders c w ≡ true → due_pieces c past s w ≡ sent past (output c s w) ++ at_most_one (waiting c past s w)
packets_due c n [] s w legal keeps = sym (ap at_most_one (due_nil c w))
packets_due c n (Read p bytes ∷ past) s w legal keeps = go (same_place p (input c s w)) refl (packets_due c n past s w legal.1 keeps)
  where
    go : (b : Bool) → same_place p (input c s w) ≡ b → due_pieces c past s w ≡ sent past (output c s w) ++ at_most_one (waiting c past s w) → joined (b && not (is_empty (due_part c w (got past (input c s w)) bytes))) (due_pieces c past s w) (due_part c w (got past (input c s w)) bytes ∷ []) ≡ sent past (output c s w) ++ at_most_one (drop (length (put past (output c s w))) (due c w (joined b (got past (input c s w)) bytes)))
    go true e h =
        let m = moved_to (λ q. MayRead c past q (length bytes)) p (input c s w) e legal.0.1 in
        let free = reads_when_free c past s w (length bytes) keeps m.some_bytes (reads_in_room c past s w (length bytes) m) in
        let same = all_written (put past (output c s w)) (due c w (got past (input c s w))) (written_due c n past s w legal.1) free in
        let enough : length (due c w (got past (input c s w))) ≤ length (put past (output c s w)) = omega (arith, same) in
        let none : waiting c past s w ≡ [] = drop_of_length-le (due c w (got past (input c s w))) enough in
        let pieces = h ∙ ap (λ left. sent past (output c s w) ++ at_most_one left) none ∙ append-nil (sent past (output c s w)) in
        ap (λ before. joined (not (is_empty (due_part c w (got past (input c s w)) bytes))) before (due_part c w (got past (input c s w)) bytes ∷ [])) pieces
        ∙ piece_read (due_part c w (got past (input c s w)) bytes) (sent past (output c s w))
        ∙ ap (λ k. sent past (output c s w) ++ at_most_one (drop k (due c w (got past (input c s w) ++ bytes)))) (sym same)
    go false e h = h
packets_due c n (Wrote p bytes ∷ past) s w legal keeps = go (same_place p (output c s w)) refl (packets_due c n past s w legal.1 keeps)
  where
    go : (b : Bool) → same_place p (output c s w) ≡ b → due_pieces c past s w ≡ sent past (output c s w) ++ at_most_one (waiting c past s w) → due_pieces c past s w ≡ joined b (sent past (output c s w)) (bytes ∷ []) ++ at_most_one (drop (length (joined b (put past (output c s w)) bytes)) (due c w (got past (input c s w))))
    go true e h =
        let begun = writes_piece c past s w bytes keeps (moved_to (λ q. MayWrite c past q bytes) p (output c s w) e legal.0.1) in
        let one = only_piece (waiting c past s w) bytes begun.0 (sent past (output c s w)) (sym h ∙ begun.1) in
        let none = none_left (put past (output c s w)) bytes (due c w (got past (input c s w))) one.0 in
        begun.1 ∙ ap (λ more. (sent past (output c s w) ++ bytes ∷ []) ++ more) (one.1 ∙ sym (ap at_most_one none))
    go false e h = h
packets_due c n (act ∷ past) s w legal keeps = packets_due c n past s w legal.1 keeps

-- ---- where what is read is what is due

-- a further piece adds itself
plain_part : (c : Config) (w : Way) (before bytes : List ℕ) → ((xs : List ℕ) → due c w xs ≡ xs) → due_part c w before bytes ≡ bytes
plain_part c w before bytes plain = ap (λ xs. drop (length xs) (due c w (before ++ bytes))) (plain before) ∙ ap (drop (length before)) (plain (before ++ bytes)) ∙ drop-append_seam before bytes

some_there : (bytes : List ℕ) → 1 ≤ length bytes → is_empty bytes ≡ false
some_there [] h = let x : ⊥ = omega (arith, h) in absurd x
some_there (b ∷ bs) h = refl

plain_pieces : (c : Config) (n : ℕ) (past : List Act) (s : ℕ) (w : Way) → Legal c n past → ((xs : List ℕ) → due c w xs ≡ xs) → pieces past (input c s w) ≡ due_pieces c past s w
plain_pieces c n [] s w legal plain = refl
plain_pieces c n (Read p bytes ∷ past) s w legal plain = go (same_place p (input c s w)) refl (plain_pieces c n past s w legal.1 plain)
  where
    go : (b : Bool) → same_place p (input c s w) ≡ b → pieces past (input c s w) ≡ due_pieces c past s w → joined b (pieces past (input c s w)) (bytes ∷ []) ≡ joined (b && not (is_empty (due_part c w (got past (input c s w)) bytes))) (due_pieces c past s w) (due_part c w (got past (input c s w)) bytes ∷ [])
    go true e h =
        let m = moved_to (λ q. MayRead c past q (length bytes)) p (input c s w) e legal.0.1 in
        let part = plain_part c w (got past (input c s w)) bytes plain in
        ap (λ before. before ++ bytes ∷ []) h
        ∙ sym (ap (λ empty. joined (not empty) (due_pieces c past s w) (bytes ∷ [])) (some_there bytes m.some_bytes))
        ∙ sym (ap (λ piece. joined (not (is_empty piece)) (due_pieces c past s w) (piece ∷ [])) part)
    go false e h = h
plain_pieces c n (act ∷ past) s w legal plain = plain_pieces c n past s w legal.1 plain

pub packets_kept :
    (c : Config) (n : ℕ) (past : List Act) (s : ℕ) (w : Way) → Legal c n past → keeps_borders c w ≡ true → ((bytes : List ℕ) → due c w bytes ≡ bytes) →
    pieces past (input c s w) ≡ sent past (output c s w) ++ at_most_one (drop (length (put past (output c s w))) (got past (input c s w)))
packets_kept c n past s w legal keeps plain =
    plain_pieces c n past s w legal plain ∙ packets_due c n past s w legal keeps
    ∙ ap (λ due. sent past (output c s w) ++ at_most_one (drop (length (put past (output c s w))) due)) (plain (got past (input c s w)))
