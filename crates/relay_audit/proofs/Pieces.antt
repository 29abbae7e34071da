-- Where one piece at most waits, the next piece is all that waits.
use Rattle.std.proofs.Common.{◌≡◌, refl, sym, ap, subst, ◌∙◌, ℕ, suc, ◌-◌, ◌≤◌, Bool, true, false, not, ◌&&◌, ◌==◌, List, [], ◌∷◌, ◌++◌, length, drop, arith}
use Rattle.std.proofs.lemmas.Bool.{false≢true, and_parts, and_from, eqb-true, eq-eqb, ne_eqb}
use Rattle.std.proofs.Math.Seq.{drop-append_seam}
use Rattle.std.proofs.Math.ListN.{drop_of_length-le}
use Rattle.std.proofs.lemmas.List.{length-drop}
use Rattle.relay_model.specs.declared.places.Place.{Place}
use Rattle.relay_model.specs.declared.commands.Config.{Config}
use Rattle.relay_model.specs.declared.acts.Act.{Act}
use Rattle.relay_model.specs.Places.{same_place}
use Rattle.relay_model.specs.Configs.{input, output, way_to, keeps_borders}
use Rattle.relay_model.specs.History.{got, put, sent}
use Rattle.relay_model.specs.Arming.{armed_to_write}
use Rattle.relay_model.specs.Transfers.{due, due_pieces, backlog}
use Rattle.relay_model.specs.Moments.{passed}
use Rattle.relay_model.specs.Rest.{is_going}
use Rattle.relay_model.specs.May.{BeginsWith}
use Rattle.relay_model.specs.Audit.{same_list, begins, begins_pieces, may_offer}
use Rattle.relay_laws.specs.Packets.{at_most_one}
use Rattle.relay_laws.proofs.PlaceLemmas.{same_place_equal}
use Rattle.relay_audit.specs.Pasts.{WrittenStands, OnePieceWaits}

list_is : (xs : List ℕ) → same_list xs xs ≡ true
list_is [] = refl
list_is (x ∷ xs) = and_from (x == x) (same_list xs xs) (eq-eqb x x refl) (list_is xs)

-- a common beginning decides nothing
past_same : (first xs ys : List (List ℕ)) → begins_pieces (first ++ xs) (first ++ ys) ≡ begins_pieces xs ys
past_same [] xs ys = refl
past_same (p ∷ ps) xs ys = ap (λ b. b && begins_pieces (ps ++ xs) (ps ++ ys)) (list_is p) ∙ past_same ps xs ys

begins_after : (first bytes all : List ℕ) → begins (first ++ bytes) all ≡ true → begins bytes (drop (length first) all) ≡ true
begins_after [] bytes all e = e
begins_after (x ∷ xs) bytes [] e = absurd (false≢true e)
begins_after (x ∷ xs) bytes (y ∷ ys) e = begins_after xs bytes ys (and_parts (x == y) (begins (xs ++ bytes) ys) e).1

same_next : (m n : ℕ) → (suc m == suc n) ≡ (m == n)
same_next m n = go (m == n) refl
  where
    go : (b : Bool) → (m == n) ≡ b → (suc m == suc n) ≡ b
    go true e = eq-eqb (suc m) (suc n) (ap suc (eqb-true m n e))
    go false e = ne_eqb (suc m) (suc n) (λ f. let g : m ≡ n = omega (arith, f) in false≢true (sym e ∙ eq-eqb m n g))

-- a list that begins with some bytes is those bytes where it is as long
same_by_length : (bytes xs : List ℕ) → begins bytes xs ≡ true → (length xs == length bytes) ≡ same_list bytes xs
same_by_length [] [] e = refl
same_by_length [] (x ∷ xs) e = ne_eqb (length (x ∷ xs)) 0 (λ f. let y : ⊥ = omega (arith, f) in y)
same_by_length (b ∷ bs) [] e = absurd (false≢true e)
same_by_length (b ∷ bs) (x ∷ xs) e =
    let a = and_parts (b == x) (begins bs xs) e in
    same_next (length xs) (length bs) ∙ same_by_length bs xs a.1 ∙ sym (ap (λ t. t && same_list bs xs) a.0)

and_true : (b : Bool) → b ≡ (b && true)
and_true true = refl
and_true false = refl

only_piece : (bytes xs : List ℕ) → 1 ≤ length bytes → begins bytes xs ≡ true → (length xs == length bytes) ≡ begins_pieces (bytes ∷ []) (at_most_one xs)
only_piece [] xs some e = let x : ⊥ = omega (arith, some) in absurd x
only_piece (b ∷ bs) [] some e = absurd (false≢true e)
only_piece (b ∷ bs) (x ∷ xs) some e = same_by_length (b ∷ bs) (x ∷ xs) e ∙ and_true (same_list (b ∷ bs) (x ∷ xs))

next_of : (written bytes all : List ℕ) (before pieces : List (List ℕ)) → 1 ≤ length bytes → begins (written ++ bytes) all ≡ true → pieces ≡ before ++ at_most_one (drop (length written) all) → (length all - length written == length bytes) ≡ begins_pieces (before ++ bytes ∷ []) pieces
next_of written bytes all before pieces some e one =
    ap (λ n. n == length bytes) (sym (length-drop (length written) all))
    ∙ only_piece bytes (drop (length written) all) some (begins_after written bytes all e)
    ∙ sym (past_same before (bytes ∷ []) (at_most_one (drop (length written) all)))
    ∙ ap (begins_pieces (before ++ bytes ∷ [])) (sym one)

-- what is offered at a place is offered at its direction's output
is_output : (c : Config) (past : List Act) (p : Place) → may_offer c past p ≡ true → p ≡ output c p.session (way_to p.side)
is_output c past p e =
    let same = same_place p (output c p.session (way_to p.side)) in
    let goes = is_going c past p.session (way_to p.side) in
    let before = not (passed c past p.session (way_to p.side)) in
    let a = and_parts (same && goes && before) (armed_to_write past p) e in
    let b = and_parts (same && goes) before a.0 in
    same_place_equal p (output c p.session (way_to p.side)) (and_parts same goes b.0).0

pub all_dropped : (n : ℕ) (xs : List ℕ) → length xs ≤ n → drop n xs ≡ []
all_dropped n xs h = drop_of_length-le xs h

same_first : (first bytes rest : List ℕ) → begins (first ++ bytes) (first ++ rest) ≡ begins bytes rest
same_first [] bytes rest = refl
same_first (x ∷ xs) bytes rest = ap (λ b. b && begins (xs ++ bytes) (xs ++ rest)) (eq-eqb x x refl) ∙ same_first xs bytes rest

begins_rest : (written bytes all : List ℕ) → BeginsWith written all → begins bytes (drop (length written) all) ≡ begins (written ++ bytes) all
begins_rest written bytes all (rest, e) =
    ap (λ list. begins bytes (drop (length written) list)) e
    ∙ ap (begins bytes) (drop-append_seam written rest)
    ∙ sym (same_first written bytes rest)
    ∙ ap (begins (written ++ bytes)) (sym e)

-- of what is due, the bytes that were written needn't be compared again
pub next_bytes : (c : Config) (past : List Act) (p : Place) (bytes : List ℕ) → WrittenStands c past → may_offer c past p ≡ true → begins bytes (drop (length (put past p)) (due c (way_to p.side) (got past (input c p.session (way_to p.side))))) ≡ begins (put past p ++ bytes) (due c (way_to p.side) (got past (input c p.session (way_to p.side))))
next_bytes c past p bytes written offered =
    begins_rest (put past p) bytes (due c (way_to p.side) (got past (input c p.session (way_to p.side))))
    (subst (λ q. BeginsWith (put past q) (due c (way_to p.side) (got past (input c p.session (way_to p.side))))) (sym (is_output c past p offered)) (written p.session (way_to p.side)))

pub piece_is_next : (c : Config) (past : List Act) (p : Place) (bytes : List ℕ) → OnePieceWaits c past → keeps_borders c (way_to p.side) ≡ true → may_offer c past p ≡ true → 1 ≤ length bytes → begins (put past p ++ bytes) (due c (way_to p.side) (got past (input c p.session (way_to p.side)))) ≡ true → (backlog c past p.session (way_to p.side) == length bytes) ≡ begins_pieces (sent past p ++ bytes ∷ []) (due_pieces c past p.session (way_to p.side))
piece_is_next c past p bytes one keeps offered some e =
    let all = due c (way_to p.side) (got past (input c p.session (way_to p.side))) in
    let at = sym (is_output c past p offered) in
    ap (λ q. length all - length (put past q) == length bytes) at
    ∙ next_of (put past p) bytes all (sent past p) (due_pieces c past p.session (way_to p.side)) some e
    (one p.session (way_to p.side) keeps ∙ ap (λ q. sent past q ++ at_most_one (drop (length (put past q)) all)) at)
