-- The script of a number, in which nothing was read yet.
use Rattle.std.proofs.Common.{◌≡◌, ◌+◌, ◌*◌, ◌≤◌, ℕ, zero, suc, Bool, true, false, ◌&&◌, ◌||◌, ◌==◌, nat_lt, List, [], ◌∷◌, ◌++◌, refl, sym, ap, ◌∙◌, arith, append_assoc, inl, inr, ◌⊎◌, if◌then◌else◌}
use Rattle.std.proofs.lemmas.Bool.{cases_eq, false≢true, eq-eqb, eqb-true, ne_eqb}
use Rattle.std.proofs.lemmas.Bool.Decides.{nat_tests}
use Rattle.relay_model.specs.declared.acts.Act.{Act}
use Rattle.relay_model.specs.declared.places.Place.{Place}
use Rattle.relay_model.specs.declared.places.Side.TheVariants.{Left, Right}
use Rattle.relay_model.specs.declared.places.Part.TheVariants.{Both}
use Rattle.relay_model.specs.Places.{same_place, same_side, same_part, same_bool}
use Rattle.relay_model.specs.Transfers.{is_empty}
use Rattle.scripted_world.specs.declared.lines.PlacedItem.{PlacedItem}
use Rattle.scripted_world.specs.declared.reading.DueRead.{DueRead}
use Rattle.scripted_world.specs.Reads.{bytes_of}
use Rattle.socat_top.specs.Left.{ends_last, is_end, left_of}
use Rattle.socat_top.specs.Numbered.{GivesScripted}
use Rattle.socat_top.specs.Scripts.{end_line, left_place, piece_line, pieces, reads_of, right_place, session_bytes, session_reads, session_state}
use Rattle.socat_top.specs.Stream.{bytes_after, state_after}
use Rattle.socat_top.proofs.LeftLemmas.{empty-in_order, empty_is_nil, nil_is_empty}
use Rattle.socat_top.proofs.StreamLemmas.{bytes_after-add, bytes_after-none}

-- ---- the bytes

left_of-append : (xs ys : List (PlacedItem DueRead)) (p : Place) → left_of (xs ++ ys) p ≡ left_of xs p ++ left_of ys p
left_of-append [] ys p = refl
left_of-append (line ∷ xs) ys p = go (same_place line.place p) (left_of-append xs ys p)
  where
    go : (b : Bool) → left_of (xs ++ ys) p ≡ left_of xs p ++ left_of ys p → (if b then bytes_of line.item.reading ++ left_of (xs ++ ys) p else left_of (xs ++ ys) p) ≡ (if b then bytes_of line.item.reading ++ left_of xs p else left_of xs p) ++ left_of ys p
    go true ih = ap (λ bs. bytes_of line.item.reading ++ bs) ih ∙ sym (append_assoc (bytes_of line.item.reading) (left_of xs p) (left_of ys p))
    go false ih = ih

nil_right : (xs : List ℕ) → xs ++ [] ≡ xs
nil_right [] = refl
nil_right (x ∷ xs) = ap (λ ys. x ∷ ys) (nil_right xs)

left_of-pieces : (s k x : ℕ) (p : Place) → left_of (pieces s k x) p ≡ (if same_place (left_place s) p then bytes_after (k * 512) x else [])
unfolding pieces
left_of-pieces s zero x p = go (same_place (left_place s) p)
  where
    go : (b : Bool) → [] ≡ (if b then bytes_after (zero * 512) x else [])
    go true = sym (bytes_after-none x) ∙ ap (λ k. bytes_after k x) (let e : 0 ≡ zero * 512 = omega arith in e)
    go false = refl
left_of-pieces s (suc k) x p = left_of-append (pieces s k x) (piece_line s k (state_after (k * 512) x) ∷ []) p ∙ ap (λ bs. bs ++ left_of (piece_line s k (state_after (k * 512) x) ∷ []) p) (left_of-pieces s k x p) ∙ go (same_place (left_place s) p)
  where
    go : (b : Bool) → (if b then bytes_after (k * 512) x else []) ++ (if b then bytes_after 512 (state_after (k * 512) x) ++ [] else []) ≡ (if b then bytes_after (suc k * 512) x else [])
    go true = ap (λ bs. bytes_after (k * 512) x ++ bs) (nil_right (bytes_after 512 (state_after (k * 512) x))) ∙ sym (bytes_after-add (k * 512) 512 x) ∙ ap (λ j. bytes_after j x) (let e : k * 512 + 512 ≡ suc k * 512 = omega arith in e)
    go false = refl

left_of-ends : (s : ℕ) (p : Place) → left_of (end_line (left_place s) ∷ end_line (right_place s) ∷ []) p ≡ []
left_of-ends s p = go (same_place (left_place s) p) (same_place (right_place s) p)
  where
    go : (b c : Bool) → let none : List ℕ = [] in (if b then none ++ (if c then none ++ none else none) else (if c then none ++ none else none)) ≡ none
    go true true = refl
    go true false = refl
    go false true = refl
    go false false = refl

left_of-session : (s x : ℕ) (p : Place) → left_of (session_reads s x) p ≡ (if same_place (left_place s) p then bytes_after 65536 x else [])
left_of-session s x p =
    left_of-append (pieces s 128 x) (end_line (left_place s) ∷ end_line (right_place s) ∷ []) p
    ∙ ap (λ bs. left_of (pieces s 128 x) p ++ bs) (left_of-ends s p)
    ∙ nil_right (left_of (pieces s 128 x) p)
    ∙ left_of-pieces s 128 x p

lt_more : (s k : ℕ) → nat_lt s (suc k) ≡ (nat_lt s k || k == s)
lt_more s k = grind (arith, nat_tests)

apart_below : (s k : ℕ) → nat_lt s k ≡ true → (k == s) ≡ false
apart_below s k e = grind (arith, nat_tests)

-- one session more
one_more : (f : ℕ → List ℕ) (s k : ℕ) (b d : Bool) → (b ≡ true → d ≡ false) → (d ≡ true → k ≡ s) → (if b then f s else []) ++ (if d then f k else []) ≡ (if b || d then f s else [])
one_more f s k true true off same = absurd (false≢true (sym (off refl)))
one_more f s k true false off same = nil_right (f s)
one_more f s k false true off same = ap f (same refl)
one_more f s k false false off same = refl

more : (f : ℕ → List ℕ) (x : Bool) (s k : ℕ) → (if x && s == s && nat_lt s k then f s else []) ++ (if x && k == s then f k else []) ≡ (if x && s == s && nat_lt s (suc k) then f s else [])
more f true s k =
    ap (λ t. (if t && nat_lt s k then f s else []) ++ (if k == s then f k else [])) (eq-eqb s s refl)
    ∙ one_more f s k (nat_lt s k) (k == s) (apart_below s k) (eqb-true k s)
    ∙ ap (λ b. if b then f s else []) (sym (lt_more s k))
    ∙ ap (λ t. if t && nat_lt s (suc k) then f s else []) (sym (eq-eqb s s refl))
more f false s k = refl

none_below : (b : Bool) (s : ℕ) (xs : List ℕ) → [] ≡ (if b && nat_lt s 0 then xs else [])
none_below true s xs = ap (λ b. if b then xs else []) (let e : false ≡ nat_lt s 0 = grind (arith, nat_tests) in e)
none_below false s xs = refl

left_of-reads : (n k : ℕ) (p : Place) → left_of (reads_of n k) p ≡ (if same_place (left_place p.session) p && nat_lt p.session k then session_bytes n p.session else [])
unfolding reads_of
left_of-reads n zero p = none_below (same_place (left_place p.session) p) p.session (session_bytes n p.session)
left_of-reads n (suc k) p =
    left_of-append (reads_of n k) (session_reads k (session_state n k)) p
    ∙ ap (λ bs. bs ++ left_of (session_reads k (session_state n k)) p) (left_of-reads n k p)
    ∙ ap (λ bs. (if same_place (left_place p.session) p && nat_lt p.session k then session_bytes n p.session else []) ++ bs) (left_of-session k (session_state n k) p)
    ∙ more (session_bytes n) (same_side Left p.side && same_part Both p.part && same_bool false p.door) p.session k

-- ---- the ends

-- some of these items ends the input of a place
abbrev ends_at : List (PlacedItem DueRead) → Place → Bool
ends_at [] p = false
ends_at (line ∷ lines) p = same_place line.place p && is_end line.item.reading || ends_at lines p

ends_at-append : (xs ys : List (PlacedItem DueRead)) (p : Place) → ends_at xs p ≡ false → ends_at ys p ≡ false → ends_at (xs ++ ys) p ≡ false
ends_at-append [] ys p e f = f
ends_at-append (line ∷ xs) ys p e f = go (same_place line.place p && is_end line.item.reading) e (λ g. ends_at-append xs ys p g f)
  where
    go : (b : Bool) → (b || ends_at xs p) ≡ false → (ends_at xs p ≡ false → ends_at (xs ++ ys) p ≡ false) → (b || ends_at (xs ++ ys) p) ≡ false
    go true g ih = absurd (false≢true (sym g))
    go false g ih = ih g

-- items without an end stand before others in whatever order
in_order-before : (xs ys : List (PlacedItem DueRead)) (p : Place) → ends_at xs p ≡ false → ends_last ys p ≡ true → ends_last (xs ++ ys) p ≡ true
in_order-before [] ys p e f = f
in_order-before (line ∷ xs) ys p e f = go (same_place line.place p && is_end line.item.reading) e (λ g. in_order-before xs ys p g f)
  where
    go : (b : Bool) → (b || ends_at xs p) ≡ false → (ends_at xs p ≡ false → ends_last (xs ++ ys) p ≡ true) → (if b then is_empty (left_of (xs ++ ys) p) else ends_last (xs ++ ys) p) ≡ true
    go true g ih = absurd (false≢true (sym g))
    go false g ih = ih g

-- items without bytes stand behind others in whatever order
in_order-behind : (xs ys : List (PlacedItem DueRead)) (p : Place) → left_of ys p ≡ [] → ends_last xs p ≡ true → ends_last (xs ++ ys) p ≡ true
in_order-behind [] ys p none e = empty-in_order ys p none
in_order-behind (line ∷ xs) ys p none e = go (same_place line.place p && is_end line.item.reading) e (in_order-behind xs ys p none)
  where
    go : (b : Bool) → (if b then is_empty (left_of xs p) else ends_last xs p) ≡ true → (ends_last xs p ≡ true → ends_last (xs ++ ys) p ≡ true) → (if b then is_empty (left_of (xs ++ ys) p) else ends_last (xs ++ ys) p) ≡ true
    go true g ih = nil_is_empty (left_of (xs ++ ys) p) (left_of-append xs ys p ∙ ap (λ bs. bs ++ left_of ys p) (empty_is_nil (left_of xs p) g) ∙ none)
    go false g ih = ih g

and_false : (b : Bool) → (b && false) ≡ false
and_false true = refl
and_false false = refl

ends_at-pieces : (s k x : ℕ) (p : Place) → ends_at (pieces s k x) p ≡ false
unfolding pieces
ends_at-pieces s zero x p = refl
ends_at-pieces s (suc k) x p = ends_at-append (pieces s k x) (piece_line s k (state_after (k * 512) x) ∷ []) p (ends_at-pieces s k x p) (ap (λ b. b || false) (and_false (same_place (left_place s) p)))

-- a session ends its inputs behind all of its pieces
session-in_order : (s x : ℕ) (p : Place) → ends_last (session_reads s x) p ≡ true
session-in_order s x p =
    in_order-before (pieces s 128 x) (end_line (left_place s) ∷ end_line (right_place s) ∷ []) p (ends_at-pieces s 128 x p)
    (empty-in_order (end_line (left_place s) ∷ end_line (right_place s) ∷ []) p (left_of-ends s p))

-- where the session of a place is another one
other_session : (x : Bool) (s t : ℕ) → (s == t) ≡ false → (x && s == t) ≡ false
other_session true s t e = e
other_session false s t e = refl

ends_at-session : (s x : ℕ) (p : Place) → (s == p.session) ≡ false → ends_at (session_reads s x) p ≡ false
ends_at-session s x p e =
    ends_at-append (pieces s 128 x) (end_line (left_place s) ∷ end_line (right_place s) ∷ []) p (ends_at-pieces s 128 x p)
    (go (same_place (left_place s) p) (same_place (right_place s) p) (other_session (same_side Left p.side && same_part Both p.part && same_bool false p.door) s p.session e) (other_session (same_side Right p.side && same_part Both p.part && same_bool false p.door) s p.session e))
  where
    go : (b c : Bool) → b ≡ false → c ≡ false → ((b && true) || ((c && true) || false)) ≡ false
    go true c f g = absurd (false≢true (sym f))
    go false true f g = absurd (false≢true (sym g))
    go false false f g = refl

not_same : (s t : ℕ) → (s ≡ t → ⊥) → (s == t) ≡ false
not_same s t h = ne_eqb s t h

ends_at-reads : (n k : ℕ) (p : Place) → k ≤ p.session → ends_at (reads_of n k) p ≡ false
unfolding reads_of
ends_at-reads n zero p few = refl
ends_at-reads n (suc k) p few =
    ends_at-append (reads_of n k) (session_reads k (session_state n k)) p (ends_at-reads n k p (omega arith)) (ends_at-session k (session_state n k) p (not_same k p.session (λ e. omega arith)))

pub reads-in_order : (n k : ℕ) (p : Place) → ends_last (reads_of n k) p ≡ true
unfolding reads_of
reads-in_order n zero p = refl
reads-in_order n (suc k) p = go (cases_eq k p.session) (reads-in_order n k p)
  where
    go : (k ≡ p.session) ⊎ (k ≡ p.session → ⊥) → ends_last (reads_of n k) p ≡ true → ends_last (reads_of n k ++ session_reads k (session_state n k)) p ≡ true
    go (inl e) before = in_order-before (reads_of n k) (session_reads k (session_state n k)) p (ends_at-reads n k p (omega arith)) (session-in_order k (session_state n k) p)
    go (inr e) before =
        in_order-behind (reads_of n k) (session_reads k (session_state n k)) p
        (left_of-session k (session_state n k) p ∙ ap (λ b. if b then bytes_after 65536 (session_state n k) else []) (other_session (same_side Left p.side && same_part Both p.part && same_bool false p.door) k p.session (not_same k p.session e)))
        before

-- in the beginning nothing was read, and all is left
pub starts_whole : (n : ℕ) → GivesScripted n [] (reads_of n 50)
starts_whole n = record {
  given = λ p. left_of-reads n 50 p;
  whole = λ p met. absurd (false≢true met);
  in_order = λ p. reads-in_order n 50 p;
}

-- so is any world that begins so
pub starts_so : (n : ℕ) (acts : List Act) (lines : List (PlacedItem DueRead)) → acts ≡ [] → lines ≡ reads_of n 50 → GivesScripted n acts lines
starts_so n acts lines e f = rw (e, f) (starts_whole n)
