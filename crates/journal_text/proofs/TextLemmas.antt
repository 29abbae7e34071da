-- Texts: which acts they are of, and which line is the first bad one.
use Rattle.std.proofs.Common.{◌≡◌, ℕ, ◌+◌, ◌<◌, List, [], ◌∷◌, ◌++◌, map, reverse, length, Some, None, refl, sym, ap, ◌∙◌, subst, append_assoc, arith}
use Rattle.std.specs.List.{AllByRecursion}
use Rattle.std.proofs.lemmas.List.{append-nil, reverse-append, reverse-reverse, length-append, length-map}
use Rattle.std.proofs.lemmas.Option.{same_Some}
use Rattle.relay_model.specs.Acts.{copied_act}
use Rattle.relay_model.specs.declared.acts.Act.{Act}
use Rattle.journal_text.specs.Lines.{body_of, line_of, spelt}
use Rattle.journal_text.specs.Ranges.{IsAct}
use Rattle.journal_text.specs.Reading.{line_in}
use Rattle.journal_text.specs.Texts.{IsTextOf, BeginsWithNoAct, IsFirstBadLine, kept}
use Rattle.journal_text.proofs.ActLemmas.{line_again, line_takes}
use Rattle.journal_text.proofs.ByteLemmas.{cons_is}
use Rattle.journal_text.proofs.WritingLemmas.{lines_of, spelt_in_order}

abbrev AllActs : List Act → Type 0
AllActs acts = AllByRecursion IsAct acts

pub no_act_from_none : (text : List ℕ) → line_in text ≡ None → BeginsWithNoAct text
no_act_from_none text none a rest fits is = let some = ap line_in is ∙ line_again a rest fits in absurd cc

nothing_begins : BeginsWithNoAct []
nothing_begins a rest fits is =
    let size : 0 ≡ length (line_of a ++ rest) = ap length is in
    absurd (omega (arith, size, length-append (line_of a) rest, length-append (body_of a) (10 ∷ [])))

-- ---- the same text from the front

same_line : (a b : Act) (r s : List ℕ) → IsAct a → IsAct b → line_of a ++ r ≡ line_of b ++ s → (copied_act a ≡ copied_act b) × (r ≡ s)
same_line a b r s fits others is =
    let left : Act × List ℕ = (copied_act a, r) in
    let right : Act × List ℕ = (copied_act b, s) in
    let same : left ≡ right = same_Some left right (sym (line_again a r fits) ∙ ap line_in is ∙ line_again b s others) in
    (ap (λ (x : Act × List ℕ). x.0) same, ap (λ (x : Act × List ℕ). x.1) same)

same_front : (a b : List Act) (r s : List ℕ) → AllActs a → AllActs b → BeginsWithNoAct r → BeginsWithNoAct s → lines_of a ++ r ≡ lines_of b ++ s → (map copied_act a ≡ map copied_act b) × (r ≡ s)
same_front [] [] r s left right none bare is = (refl, is)
same_front [] (y ∷ b) r s left right none bare is = absurd (none y (lines_of b ++ s) right.0 (is ∙ append_assoc (line_of y) (lines_of b) s))
same_front (x ∷ a) [] r s left right none bare is = absurd (bare x (lines_of a ++ r) left.0 (sym is ∙ append_assoc (line_of x) (lines_of a) r))
same_front (x ∷ a) (y ∷ b) r s left right none bare is =
    let first = same_line x y (lines_of a ++ r) (lines_of b ++ s) left.0 right.0 (sym (append_assoc (line_of x) (lines_of a) r) ∙ is ∙ append_assoc (line_of y) (lines_of b) s) in
    let others = same_front a b r s left.1 right.1 none bare first.1 in
    (cons_is _ _ _ _ first.0 others.0, others.1)

-- ---- newest first

abbrev onto : List Act → List Act → List Act
onto [] done = done
onto (a ∷ past) done = onto past (a ∷ done)

onto_is : (acts done : List Act) → onto acts done ≡ reverse acts ++ done
onto_is [] done = refl
onto_is (a ∷ past) done =
    onto_is past (a ∷ done)
    ∙ sym (append_assoc (reverse past) (a ∷ []) done)
    ∙ ap (λ (x : List Act). x ++ done) (sym (reverse-append (a ∷ []) past))

each_onto : (acts done : List Act) → AllActs acts → AllActs done → AllActs (onto acts done)
each_onto [] done left right = right
each_onto (a ∷ past) done left right = each_onto past (a ∷ done) left.1 (left.0, right)

map_onto : (acts done : List Act) → map copied_act (onto acts done) ≡ onto (map copied_act acts) (map copied_act done)
map_onto [] done = refl
map_onto (a ∷ past) done = map_onto past (a ∷ done)

reversed : (acts : List Act) → onto acts [] ≡ reverse acts
reversed acts = onto_is acts [] ∙ append-nil (reverse acts)

each_reversed : (acts : List Act) → AllActs acts → AllActs (reverse acts)
each_reversed acts each = subst (λ (x : List Act). AllActs x) (reversed acts) (each_onto acts [] each tt)

pub each_in_order : (acts : List Act) → AllActs (reverse acts) → AllActs acts
each_in_order acts each = subst (λ (x : List Act). AllActs x) (reverse-reverse acts) (each_reversed (reverse acts) each)

map_reversed : (acts : List Act) → map copied_act (reverse acts) ≡ reverse (map copied_act acts)
map_reversed acts = ap (map copied_act) (sym (reversed acts)) ∙ map_onto acts [] ∙ reversed (map copied_act acts)

same_spelling : (a b : List Act) (r s : List ℕ) → AllActs a → AllActs b → BeginsWithNoAct r → BeginsWithNoAct s → spelt a ++ r ≡ spelt b ++ s → (kept a ≡ kept b) × (r ≡ s)
same_spelling a b r s left right none bare is =
    let h = same_front (reverse a) (reverse b) r s (each_reversed a left) (each_reversed b right) none bare
    (ap (λ (t : List ℕ). t ++ r) (sym (spelt_in_order a)) ∙ is ∙ ap (λ (t : List ℕ). t ++ s) (spelt_in_order b)) in
    (sym (reverse-reverse (kept a)) ∙ ap reverse (sym (map_reversed a) ∙ h.0 ∙ map_reversed b) ∙ reverse-reverse (kept b), h.1)

-- ---- the laws

pub same_acts : (text : List ℕ) (a b : List Act) → IsTextOf text a → IsTextOf text b → kept a ≡ kept b
same_acts text a b left right =
    (same_spelling a b [] [] left.each right.each nothing_begins nothing_begins (append-nil (spelt a) ∙ sym left.spelling ∙ right.spelling ∙ sym (append-nil (spelt b)))).0

pub no_bad_line : (text : List ℕ) (acts : List Act) (number : ℕ) → IsTextOf text acts → IsFirstBadLine text number → ⊥
no_bad_line text acts number good line =
    line.some (sym (same_spelling acts line.before [] line.rest good.each line.each nothing_begins line.bad (append-nil (spelt acts) ∙ sym good.spelling ∙ line.whole)).1)

pub same_bad_line : (text : List ℕ) (m n : ℕ) → IsFirstBadLine text m → IsFirstBadLine text n → m ≡ n
same_bad_line text m n left right =
    let same = (same_spelling left.before right.before left.rest right.rest left.each right.each left.bad right.bad (sym left.whole ∙ right.whole)).0 in
    omega (arith, ap length same, length-map left.before copied_act, length-map right.before copied_act, left.count, right.count)

-- ---- how far reading has come

-- these acts were read, each as a journal keeps it, and this rest is still to be read
pub record IsRead (text : List ℕ) (acts : List Act) (rest : List ℕ) : Type 0 where
  pub whole : text ≡ spelt acts ++ rest
  pub each : AllByRecursion IsAct acts
  pub copies : acts ≡ kept acts

pub begun : (text : List ℕ) → IsRead text [] text
begun text = record { whole = refl; each = tt; copies = refl }

pub one_more : (text : List ℕ) (acts : List Act) (rest : List ℕ) (a : Act) (later : List ℕ) → IsRead text acts rest → line_in rest ≡ Some (a, later) → IsRead text (a ∷ acts) later × (length later < length rest)
one_more text acts rest a later so_far read =
    let line = line_takes rest a later read in
    let spelling : text ≡ spelt (a ∷ acts) ++ later =
    so_far.whole ∙ ap (λ (t : List ℕ). spelt acts ++ t) line.line ∙ sym (append_assoc (spelt acts) (line_of a) later) in (
      record { whole = spelling; each = (line.fits, so_far.each); copies = cons_is _ _ _ _ (sym line.copied) so_far.copies },
      omega (arith, ap length line.line, length-append (line_of a) later, length-append (body_of a) (10 ∷ [])),
    )

pub all_read : (text : List ℕ) (acts : List Act) (rest : List ℕ) → IsRead text acts rest → length rest ≡ 0 → IsTextOf text acts
all_read text acts [] so_far empty = record { each = so_far.each; spelling = so_far.whole ∙ append-nil (spelt acts) }
all_read text acts (x ∷ rest) so_far empty = absurd (omega arith)

pub bad_line : (text : List ℕ) (acts : List Act) (rest : List ℕ) (number : ℕ) → IsRead text acts rest → 0 < length rest → number ≡ length acts + 1 → line_in rest ≡ None → IsFirstBadLine text number
bad_line text acts rest number so_far some count none = record {
  before = acts;
  rest = rest;
  each = so_far.each;
  count = count;
  whole = so_far.whole;
  some = λ empty. omega (arith, ap length empty);
  bad = no_act_from_none rest none;
}

-- ---- what the answer says of other acts and lines

pub only_acts : (text : List ℕ) (acts : List Act) → IsTextOf text acts → acts ≡ kept acts → (others : List Act) → IsTextOf text others → acts ≡ kept others
only_acts text acts good copies others also = copies ∙ same_acts text acts others good also

pub own_text : (acts : List Act) → AllByRecursion IsAct acts → IsTextOf (spelt acts) acts
own_text acts each = record { each = each; spelling = refl }
