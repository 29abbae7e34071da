-- Each move keeps the rule of an ordered queue.
use Rattle.std.proofs.Common.{◌≡◌, ◌≢◌, ℕ, zero, suc, true, false, true≢false, List, [], ◌∷◌, ◌++◌, length, set, sym, refl, ap, ◌∙◌, subst, ⊎_elim, append_assoc}
use mathlib.Core.Option.{some, some-ne-none}
use lib.ListN.{get_elem?}
use Rattle.std.proofs.lemmas.List.{append-nil}
use Rattle.crossbeam_queue.specs.Fifo.{Pushes, Pops, Forks, Merges, Learns}
use Rattle.crossbeam_queue.proofs.Lists.{at_set, at_snoc}
use Rattle.ring_queue.specs.declared.roles.PassView.{PassView}
use Rattle.ring_queue.specs.Order.{view_of, IsSound, Knows, Ordered, HasSent, HasTaken}

module _ {T : Type 0} where
  at_end : (l : List (PassView T)) (a b : PassView T) (j : ℕ) → get_elem? l j ≢ some b → get_elem? (l ++ a ∷ []) j ≡ some b → j ≡ length l
  at_end [] a b zero n e = refl
  at_end [] a b (suc j) n e = absurd (some-ne-none b (sym e))
  at_end (x ∷ xs) a b zero n e = absurd (n e)
  at_end (x ∷ xs) a b (suc j) n e = ap suc (at_end xs a b j n e)

  abbrev Every : (ℕ → PassView T → Type 0) → List (PassView T) → Type 0
  Every F views = (port : ℕ) (v : PassView T) → get_elem? views port ≡ some v → F port v

  every_set : (F : ℕ → PassView T → Type 0) (views : List (PassView T)) (port : ℕ) (w : PassView T) → F port w → ((j : ℕ) (u : PassView T) → j ≢ port → get_elem? views j ≡ some u → F j u) → Every F (set views port w)
  every_set F views port w mine others j u e = ⊎_elim (λ (x : (j ≡ port) × (w ≡ u)). subst (λ (y : ℕ × PassView T). F y.0 y.1) (λ i. (sym x.0 i, x.1 i)) mine)
      (λ (x : (j ≢ port) × (get_elem? views j ≡ some u)). others j u x.0 x.1) (at_set views port j w u e)

  sound_more : (F : List T → T → Type 0) (before xs : List T) (x : T) → IsSound F before xs → F (before ++ xs) x → IsSound F before (xs ++ x ∷ [])
  sound_more F before [] x sound fits = (subst (λ p. F p x) (append-nil before) fits, tt)
  sound_more F before (y ∷ ys) x sound fits = (sound.0, sound_more F (before ++ y ∷ []) ys x sound.1 (subst (λ p. F p x) (sym (append_assoc before (y ∷ []) ys)) fits))

  sound_next : (F : List T → T → Type 0) (before xs : List T) (x : T) (rest : List T) → IsSound F before (xs ++ x ∷ rest) → F (before ++ xs) x
  sound_next F before [] x rest sound = subst (λ p. F p x) (sym (append-nil before)) sound.0
  sound_next F before (y ∷ ys) x rest sound = subst (λ p. F p x) (append_assoc before (y ∷ []) ys) (sound_next F (before ++ y ∷ []) ys x rest sound.1)

  pub begins : (F : List T → T → Type 0) → Ordered F [] (view_of true true [] [] ∷ [])
  begins F = (0, 0, [], [], refl, tt, every_set (Knows 0 0 [] []) (view_of true true [] [] ∷ []) 0 (view_of true true [] []) ((λ _. (refl, refl)), λ _. (refl, refl)) (λ j u other e. absurd (other (at_end [] _ u j (λ x. some-ne-none u (sym x)) e))))

  pub sends : (F : List T → T → Type 0) (n port : ℕ) (v : PassView T) (x : T) → v.sends ≡ true → F v.sent x → Pushes (Ordered F) n port v x (λ w. w ≡ view_of v.sends v.takes (v.sent ++ x ∷ []) v.taken)
  sends F n port v x may fits items views _ h at = let w : PassView T = view_of v.sends v.takes (v.sent ++ x ∷ []) v.taken in let mine = h.6 port v at in let sent = h.2 ++ x ∷ [] in (
    w,
    (
      h.0,
      h.1,
      sent,
      h.3,
      ap (λ l. l ++ x ∷ []) h.4 ∙ append_assoc h.3 items (x ∷ []),
      sound_more F [] h.2 x h.5 (subst (λ p. F p x) (mine.0 may).1 fits),
      every_set (Knows h.0 h.1 sent h.3) views port w ((λ _. ((mine.0 may).0, ap (λ l. l ++ x ∷ []) (mine.0 may).1)), mine.1)
          (λ j u other e. ((λ p. absurd (other (((h.6 j u e).0 p).0 ∙ sym (mine.0 may).0))), (h.6 j u e).1)),
    ),
    refl,
  )

  pub takes : (F : List T → T → Type 0) (port : ℕ) (v : PassView T) → v.takes ≡ true → Pops (Ordered F) port v (λ x w. (w ≡ view_of v.sends v.takes v.sent (v.taken ++ x ∷ [])) × F v.taken x)
  takes F port v may x items views h at = let w : PassView T = view_of v.sends v.takes v.sent (v.taken ++ x ∷ []) in let mine = h.6 port v at in let taken = h.3 ++ x ∷ [] in (
    w,
    (
      h.0,
      h.1,
      h.2,
      taken,
      h.4 ∙ sym (append_assoc h.3 (x ∷ []) items),
      h.5,
      every_set (Knows h.0 h.1 h.2 taken) views port w (mine.0, λ _. ((mine.1 may).0, ap (λ l. l ++ x ∷ []) (mine.1 may).1))
          (λ j u other e. ((h.6 j u e).0, λ p. absurd (other (((h.6 j u e).1 p).0 ∙ sym (mine.1 may).0)))),
    ),
    (refl, subst (λ p. F p x) (sym (mine.1 may).1) (sound_next F [] h.3 x items (subst (λ all. IsSound F [] all) h.4 h.5))),
  )

  pub forks : (F : List T → T → Type 0) (port : ℕ) (v : PassView T) → v.sends ≡ true → v.takes ≡ true → Forks (Ordered F) port v (view_of true false v.sent []) (view_of false true [] v.taken)
  forks F port v a b items views h at = let l : PassView T = view_of true false v.sent [] in let r : PassView T = view_of false true [] v.taken in let mine = h.6 port v at in let vs : List (PassView T) = set views port l in
      let Old : ℕ → PassView T → Type 0 = λ j u. (u.sends ≡ true → (j ≡ h.0) × (u.sent ≡ h.2)) × (u.takes ≢ true) in
      let old : Every Old vs = every_set Old views port l ((λ _. mine.0 a), λ p. true≢false (sym p)) (λ j u other e. ((h.6 j u e).0, λ p. other (((h.6 j u e).1 p).0 ∙ sym (mine.1 b).0))) in (
        h.0,
        length vs,
        h.2,
        h.3,
        h.4,
        h.5,
        λ j u e. ⊎_elim (λ x. ((old j u x).0, λ p. absurd ((old j u x).1 p)))
            (λ (is : r ≡ u). ((λ p. absurd (true≢false (sym (ap (λ (y : PassView T). y.sends) is ∙ p)))), λ p. (at_end vs r u j (λ x. (old j u x).1 p) e, ap (λ (y : PassView T). y.taken) (sym is) ∙ (mine.1 b).1))) (at_snoc vs r u j e),
      )

  pub merges : (F : List T → T → Type 0) (port : ℕ) (v : PassView T) (other : ℕ) (u : PassView T) → v.sends ≡ true → u.takes ≡ true → Merges (Ordered F) port v other u (view_of true true v.sent u.taken) (view_of false false [] [])
  merges F port v other u a b items views h at two at' = let both : PassView T = view_of true true v.sent u.taken in let mine = h.6 port v at in let vs : List (PassView T) = set views port both in
      let was : get_elem? views other ≡ some u = ⊎_elim (λ x. absurd (two x.0)) (λ x. x.1) (at_set views port other both u at') in let theirs = (h.6 other u was).1 b in
      let Now : ℕ → PassView T → Type 0 = λ j y. j ≢ other → Knows h.0 port h.2 h.3 j y in
      let now : Every Now vs = every_set Now views port both (λ _. ((λ _. mine.0 a), λ _. (refl, theirs.1))) (λ j y _ e apart. ((h.6 j y e).0, λ p. absurd (apart (((h.6 j y e).1 p).0 ∙ sym theirs.0)))) in
      (h.0, port, h.2, h.3, h.4, h.5, every_set (Knows h.0 port h.2 h.3) vs other (view_of false false [] []) ((λ p. absurd (true≢false (sym p))), λ p. absurd (true≢false (sym p))) (λ j y apart e. now j y e apart))

  pub has_sent : (F : List T → T → Type 0) (port : ℕ) (v : PassView T) → v.sends ≡ true → Learns (Ordered F) port v (λ items. HasSent v items)
  has_sent F port v a items views h at = (h.3, ((h.6 port v at).0 a).1 ∙ h.4)

  pub has_taken : (F : List T → T → Type 0) (port : ℕ) (v : PassView T) → v.takes ≡ true → Learns (Ordered F) port v (λ items. HasTaken F v items)
  has_taken F port v b items views h at = (h.2, h.4 ∙ ap (λ l. l ++ items) (sym ((h.6 port v at).1 b).1), h.5)

  pub totals : (F : List T → T → Type 0) (port : ℕ) (v : PassView T) → v.sends ≡ true → v.takes ≡ true → Learns (Ordered F) port v (λ items. (v.sent ≡ v.taken ++ items) × IsSound F [] v.sent)
  totals F port v a b items views h at = let mine = h.6 port v at in ((mine.0 a).1 ∙ h.4 ∙ ap (λ l. l ++ items) (sym (mine.1 b).1), subst (λ all. IsSound F [] all) (sym (mine.0 a).1) h.5)
