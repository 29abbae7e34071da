-- A page that grew by several pieces, and what these name.
use Rattle.std.proofs.Common.{◌≡◌, ℕ, List, [], ◌∷◌, ◌++◌, map, refl, sym, ap, ◌∙◌, append_assoc}
use Rattle.std.specs.List.{flat_map}
use Rattle.place_report.specs.Shown.{quoted}
use Rattle.place_report.specs.Naming.{Names, Adds}

-- one piece behind others that are grouped to the right
pub grown : (old mid new first rest : List ℕ) → mid ≡ old ++ first → new ≡ mid ++ rest → new ≡ old ++ (first ++ rest)
grown old mid new first rest e f = f ∙ ap (λ (text : List ℕ). text ++ rest) e ∙ append_assoc old first rest

-- five pieces
pub grown_by_five : (old p q r s new a b c d e : List ℕ) → p ≡ old ++ a → q ≡ p ++ b → r ≡ q ++ c → s ≡ r ++ d → new ≡ s ++ e → new ≡ old ++ (a ++ (b ++ (c ++ (d ++ e))))
grown_by_five old p q r s new a b c d e g h i j k =
    grown old p new a (b ++ (c ++ (d ++ e))) g (grown p q new b (c ++ (d ++ e)) h (grown q r new c (d ++ e) i (grown r s new d e j k)))

-- three pieces
pub grown_by_three : (old p q new a b c : List ℕ) → p ≡ old ++ a → q ≡ p ++ b → new ≡ q ++ c → new ≡ old ++ (a ++ (b ++ c))
grown_by_three old p q new a b c e f g = grown old p new a (b ++ c) e (grown p q new b c f g)

-- six pieces
pub grown_by_six : (old p q r s t new a b c d e f : List ℕ) → p ≡ old ++ a → q ≡ p ++ b → r ≡ q ++ c → s ≡ r ++ d → t ≡ s ++ e → new ≡ t ++ f → new ≡ old ++ (a ++ (b ++ (c ++ (d ++ (e ++ f)))))
grown_by_six old p q r s t new a b c d e f g h i j k l =
    grown old p new a (b ++ (c ++ (d ++ (e ++ f)))) g (grown_by_five p q r s t new b c d e f h i j k l)

-- two names, each between words
pub adds_two : (old p q r s new a b c d e : List ℕ) → p ≡ old ++ a → q ≡ p ++ b → r ≡ q ++ c → s ≡ r ++ d → new ≡ s ++ e → Adds (b ∷ d ∷ []) old new
adds_two old p q r s new a b c d e g h i j k = record {
  added = a ++ (b ++ (c ++ (d ++ e)));
  grew = grown_by_five old p q r s new a b c d e g h i j k;
  named = (a, c ++ (d ++ e), refl, (c, e, refl, tt));
}

-- three names, each between words
pub adds_three : (old t u p q r s new a b x c y d e : List ℕ) → t ≡ old ++ a → u ≡ t ++ b → p ≡ u ++ x → q ≡ p ++ c → r ≡ q ++ y → s ≡ r ++ d → new ≡ s ++ e → Adds (b ∷ c ∷ d ∷ []) old new
adds_three old t u p q r s new a b x c y d e f g h i j k l = record {
  added = a ++ (b ++ (x ++ (c ++ (y ++ (d ++ e)))));
  grew = grown old t new a (b ++ (x ++ (c ++ (y ++ (d ++ e))))) f (grown t u new b (x ++ (c ++ (y ++ (d ++ e)))) g (grown_by_five u p q r s new x c y d e h i j k l));
  named = (a, x ++ (c ++ (y ++ (d ++ e))), refl, (x, y ++ (d ++ e), refl, (y, e, refl, tt)));
}

-- ---- any number of words, each between quotes

-- what stands in front of a text or behind it takes no name away
names_behind : (names : List (List ℕ)) (text more : List ℕ) → Names names text → Names names (text ++ more)
names_behind [] text more n = tt
names_behind (name ∷ names) text more n =
    (n.0, n.1 ++ more, ap (λ (whole : List ℕ). whole ++ more) n.2 ∙ append_assoc n.0 (name ++ n.1) more ∙ ap (λ (rest : List ℕ). n.0 ++ rest) (append_assoc name n.1 more), names_behind names n.1 more n.3)

names_in_front : (names : List (List ℕ)) (front text : List ℕ) → Names names text → Names names (front ++ text)
names_in_front [] front text n = tt
names_in_front (name ∷ names) front text n =
    (front ++ n.0, n.1, ap (λ (whole : List ℕ). front ++ whole) n.2 ∙ sym (append_assoc front n.0 (name ++ n.1)), n.3)

names_each : (words : List (List ℕ)) → Names (map quoted words) (flat_map (λ word. 32 ∷ quoted word) words)
names_each [] = tt
names_each (word ∷ words) = (32 ∷ [], flat_map (λ other. 32 ∷ quoted other) words, refl, names_each words)

-- words between other pieces
pub adds_each : (old p q new a b : List ℕ) (words : List (List ℕ)) → p ≡ old ++ a → q ≡ p ++ flat_map (λ word. 32 ∷ quoted word) words → new ≡ q ++ b → Adds (map quoted words) old new
adds_each old p q new a b words e f g =
    let each = flat_map (λ word. 32 ∷ quoted word) words in
    record {
      added = a ++ (each ++ b);
      grew = grown old p new a (each ++ b) e (grown p q new each b f g);
      named = names_in_front (map quoted words) a (each ++ b) (names_behind (map quoted words) each b (names_each words));
    }
