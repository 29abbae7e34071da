-- What is open, kept with the outermost first and seen with the innermost first.
use Rattle.std.proofs.Common.{◌≡◌, List, [], ◌∷◌, ◌++◌, Option, Some, refl, ap, sym, ◌∙◌}
use Rattle.std.specs.Prelude.{reverse, option_map, slice_get}
use Rattle.std.proofs.lemmas.List.{reverse-append}
use Rattle.addr_words.specs.declared.nesting.OpenEnclosure.{OpenEnclosure}
use Rattle.addr_words.specs.Reading.{outermost}

outermost-last : (around : List OpenEnclosure) (o : OpenEnclosure) → outermost (around ++ o ∷ []) ≡ Some o.at
outermost-last [] o = refl
outermost-last (p ∷ []) o = refl
outermost-last (p ∷ q ∷ around) o = outermost-last (q ∷ around) o

outermost-reverse : (o : OpenEnclosure) (items : List OpenEnclosure) → outermost (reverse (o ∷ items)) ≡ Some o.at
outermost-reverse o items = ap outermost (reverse-append (o ∷ []) items) ∙ outermost-last (reverse items) o

-- the outermost is the first that is kept
pub outermost_first : (items : List OpenEnclosure) (first : Option OpenEnclosure) → first ≡ slice_get items 0 → option_map (λ o. o.at) first ≡ outermost (reverse items)
outermost_first [] first e = ap (option_map (λ o. o.at)) e
outermost_first (o ∷ items) first e = ap (option_map (λ o. o.at)) e ∙ sym (outermost-reverse o items)
