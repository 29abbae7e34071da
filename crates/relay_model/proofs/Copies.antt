-- The copies of acts in the other order.
use Rattle.std.proofs.Common.{◌≡◌, refl, sym, ap, ◌∙◌, List, [], ◌∷◌, ◌++◌, map, reverse}
use Rattle.std.proofs.lemmas.List.{map-append, reverse-append}
use Rattle.relay_model.specs.declared.acts.Act.{Act}
use Rattle.relay_model.specs.Acts.{copied_act}

pub copies_reversed : (acts : List Act) → reverse (map copied_act acts) ≡ map copied_act (reverse acts)
copies_reversed [] = refl
copies_reversed (act ∷ acts) =
    reverse-append (copied_act act ∷ []) (map copied_act acts)
    ∙ ap (λ x. x ++ copied_act act ∷ []) (copies_reversed acts)
    ∙ sym (ap (map copied_act) (reverse-append (act ∷ []) acts) ∙ map-append copied_act (reverse acts) (act ∷ []))
