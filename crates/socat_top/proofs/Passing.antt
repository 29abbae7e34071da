-- What the standard streams passed, at the end of a desk.
use Rattle.std.proofs.Common.{◌≡◌, ℕ, Bool, true, false, List, Option, None, Some, IfSome, is_some, refl, sym, ap, subst, ◌∙◌}
use Rattle.relay_model.specs.Journals.{History}
use Rattle.port_table.specs.Endings.{EndsSo, PassedEnd}
use Rattle.port_trait.specs.Ports.{PortSeen}
use Rattle.port_desk.specs.Following.{Passed}

end_still : (passes : Bool) (before now : PortSeen) → PassedEnd passes before now → (now.gave ≡ before.gave) × (now.took ≡ before.took) × (now.ended ≡ before.ended)
end_still true before now passed = (passed.1.gave, passed.1.took, passed.1.ended)
end_still false before now same = (ap (λ (p : PortSeen). p.gave) same, ap (λ (p : PortSeen). p.took) same, ap (λ (p : PortSeen). p.ended) same)

-- the end of a port passes no bytes
pub ends_still : (passes : Bool) (before : PortSeen) (left : Bool) (after : PortSeen) → EndsSo passes before left after → (after.gave ≡ before.gave) × (after.took ≡ before.took) × (after.ended ≡ before.ended)
ends_still passes before left after ends =
    let still = end_still passes before ends.at_end ends.passed in
    (ends.stands.still.gave ∙ still.0, ends.stands.still.took ∙ still.1, ends.stands.ended ∙ still.2)

-- what was passed by the history that was told
pub passed_at : (told : Option History) (history : History) (gave gave' took took' said said' : Option (List ℕ)) (over over' : Bool) → told ≡ Some history → IfSome told (λ h. Passed h gave took said over) → gave' ≡ gave → took' ≡ took → said' ≡ said → over' ≡ over → Passed history gave' took' said' over'
passed_at told history gave gave' took took' said said' over over' is passed e f g k =
    let here : Passed history gave took said over = subst (λ slot. IfSome slot (λ h. Passed h gave took said over)) is passed in
    subst (λ given. Passed history given took' said' over') (sym e) (subst (λ taken. Passed history gave taken said' over') (sym f) (subst (λ spoken. Passed history gave took spoken over') (sym g) (subst (λ ended. Passed history gave took said ended) (sym k) here)))
