-- Lists of named halves to which more are appended.
use Rattle.std.proofs.Common.{◌≡◌, inl, inr, ℕ, Bool, true, false, List, [], ◌∷◌, ◌++◌, Option, None, Some, sym, ap, ◌∙◌, append_assoc, refl, subst}
use Rattle.std.specs.Bool.{OnTrue, OnFalse}
use Rattle.std.proofs.lemmas.List.{append-nil}
use Rattle.relay_model.specs.declared.places.Half.{Half}
use Rattle.port_trait.specs.Keys.{KeysListed}
use Rattle.socket_ports.specs.Pollers.{Appends, Extends, NamesBeneath}

pub appends_none : (xs : List (ℕ × Half)) → Appends xs xs
appends_none xs = ([], sym (append-nil xs))

pub extends_none : (list : KeysListed) → Extends list list
extends_none list = record { room = refl; appended = appends_none list.entries }

pub extends_pushed : (pushed : Bool) (before now : KeysListed) (entry : ℕ × Half) → OnTrue pushed (now ≡ record before { entries = before.entries ++ entry ∷ [] }) → OnFalse pushed (now ≡ before) → Extends before now
extends_pushed true before now entry added same = subst (λ (list : KeysListed). Extends before list) (sym added) (record { room = refl; appended = (entry ∷ [], refl) })
extends_pushed false before now entry added same = subst (λ (list : KeysListed). Extends before list) (sym same) (extends_none before)

pub appends_then : (a b c : List (ℕ × Half)) → Appends a b → Appends b c → Appends a c
appends_then a b c first then = (first.0 ++ then.0, then.1 ∙ ap (λ mid. mid ++ then.0) first.1 ∙ append_assoc a first.0 then.0)

-- what the poller beneath named stays in front
pub names_then : (owed : Bool) (told : Option (List (ℕ × Half))) (a b : List (ℕ × Half)) → NamesBeneath owed told a → Appends a b → NamesBeneath owed told b
names_then owed told a b (inl is) more = inl is
names_then owed None a b (inr named) more = inr tt
names_then owed (Some below) a b (inr named) more = inr (appends_then below a b named more)
