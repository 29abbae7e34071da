-- A place is of no session but its own.
use Rattle.std.proofs.Common.{◌≡◌, refl, sym, ap, ◌∙◌, ℕ, Bool, true, false, ◌&&◌, ◌==◌}
use Rattle.std.proofs.lemmas.Bool.{eq-eqb, eqb-true, false_from_ne_true, false≢true}
use Rattle.relay_model.specs.declared.places.Place.{Place}
use Rattle.relay_model.specs.declared.commands.Config.{Config}
use Rattle.relay_model.specs.Configs.{places, things, is_place_of, is_of}
use Rattle.relay_laws.proofs.OwnThings.{among_own, each_place, each_thing}

pub place_of_its_own : (c : Config) (s : ℕ) (q : Place) → is_place_of c s q ≡ (q.session == s && is_place_of c q.session q)
place_of_its_own c s q = go (q.session == s) refl
  where
    go : (b : Bool) → (q.session == s) ≡ b → is_place_of c s q ≡ (b && is_place_of c q.session q)
    go true e = ap (λ t. is_place_of c t q) (sym (eqb-true q.session s e))
    go false e = false_from_ne_true (is_place_of c s q) (λ h. false≢true (sym e ∙ eq-eqb q.session s (among_own c s q (places c s) (each_place c s) h).0))

pub thing_of_its_own : (c : Config) (s : ℕ) (q : Place) → is_of c s q ≡ (q.session == s && is_of c q.session q)
thing_of_its_own c s q = go (q.session == s) refl
  where
    go : (b : Bool) → (q.session == s) ≡ b → is_of c s q ≡ (b && is_of c q.session q)
    go true e = ap (λ t. is_of c t q) (sym (eqb-true q.session s e))
    go false e = false_from_ne_true (is_of c s q) (λ h. false≢true (sym e ∙ eq-eqb q.session s (among_own c s q (things c s) (each_thing c s) h).0))

pub and_no : (b : Bool) → (b && false) ≡ false
and_no true = refl
and_no false = refl
