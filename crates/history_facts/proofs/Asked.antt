-- What was asked since the last turn.
use Rattle.std.proofs.Common.{◌≡◌, refl, sym, ap, subst, ◌∙◌, ℕ, suc, ◌≤◌, Bool, true, false, not, cond, ◌&&◌, ◌||◌, ◌==◌, arith}
use Rattle.std.proofs.lemmas.Bool.{eq-eqb, ne_eqb, false_from_ne_true, false≢true}
use Rattle.relay_model.specs.declared.places.Part.{Part}
use Rattle.relay_model.specs.declared.places.Part.TheVariants.{Both, Reading, Writing}
use Rattle.relay_model.specs.declared.places.Way.{Way}
use Rattle.relay_model.specs.declared.places.Way.TheVariants.{LeftToRight, RightToLeft}
use Rattle.relay_model.specs.declared.places.Place.{Place}
use Rattle.relay_model.specs.declared.commands.Config.{Config}
use Rattle.relay_model.specs.Places.{same_place, same_part}
use Rattle.relay_model.specs.Configs.{input, output, way_from}
use Rattle.relay_laws.proofs.PlaceLemmas.{same_place_equal, same_place_self}
use Rattle.history_facts.specs.Told.{AskedBefore}

pub asked_more : (here : Bool) (number turn : ℕ) (asked : Bool) → AskedBefore number turn asked → AskedBefore (cond here turn number) turn (here || asked)
asked_more true number turn asked h = record { is = sym (eq-eqb turn turn refl); bound = omega arith }
asked_more false number turn asked h = h

pub asked_never : (turn : ℕ) → AskedBefore 0 (suc turn) false
asked_never turn =
    let apart : 0 ≡ suc turn → ⊥ = λ e. omega (arith, e) in
    record { is = sym (ne_eqb 0 (suc turn) apart); bound = omega arith }

pub asked_less : (here : Bool) (number turn : ℕ) (asked : Bool) → AskedBefore number (suc turn) asked → AskedBefore (cond here 0 number) (suc turn) (not here && asked)
asked_less true number turn asked h = asked_never turn
asked_less false number turn asked h = h

-- the next turn forgets it
pub asked_no_more : (number turn : ℕ) (asked : Bool) → AskedBefore number turn asked → AskedBefore number (suc turn) false
asked_no_more number turn asked h =
    let b = h.bound in
    let apart : number ≡ suc turn → ⊥ = λ e. omega (arith, b, e) in
    record { is = sym (ne_eqb number (suc turn) apart); bound = omega (arith, b) }

part_self : (p : Part) → same_part p p ≡ true
part_self Both = refl
part_self Reading = refl
part_self Writing = refl

ends_same : (p q : Part) (b : Bool) → (same_part p p && true && b) ≡ (same_part q q && true && b)
ends_same p q b = ap (λ t. t && true && b) (part_self p ∙ sym (part_self q))

-- two outputs are the same where their inputs are
outputs_agree : (c : Config) (s t : ℕ) (v w : Way) → same_place (output c s v) (output c t w) ≡ same_place (input c s v) (input c t w)
outputs_agree c s t LeftToRight LeftToRight = ends_same (output c s LeftToRight).part (input c s LeftToRight).part (s == t)
outputs_agree c s t LeftToRight RightToLeft = refl
outputs_agree c s t RightToLeft LeftToRight = refl
outputs_agree c s t RightToLeft RightToLeft = ends_same (output c s RightToLeft).part (input c s RightToLeft).part (s == t)

pub output_follows : (c : Config) (q : Place) (s : ℕ) (w : Way) → same_place q (input c q.session (way_from q.side)) ≡ true → same_place (output c q.session (way_from q.side)) (output c s w) ≡ same_place q (input c s w)
output_follows c q s w h = outputs_agree c q.session s (way_from q.side) w ∙ ap (λ p. same_place p (input c s w)) (sym (same_place_equal q (input c q.session (way_from q.side)) h))

way_of_input : (c : Config) (s : ℕ) (w : Way) → way_from (input c s w).side ≡ w
way_of_input c s LeftToRight = refl
way_of_input c s RightToLeft = refl

is_its_input : (c : Config) (q : Place) (s : ℕ) (w : Way) → q ≡ input c s w → same_place q (input c q.session (way_from q.side)) ≡ true
is_its_input c q s w e =
    subst (λ p. same_place p (input c p.session (way_from p.side)) ≡ true) (sym e)
    (ap (λ v. same_place (input c s w) (input c (input c s w).session v)) (way_of_input c s w) ∙ same_place_self (input c s w))

-- a place that isn't the input of its own side's direction is no direction's
pub no_input : (c : Config) (q : Place) (s : ℕ) (w : Way) → same_place q (input c q.session (way_from q.side)) ≡ false → same_place q (input c s w) ≡ false
no_input c q s w h = false_from_ne_true (same_place q (input c s w)) (λ e. false≢true (sym h ∙ is_its_input c q s w (same_place_equal q (input c s w) e)))

pub forgets : (c : Config) (q i o : Place) (v : Way) (s : ℕ) (w : Way) → v ≡ way_from q.side → i ≡ input c q.session v → o ≡ output c q.session v → same_place q i ≡ true → same_place o (output c s w) ≡ same_place q (input c s w)
forgets c q i o v s w ev ei eo h =
    ap (λ p. same_place p (output c s w)) (eo ∙ ap (output c q.session) ev)
    ∙ output_follows c q s w (sym (ap (same_place q) (ei ∙ ap (input c q.session) ev)) ∙ h)
