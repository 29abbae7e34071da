-- The openings of a session, before anything happened.
use Rattle.std.proofs.Common.{◌≡◌, ℕ, ◌+◌, ◌<◌, Bool, false, true, ◌&&◌, ◌||◌, List, [], ◌∷◌, ◌++◌, map, length, get_or, take, refl, sym, ap, ◌∙◌, subst}
use Rattle.std.specs.List.{All}
use Rattle.std.proofs.lemmas.Bool.{true≢false}
use Rattle.std.proofs.lemmas.List.{take_more}
use Rattle.std.proofs.lemmas.List.Elements.{All-append, All-map}
use Rattle.relay_model.specs.declared.places.Side.TheVariants.{Left, Right}
use Rattle.relay_model.specs.Configs.{places, parts, place_at}
use Rattle.relay_model.specs.declared.places.Place.{Place}
use Rattle.relay_model.specs.declared.commands.Config.{Config}
use Rattle.relay_model.specs.declared.acts.Act.{Act}
use Rattle.place_openings.specs.declared.one_place.Opening.{Opening}
use Rattle.relay_model.specs.Places.{same_place}
use Rattle.place_openings.specs.Stands.{IsOpening, Each}
use Rattle.place_openings.specs.Steps.{asked_by, has_asked}

each_append : (c : Config) (past : List Act) (ps : List Place) (os : List Opening) (p : Place) (o : Opening) → Each c past ps os → IsOpening c past p o → Each c past (ps ++ p ∷ []) (os ++ o ∷ [])
each_append c past [] [] p o each i = (i, tt)
each_append c past [] (x ∷ os) p o each i = absurd each
each_append c past (q ∷ ps) [] p o each i = absurd each
each_append c past (q ∷ ps) (x ∷ os) p o each i = (each.0, each_append c past ps os p o each.1 i)

-- one place more
pub one_place_more : (c : Config) (past : List Act) (ps : List Place) (i : ℕ) (d : Place) (os ns : List Opening) (o : Opening) → i < length ps → Each c past (take i ps) os → IsOpening c past (get_or ps i d) o → ns ≡ os ++ o ∷ [] → Each c past (take (i + 1) ps) ns
one_place_more c past ps i d os ns o lt each is e =
    subst (λ xs. Each c past xs ns) (sym (take_more ps i d lt)) (subst (Each c past (take i ps ++ get_or ps i d ∷ [])) (sym e) (each_append c past (take i ps) os (get_or ps i d) o each is))

-- the places of a session are no doors
pub no_doors : (c : Config) (s : ℕ) → All (λ p. p.door ≡ false) (places c s)
no_doors c s =
    All-append (λ p. p.door ≡ false) (map (place_at s Left) (parts c Left)) (map (place_at s Right) (parts c Right)) (All-map (λ p. p.door ≡ false) (place_at s Left) (parts c Left) (λ k d lt. refl)) (All-map (λ p. p.door ≡ false) (place_at s Right) (parts c Right) (λ k d lt. refl))

-- ---- no child was asked for

unasked_last : (os : List Opening) (o : Opening) (p : Place) → has_asked os p ≡ false → o.asked_child ≡ false → has_asked (os ++ o ∷ []) p ≡ false
unasked_last [] o p none fresh = ap (λ a. (a && same_place p o.place) || false) fresh
unasked_last (x ∷ os) o p none fresh = go (asked_by p x) none (unasked_last os o p)
  where
    go : (a : Bool) → (a || has_asked os p) ≡ false → (has_asked os p ≡ false → o.asked_child ≡ false → has_asked (os ++ o ∷ []) p ≡ false) → (a || has_asked (os ++ o ∷ []) p) ≡ false
    go true e ih = absurd (true≢false e)
    go false e ih = ih e fresh

pub unasked_more : (os ns : List Opening) (o : Opening) → ((p : Place) → has_asked os p ≡ false) → o.asked_child ≡ false → ns ≡ os ++ o ∷ [] → (p : Place) → has_asked ns p ≡ false
unasked_more os ns o none fresh e p = ap (λ xs. has_asked xs p) e ∙ unasked_last os o p (none p) fresh
