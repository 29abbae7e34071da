-- What a turn names of another session.
use Rattle.std.proofs.Common.{◌≡◌, refl, sym, ap, ◌∙◌, ℕ, ◌==◌, Bool, true, false, ◌&&◌, ◌||◌, List, [], ◌∷◌, ◌++◌, map, Option}
use Rattle.std.proofs.lemmas.Bool.{false≢true}
use Rattle.relay_model.specs.declared.acts.Act.{Act}
use Rattle.relay_model.specs.declared.acts.Act.TheVariants as acts
use Rattle.relay_model.specs.declared.commands.Config.{Config}
use Rattle.relay_model.specs.declared.places.Place.{Place}
use Rattle.relay_model.specs.declared.places.Part.{Part}
use Rattle.relay_model.specs.declared.places.Side.{Side}
use Rattle.relay_model.specs.declared.places.Side.TheVariants.{Left, Right}
use Rattle.relay_model.specs.declared.places.Half.TheVariants.{ToRead}
use Rattle.relay_model.specs.declared.readiness.ReadyAt.{ReadyAt}
use Rattle.relay_model.specs.Configs.{parts, place_at, places}
use Rattle.relay_model.specs.History.{woken}
use Rattle.relay_model.specs.Arming.{armed_to_accept}
use Rattle.relay_model.specs.Places.{same_place, same_side, same_part, same_bool, same_half, door_of}
use Rattle.place_openings.specs.declared.one_place.Opening.{Opening}
use Rattle.place_openings.specs.Queries.{of_session}
use Rattle.place_openings.specs.Stands.{Each, AreOpenings, IsOpening, kept}
use Rattle.place_openings.proofs.Named.{woken_more, armed_more}

-- these places have this number
abbrev EachOf : ℕ → List Place → Type 0
EachOf s [] = Unit {0}
EachOf s (p ∷ ps) = (p.session ≡ s) × EachOf s ps

of_side : (s : ℕ) (side : Side) (ps : List Part) → EachOf s (map (place_at s side) ps)
of_side s side [] = tt
of_side s side (p ∷ ps) = (refl, of_side s side ps)

of_both : (s : ℕ) (xs ys : List Place) → EachOf s xs → EachOf s ys → EachOf s (xs ++ ys)
of_both s [] ys l r = r
of_both s (x ∷ xs) ys l r = (l.0, of_both s xs ys l.1 r)

places_of : (c : Config) (s : ℕ) → EachOf s (places c s)
places_of c s = of_both s (map (place_at s Left) (parts c Left)) (map (place_at s Right) (parts c Right)) (of_side s Left (parts c Left)) (of_side s Right (parts c Right))

never : (a b d n : Bool) → n ≡ false → (a && b && d && n) ≡ false
never true true true n e = e
never true true false n e = refl
never true false d n e = refl
never false b d n e = refl

other_place : (q p : Place) → (q.session == p.session) ≡ false → same_place q p ≡ false
other_place q p e = never (same_side q.side p.side) (same_part q.part p.part) (same_bool q.door p.door) (q.session == p.session) e

unnamed : (b k : Bool) → k ≡ false → b ≡ (b || k)
unnamed true k e = refl
unnamed false k e = sym e

unarmed : (b k t : Bool) → k ≡ false → b ≡ (b || (k && t))
unarmed true k t e = refl
unarmed false true true e = sym e
unarmed false true false e = refl
unarmed false false t e = refl

passed_by : (c : Config) (past : List Act) (until : Option ℕ) (at : ℕ) (names : List ReadyAt) (e : ReadyAt) (p : Place) (o : Opening) → (e.place.session == p.session) ≡ false → IsOpening c (acts.Turn until at (kept names) false ∷ past) p o → IsOpening c (acts.Turn until at (kept (names ++ e ∷ [])) false ∷ past) p o
passed_by c past until at names e p o other i =
    record {
      no_door = i.no_door;
      place_is = i.place_is;
      listens_is = i.listens_is;
      has_door_is = i.has_door_is;
      is_child_is = i.is_child_is;
      filter_is = i.filter_is;
      stage_is = i.stage_is;
      woken_is = i.woken_is ∙ (unnamed (woken (acts.Turn until at (kept names) false ∷ past) p) (same_place e.place p) (other_place e.place p other) ∙ sym (woken_more past until at names e p));
      door_is = i.door_is;
      armed_is = λ h. i.armed_is h ∙ (unarmed (armed_to_accept (acts.Turn until at (kept names) false ∷ past) (door_of p)) (same_place e.place (door_of p)) (same_half e.half ToRead) (other_place e.place (door_of p) other) ∙ sym (armed_more past until at names e (door_of p)));
      asked_is = i.asked_is;
      tries_are = i.tries_are;
      tried_is = i.tried_is;
      untried = i.untried;
      closed_is = i.closed_is;
      asked_child_is = i.asked_child_is;
    }

passed_each : (c : Config) (past : List Act) (until : Option ℕ) (at : ℕ) (names : List ReadyAt) (e : ReadyAt) (s : ℕ) (ps : List Place) (os : List Opening) → (e.place.session == s) ≡ false → EachOf s ps → Each c (acts.Turn until at (kept names) false ∷ past) ps os → Each c (acts.Turn until at (kept (names ++ e ∷ [])) false ∷ past) ps os
passed_each c past until at names e s [] [] other own each = tt
passed_each c past until at names e s [] (o ∷ os) other own each = absurd each
passed_each c past until at names e s (p ∷ ps) [] other own each = absurd each
passed_each c past until at names e s (p ∷ ps) (o ∷ os) other own each =
    (passed_by c past until at names e p o (ap (λ n. e.place.session == n) own.0 ∙ other) each.0, passed_each c past until at names e s ps os other own.1 each.1)

-- the number of the first opening is that of the session
number_of : (c : Config) (past : List Act) (s : ℕ) (q : Place) (ps : List Place) (os : List Opening) → EachOf s ps → Each c past ps os → of_session q os ≡ false → (q.session == s) ≡ false
number_of c past s q ps [] own each f = absurd (false≢true (sym f))
number_of c past s q [] (o ∷ os) own each f = absurd each
number_of c past s q (p ∷ ps) (o ∷ os) own each f =
    ap (λ n. q.session == n) (sym (ap (λ (x : Place). x.session) each.0.place_is ∙ own.0)) ∙ f

-- the openings of a session stand for what a turn names of another session
pub others_named : (c : Config) (past : List Act) (s : ℕ) (until : Option ℕ) (at : ℕ) (names : List ReadyAt) (e : ReadyAt) (os : List Opening) → of_session e.place os ≡ false → AreOpenings c (acts.Turn until at (kept names) false ∷ past) s os → AreOpenings c (acts.Turn until at (kept (names ++ e ∷ [])) false ∷ past) s os
others_named c past s until at names e os f are =
    record { each = passed_each c past until at names e s (places c s) os (number_of c (acts.Turn until at (kept names) false ∷ past) s e.place (places c s) os (places_of c s) are.each f) (places_of c s) are.each }
