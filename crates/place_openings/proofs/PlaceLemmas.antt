-- When two places are the same, and which door accepts for which place.
use Rattle.std.proofs.Common.{◌≡◌, ℕ, Bool, true, false, ◌&&◌, not, if◌then◌else◌, refl, ap, arith}
use Rattle.std.proofs.lemmas.Grind.{common_steps}
use Rattle.relay_model.specs.declared.places.Side.{Side}
use Rattle.relay_model.specs.declared.places.Side.TheVariants.{Left, Right}
use Rattle.relay_model.specs.declared.places.Part.{Part}
use Rattle.relay_model.specs.declared.places.Place.{Place}
use Rattle.relay_model.specs.declared.commands.Config.{Config}
use Rattle.relay_model.specs.Places.{same_place, door_of}
use Rattle.relay_model.specs.Configs.{listens_at, has_fork, has_own_door, program_door, accepting_door}

pub same_place_equal : (p q : Place) → same_place p q ≡ true → p ≡ q
same_place_equal p q h = grind (arith, common_steps)

pub same_place_self : (p : Place) → same_place p p ≡ true
same_place_self p = grind (arith, common_steps)

-- a test is false where its truth would make two values one
unlike : (b x y : Bool) → (b ≡ true → x ≡ y) → x ≡ false → y ≡ true → b ≡ false
unlike true x y same differs holds = cc (same refl)
unlike false x y same differs holds = refl

-- a place that listens is none that doesn't
pub apart_by_kind : (c : Config) (q p : Place) → listens_at c q ≡ false → listens_at c p ≡ true → same_place q p ≡ false
apart_by_kind c q p differs holds =
    unlike (same_place q p) (listens_at c q) (listens_at c p) (λ e. ap (listens_at c) (same_place_equal q p e)) differs holds

-- a door is no place
pub apart_by_door : (q p : Place) → q.door ≡ true → p.door ≡ false → same_place q p ≡ false
apart_by_door q p holds differs = grind (arith, common_steps)

no_fork : (listens fork : Bool) → (listens && not fork) ≡ true → fork ≡ false
no_fork true true e = cc
no_fork true false e = refl
no_fork false fork e = cc

apart_from_left : (fork : Bool) (s t : ℕ) (a b : Part) → same_place (if fork then program_door else record { session = s; side = Left; part = a; door = true }) (record { session = t; side = Right; part = b; door = true }) ≡ false
apart_from_left true s t a b = refl
apart_from_left false s t a b = refl

accepts : (c : Config) (s t : ℕ) (one other : Side) (a b : Part) → has_own_door c (record { session = t; side = other; part = b; door = false }) ≡ true → same_place (accepting_door c (record { session = s; side = one; part = a; door = false })) (record { session = t; side = other; part = b; door = true }) ≡ same_place (record { session = s; side = one; part = a; door = false }) (record { session = t; side = other; part = b; door = false })
accepts c s t Right Right a b own = refl
accepts c s t Right Left a b own = refl
accepts c s t Left Right a b own = apart_from_left (has_fork c) s t a b
accepts c s t Left Left a b own =
    rw (no_fork (listens_at c (record { session = t; side = Left; part = b; door = false })) (has_fork c) own) refl

accepts_by : (c : Config) (s t : ℕ) (one other : Side) (a b : Part) (d e : Bool) → d ≡ false → e ≡ false → has_own_door c (record { session = t; side = other; part = b; door = e }) ≡ true → same_place (accepting_door c (record { session = s; side = one; part = a; door = d })) (record { session = t; side = other; part = b; door = true }) ≡ same_place (record { session = s; side = one; part = a; door = d }) (record { session = t; side = other; part = b; door = e })
accepts_by c s t one other a b false false x y own = accepts c s t one other a b own
accepts_by c s t one other a b false true x y own = cc
accepts_by c s t one other a b true e x y own = cc

-- the peer of a place is met at the own door of another one where both are the same
pub accepts_for : (c : Config) (q p : Place) → q.door ≡ false → p.door ≡ false → has_own_door c p ≡ true → same_place (accepting_door c q) (door_of p) ≡ same_place q p
accepts_for c q p x y own = accepts_by c q.session p.session q.side p.side q.part p.part q.door p.door x y own
