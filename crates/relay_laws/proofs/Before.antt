-- What falls due after a moment, seen from a later one before it falls due.
use Rattle.std.proofs.Common.{◌≡◌, refl, ap, subst, ℕ, ◌+◌, ◌^◌, ◌<◌, ◌≤◌, Bool, true, false, cond, ◌&&◌, nat_lt, nat_le, List, [], ◌∷◌, Option, Some, None, arith}
use Rattle.std.proofs.lemmas.Bool.{and_right, ltb-false, lt-ltb, le-ltb, leb-true, leb-false, le-leb, lt-leb}
use Rattle.relay_model.specs.declared.places.Place.{Place}
use Rattle.relay_model.specs.declared.commands.Config.{Config}
use Rattle.relay_model.specs.declared.acts.Act.{Act}
use Rattle.relay_model.specs.Places.{door_of}
use Rattle.relay_model.specs.Choices.{earlier, later}
use Rattle.relay_model.specs.Configs.{options_of, listens_at, has_own_door}
use Rattle.relay_model.specs.History.{now, stage, failures}
use Rattle.relay_model.specs.declared.stages.Stage.{Stage}
use Rattle.relay_model.specs.declared.stages.Stage.TheVariants.{Failed, Met}
use Rattle.relay_model.specs.Arming.{is_armed, arming_moment, pause_after_end}
use Rattle.relay_model.specs.declared.armings.Arming.{Arming}
use Rattle.relay_model.specs.declared.armings.Arming.TheVariants.{Disarmed, Armed, AtEnd}
use Rattle.relay_model.specs.Tries.{next_due}
use Rattle.relay_model.specs.Moments.{reached}
use Rattle.relay_model.specs.Openings.{out_of_tries, when_due, try_again, is_ready, opening_call, listening_call, peer_call, place_call, first_call}
use Rattle.relay_model.specs.declared.calls.Call.{Call}
use Rattle.relay_model.specs.declared.calls.Call.TheVariants.{Nothing, TryAt, Open, Listen}
use Rattle.relay_model.specs.Rest.{try_moment}
use Rattle.relay_laws.specs.Sleeps.{IsBefore, tick}

pub before_both : (at : ℕ) (x y : Option ℕ) → IsBefore at (earlier x y) → IsBefore at x × IsBefore at y
before_both at None y h = (tt, h)
before_both at (Some m) None h = (h, tt)
before_both at (Some m) (Some n) h = (omega (arith, h), omega (arith, h))

-- a moment ahead stays ahead
pub later_kept : (k at : ℕ) (o : Option ℕ) → k ≤ at → IsBefore at (later k o) → later at o ≡ later k o
later_kept k at None f h = refl
later_kept k at (Some m) f h = go (nat_lt k m) (nat_lt m (2 ^ 64)) refl h
  where
    go : (x z : Bool) → nat_lt k m ≡ x → IsBefore at (cond (x && z) (Some m) None) → cond (nat_lt at m && z) (Some m) None ≡ cond (x && z) (Some m) None
    go true true e b = ap (λ t. cond (t && true) (Some m) None) (lt-ltb at m b)
    go true false e b = ap (λ t. cond t (Some m) None) (and_right (nat_lt at m) false refl)
    go false z e b = let l = ltb-false k m e in ap (λ t. cond (t && z) (Some m) None) (le-ltb at m (omega (arith, l, f)))

-- what wasn't reached isn't reached before it falls due
ahead : (k at m : ℕ) → at < 2 ^ 64 → k < m → IsBefore at (later k (Some m)) → at < m
ahead k at m o l h = go (nat_lt m (2 ^ 64)) refl (subst (λ (t : Bool). IsBefore at (cond (t && nat_lt m (2 ^ 64)) (Some m) None)) (lt-ltb k m l) h)
  where
    go : (z : Bool) → nat_lt m (2 ^ 64) ≡ z → IsBefore at (cond (true && z) (Some m) None) → at < m
    go true e b = b
    go false e b = let g = ltb-false m (2 ^ 64) e in omega (arith, g, o)

due_after : (k at m : ℕ) → k ≤ at → at < 2 ^ 64 → IsBefore at (later k (Some m)) → nat_le m at ≡ nat_le m k
due_after k at m f o h = go (nat_le m k) refl
  where
    go : (x : Bool) → nat_le m k ≡ x → nat_le m at ≡ x
    go true e = let l = leb-true m k e in le-leb m at (omega (arith, l, f))
    go false e = lt-leb m at (ahead k at m o (leb-false m k e) h)

pub reached_kept : (k at : ℕ) (m : Option ℕ) → k ≤ at → at < 2 ^ 64 → IsBefore at (later k m) → reached m at ≡ reached m k
reached_kept k at None f o h = refl
reached_kept k at (Some m) f o h = due_after k at m f o h

pub reached_stays : (k at : ℕ) (m : Option ℕ) → k ≤ at → reached m k ≡ true → reached m at ≡ true
reached_stays k at None f e = e
reached_stays k at (Some m) f e = let l = leb-true m k e in le-leb m at (omega (arith, l, f))

pub arming_kept : (k at : ℕ) (r : Arming) → k ≤ at → at < 2 ^ 64 → IsBefore at (later k (arming_moment r)) → is_armed r at ≡ is_armed r k
arming_kept k at Disarmed f o h = refl
arming_kept k at Armed f o h = refl
arming_kept k at (AtEnd met) f o h = due_after k at (met + pause_after_end) f o h

-- ---- calls

when_kept : (k at : ℕ) (m : Option ℕ) (wanted : Call) → k ≤ at → at < 2 ^ 64 → IsBefore at (later k (try_moment (when_due k m wanted))) → when_due at m wanted ≡ when_due k m wanted
when_kept k at None wanted f o h = refl
when_kept k at (Some m) wanted f o h = go (nat_le m k) refl h
  where
    go : (x : Bool) → nat_le m k ≡ x → IsBefore at (later k (try_moment (cond x wanted (TryAt m)))) → cond (nat_le m at) wanted (TryAt m) ≡ cond x wanted (TryAt m)
    go true e b = let l = leb-true m k e in ap (λ t. cond t wanted (TryAt m)) (le-leb m at (omega (arith, l, f)))
    go false e b = ap (λ t. cond t wanted (TryAt m)) (lt-leb m at (ahead k at m o (leb-false m k e) b))

-- the call isn't a try that falls due by this moment
abbrev pub Unhurried : List Act → ℕ → Call → Type 0
Unhurried past at wanted = IsBefore at (later (now past) (try_moment wanted))

again_kept : (c : Config) (past : List Act) (at : ℕ) (p : Place) (wanted : Call) → now past ≤ at → at < 2 ^ 64 → Unhurried past at (try_again c past p wanted) → try_again c (tick at ∷ past) p wanted ≡ try_again c past p wanted
again_kept c past at p wanted f o h = go (out_of_tries c past p) h
  where
    go : (x : Bool) → Unhurried past at (cond x Nothing (when_due (now past) (next_due (options_of c p).tries.interval (failures past p)) wanted)) → cond x Nothing (when_due at (next_due (options_of c p).tries.interval (failures past p)) wanted) ≡ cond x Nothing (when_due (now past) (next_due (options_of c p).tries.interval (failures past p)) wanted)
    go true b = refl
    go false b = when_kept (now past) at (next_due (options_of c p).tries.interval (failures past p)) wanted f o b

opening_kept : (c : Config) (past : List Act) (at : ℕ) (p : Place) (st : Stage) → now past ≤ at → at < 2 ^ 64 → Unhurried past at (opening_call c past p st) → opening_call c (tick at ∷ past) p st ≡ opening_call c past p st
opening_kept c past at p Failed f o h = again_kept c past at p (Open p) f o h
opening_kept c past at p st f o h = refl

listening_kept : (c : Config) (past : List Act) (at : ℕ) (d p : Place) (st : Stage) → now past ≤ at → at < 2 ^ 64 → Unhurried past at (listening_call c past d p st) → listening_call c (tick at ∷ past) d p st ≡ listening_call c past d p st
listening_kept c past at d p Failed f o h = again_kept c past at d (Listen d) f o h
listening_kept c past at d p st f o h = refl

peer_kept : (c : Config) (past : List Act) (at : ℕ) (p : Place) (st : Stage) → now past ≤ at → at < 2 ^ 64 → Unhurried past at (peer_call c past p st) → peer_call c (tick at ∷ past) p st ≡ peer_call c past p st
peer_kept c past at p (Met peer) f o h = refl
peer_kept c past at p st f o h = listening_kept c past at (door_of p) p (stage past (door_of p)) f o h

place_kept : (c : Config) (past : List Act) (at : ℕ) (p : Place) → now past ≤ at → at < 2 ^ 64 → Unhurried past at (place_call c past p) → place_call c (tick at ∷ past) p ≡ place_call c past p
place_kept c past at p f o h = go (has_own_door c p) (listens_at c p) h
  where
    go : (x y : Bool) → Unhurried past at (cond x (peer_call c past p (stage past p)) (cond y Nothing (opening_call c past p (stage past p)))) → cond x (peer_call c (tick at ∷ past) p (stage past p)) (cond y Nothing (opening_call c (tick at ∷ past) p (stage past p))) ≡ cond x (peer_call c past p (stage past p)) (cond y Nothing (opening_call c past p (stage past p)))
    go true y b = peer_kept c past at p (stage past p) f o b
    go false true b = refl
    go false false b = opening_kept c past at p (stage past p) f o b

pub first_kept : (c : Config) (past : List Act) (at : ℕ) (ps : List Place) → now past ≤ at → at < 2 ^ 64 → Unhurried past at (first_call c past ps) → first_call c (tick at ∷ past) ps ≡ first_call c past ps
first_kept c past at [] f o h = refl
first_kept c past at (p ∷ ps) f o h = go (is_ready c past p) (first_kept c past at ps f o) h
  where
    go : (x : Bool) → (Unhurried past at (first_call c past ps) → first_call c (tick at ∷ past) ps ≡ first_call c past ps) → Unhurried past at (cond x (first_call c past ps) (place_call c past p)) → cond x (first_call c (tick at ∷ past) ps) (place_call c (tick at ∷ past) p) ≡ cond x (first_call c past ps) (place_call c past p)
    go true ih b = ih b
    go false ih b = place_kept c past at p f o b
