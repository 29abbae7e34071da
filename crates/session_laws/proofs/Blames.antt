-- A session that failed has an act that is to blame for it.
use Rattle.std.proofs.Common.{◌≡◌, refl, sym, ap, subst, ◌∙◌, ℕ, ◌-◌, ◌^◌, Bool, true, false, not, cond, ◌&&◌, ◌==◌, nat_lt, List, [], ◌∷◌, map, filter, Option, Some, None, is_some, arith, inl, inr, ◌⊎◌}
use Rattle.std.specs.List.{list_any}
use Rattle.std.proofs.lemmas.Bool.{false≢true, true≢false, and_parts, or_cases, or_left, or_right, ltb-true}
use Rattle.std.proofs.lemmas.List.Folds.{list_any-append}
use Rattle.relay_model.specs.declared.places.Side.{Side}
use Rattle.relay_model.specs.declared.places.Side.TheVariants.{Left, Right}
use Rattle.relay_model.specs.declared.places.Part.{Part}
use Rattle.relay_model.specs.declared.places.Place.{Place}
use Rattle.relay_model.specs.declared.places.Way.{Way}
use Rattle.relay_model.specs.declared.places.Way.TheVariants.{LeftToRight, RightToLeft}
use Rattle.relay_model.specs.declared.commands.Config.{Config}
use Rattle.relay_model.specs.declared.acts.Act.{Act}
use Rattle.relay_model.specs.declared.acts.Act.TheVariants.{OpenFailed, ListenFailed, AcceptFailed, ReadFault, WriteFault, Closed}
use Rattle.relay_model.specs.declared.acts.Why.{Why}
use Rattle.relay_model.specs.declared.acts.Why.TheVariants as whys
use Rattle.relay_model.specs.Places.{same_place, door_of}
use Rattle.relay_model.specs.Choices.{only_if, or_else, first_some, noted}
use Rattle.relay_model.specs.Configs.{places, parts, place_at, has_own_door, has_fork, is_of, input, output, formed, options_of}
use Rattle.relay_model.specs.History.{now, memory_said, stop_said, accept_failed, failures, read_fault_at, write_fault_at}
use Rattle.relay_model.specs.Moments.{done, broken, closing_moment, idle_moment, reached}
use Rattle.relay_model.specs.Tries.{is_out_of_tries}
use Rattle.relay_model.specs.Openings.{out_of_tries, ready}
use Rattle.relay_model.specs.Cause.{cause, closed_why, is_end, accept_failed_for, listening_failed, opening_failed, fault_at, fault_stands, faulted, finished, each_formed, some_formed}
use Rattle.relay_model.specs.May.{Legal, Licensed, by_cause, by_refusal, by_service, by_door, by_memory, by_turns}
use Rattle.relay_laws.proofs.PlaceLemmas.{same_place_equal}
use Rattle.relay_session.specs.Blames.{is_failure, is_failing, blames, is_blamed, is_blamed_for}
use Rattle.relay_session.proofs.Causes.{own_session, no_program_door}
use Rattle.relay_session.proofs.Held.{opened_own, listened_own, held_own}
use Rattle.relay_session.proofs.Waiting.{accept_alone}
use Rattle.relay_session.proofs.Events.{event_stands}
use Rattle.relay_session.proofs.Ended.{which, caused}

-- ---- a thing that was found among others

pub record Found (test : Place → Bool) (door : Bool) : Type 0 where
  pub at : Place
  pub passes : test at ≡ true
  pub is_door : at.door ≡ door

some_door : (test : Place → Bool) (ps : List Place) → list_any test (map door_of ps) ≡ true → Found test true
some_door test [] e = absurd (false≢true e)
some_door test (p ∷ ps) e = go (or_cases (test (door_of p)) (list_any test (map door_of ps)) e) (some_door test ps)
  where
    go : (test (door_of p) ≡ true) ⊎ (list_any test (map door_of ps) ≡ true) → (list_any test (map door_of ps) ≡ true → Found test true) → Found test true
    go (inl here) ih = record { at = door_of p; passes = here; is_door = refl }
    go (inr there) ih = ih there

some_part : (test : Place → Bool) (s : ℕ) (side : Side) (ps : List Part) → list_any test (map (place_at s side) ps) ≡ true → Found test false
some_part test s side [] e = absurd (false≢true e)
some_part test s side (part ∷ ps) e = go (or_cases (test (place_at s side part)) (list_any test (map (place_at s side) ps)) e) (some_part test s side ps)
  where
    go : (test (place_at s side part) ≡ true) ⊎ (list_any test (map (place_at s side) ps) ≡ true) → (list_any test (map (place_at s side) ps) ≡ true → Found test false) → Found test false
    go (inl here) ih = record { at = place_at s side part; passes = here; is_door = refl }
    go (inr there) ih = ih there

some_place : (c : Config) (test : Place → Bool) (s : ℕ) → list_any test (places c s) ≡ true → Found test false
some_place c test s e = go (or_cases (list_any test (map (place_at s Left) (parts c Left))) (list_any test (map (place_at s Right) (parts c Right))) (sym (list_any-append test (map (place_at s Left) (parts c Left)) (map (place_at s Right) (parts c Right))) ∙ e))
  where
    go : (list_any test (map (place_at s Left) (parts c Left)) ≡ true) ⊎ (list_any test (map (place_at s Right) (parts c Right)) ≡ true) → Found test false
    go (inl l) = some_part test s Left (parts c Left) l
    go (inr r) = some_part test s Right (parts c Right) r

-- ---- what each event was made by

later : (why : Why) (act : Act) (past : List Act) → is_blamed_for why past ≡ true → is_blamed_for why (act ∷ past) ≡ true
later why act past e = or_right (blames why act) (is_blamed_for why past) e

accept_blamed : (past : List Act) (d : Place) → accept_failed past d ≡ true → is_blamed_for whys.AcceptFailed past ≡ true
accept_blamed [] d e = absurd (false≢true e)
accept_blamed (AcceptFailed q ∷ past) d e = refl
accept_blamed (act ∷ past) d e = later whys.AcceptFailed act past (accept_blamed past d e)

read_blamed : (past : List Act) (p : Place) → is_some (read_fault_at past p) ≡ true → is_blamed_for whys.Faulted past ≡ true
read_blamed [] p e = absurd (false≢true e)
read_blamed (ReadFault q ∷ past) p e = refl
read_blamed (act ∷ past) p e = later whys.Faulted act past (read_blamed past p e)

write_blamed : (past : List Act) (p : Place) → is_some (write_fault_at past p) ≡ true → is_blamed_for whys.Faulted past ≡ true
write_blamed [] p e = absurd (false≢true e)
write_blamed (WriteFault q ∷ past) p e = refl
write_blamed (act ∷ past) p e = later whys.Faulted act past (write_blamed past p e)

abbrev is_some_moment : List ℕ → Bool
is_some_moment [] = false
is_some_moment (m ∷ moments) = true

failed_some : (retry : ℕ) (forever : Bool) (moments : List ℕ) → is_out_of_tries retry forever moments ≡ true → is_some_moment moments ≡ true
failed_some retry forever [] e = let h = ltb-true retry 0 (and_parts (not forever && not (retry == 2 ^ 64 - 1)) (nat_lt retry 0) e).1 in let x : ⊥ = omega (arith, h) in absurd x
failed_some retry forever (m ∷ moments) e = refl

tried : (c : Config) (past : List Act) (p : Place) → out_of_tries c past p ≡ true → is_some_moment (failures past p) ≡ true
tried c past p e = failed_some (options_of c p).tries.retry (options_of c p).tries.forever (failures past p) e

-- a failure of another thing
elsewhere : (q p : Place) (b : Bool) (at : ℕ) (moments : List ℕ) → same_place q p ≡ b → (q.door ≡ p.door → ⊥) → is_some_moment (noted b at moments) ≡ true → is_some_moment moments ≡ true
elsewhere q p true at moments e other h = absurd (other (ap (λ x. x.door) (same_place_equal q p e)))
elsewhere q p false at moments e other h = h

differ : (a b : Bool) → a ≡ false → b ≡ true → a ≡ b → ⊥
differ a b f t e = false≢true (sym f ∙ e ∙ t)

-- a door fails by a listening
listening_blamed : (c : Config) (n : ℕ) (past : List Act) (d : Place) → has_fork c ≡ false → Legal c n past → d.door ≡ true → is_some_moment (failures past d) ≡ true → is_blamed_for whys.ListenFailed past ≡ true
listening_blamed c n [] d alone legal door e = absurd (false≢true e)
listening_blamed c n (ListenFailed q ∷ past) d alone legal door e = refl
listening_blamed c n (OpenFailed q ∷ past) d alone legal door e =
    listening_blamed c n past d alone legal.1 door (elsewhere q d (same_place q d) (now past) (failures past d) refl (differ q.door d.door (opened_own c past q alone legal.0.1).plain door) e)
listening_blamed c n (act ∷ past) d alone legal door e = later whys.ListenFailed act past (listening_blamed c n past d alone legal.1 door e)

-- a place fails by an opening
opening_blamed : (c : Config) (n : ℕ) (past : List Act) (p : Place) → has_fork c ≡ false → Legal c n past → p.door ≡ false → is_some_moment (failures past p) ≡ true → is_blamed_for whys.OpenFailed past ≡ true
opening_blamed c n [] p alone legal plain e = absurd (false≢true e)
opening_blamed c n (OpenFailed q ∷ past) p alone legal plain e = refl
opening_blamed c n (ListenFailed q ∷ past) p alone legal plain e =
    opening_blamed c n past p alone legal.1 plain (elsewhere q p (same_place q p) (now past) (failures past p) refl (λ k. differ p.door q.door plain (listened_own c past q alone legal.0.1).door (sym k)) e)
opening_blamed c n (act ∷ past) p alone legal plain e = later whys.OpenFailed act past (opening_blamed c n past p alone legal.1 plain e)

-- ---- faults

fault_blamed : (past : List Act) (p : Place) → fault_at past p ≡ true → is_blamed_for whys.Faulted past ≡ true
fault_blamed past p e = go (or_cases (is_some (read_fault_at past p)) (is_some (write_fault_at past p)) e)
  where
    go : (is_some (read_fault_at past p) ≡ true) ⊎ (is_some (write_fault_at past p) ≡ true) → is_blamed_for whys.Faulted past ≡ true
    go (inl r) = read_blamed past p r
    go (inr w) = write_blamed past p w

one_broken : (sloppy : Bool) (a b : Option ℕ) → is_some (cond sloppy (or_else a b) None) ≡ true → (is_some a ≡ true) ⊎ (is_some b ≡ true)
one_broken true None b e = inr e
one_broken true (Some m) b e = inl refl
one_broken false a b e = absurd (false≢true e)

broken_blamed : (c : Config) (past : List Act) (w : Way) → broken c past 0 w ≡ true → is_blamed_for whys.Faulted past ≡ true
broken_blamed c past w e = go (one_broken c.sloppy (read_fault_at past (input c 0 w)) (write_fault_at past (output c 0 w)) e)
  where
    go : (is_some (read_fault_at past (input c 0 w)) ≡ true) ⊎ (is_some (write_fault_at past (output c 0 w)) ≡ true) → is_blamed_for whys.Faulted past ≡ true
    go (inl r) = read_blamed past (input c 0 w) r
    go (inr x) = write_blamed past (output c 0 w) x

formed_blamed : (c : Config) (past : List Act) → some_formed c (broken c past 0) ≡ true → is_blamed_for whys.Faulted past ≡ true
formed_blamed c past e = go (or_cases (formed c LeftToRight && broken c past 0 LeftToRight) (formed c RightToLeft && broken c past 0 RightToLeft) e)
  where
    go : ((formed c LeftToRight && broken c past 0 LeftToRight) ≡ true) ⊎ ((formed c RightToLeft && broken c past 0 RightToLeft) ≡ true) → is_blamed_for whys.Faulted past ≡ true
    go (inl l) = broken_blamed c past LeftToRight (and_parts (formed c LeftToRight) (broken c past 0 LeftToRight) l).1
    go (inr r) = broken_blamed c past RightToLeft (and_parts (formed c RightToLeft) (broken c past 0 RightToLeft) r).1

faulted_blamed : (c : Config) (past : List Act) → faulted c past 0 ≡ true → is_blamed_for whys.Faulted past ≡ true
faulted_blamed c past e = go c.sloppy e
  where
    stands : Found (fault_at past) false → is_blamed_for whys.Faulted past ≡ true
    stands f = fault_blamed past f.at f.passes

    go : (b : Bool) → cond b (ready c past 0 && each_formed c (done c past 0) && some_formed c (broken c past 0)) (fault_stands c past 0) ≡ true → is_blamed_for whys.Faulted past ≡ true
    go true h = formed_blamed c past (and_parts (ready c past 0 && each_formed c (done c past 0)) (some_formed c (broken c past 0)) h).1
    go false h = stands (some_place c (fault_at past) 0 h)

-- a fault is the cause since one stands, or since something was closed for it
by_fault : (closed : Option Why) (m t a l o f fi cl id : Bool) →
    first_some (closed ∷ only_if m whys.Memory ∷ only_if t whys.Stopped ∷ only_if a whys.AcceptFailed ∷ only_if l whys.ListenFailed ∷ only_if o whys.OpenFailed ∷ only_if f whys.Faulted ∷ only_if fi whys.Finished ∷ only_if cl whys.ClosingTime ∷ only_if id whys.Idle ∷ []) ≡ Some whys.Faulted →
    (closed ≡ Some whys.Faulted) ⊎ (f ≡ true)
by_fault (Some one) m t a l o f fi cl id e = inl e
by_fault None true t a l o f fi cl id e = cc
by_fault None false true a l o f fi cl id e = cc
by_fault None false false true l o f fi cl id e = cc
by_fault None false false false true o f fi cl id e = cc
by_fault None false false false false true f fi cl id e = cc
by_fault None false false false false false true fi cl id e = inr refl
by_fault None false false false false false false true cl id e = cc
by_fault None false false false false false false false true id e = cc
by_fault None false false false false false false false false true e = cc
by_fault None false false false false false false false false false e = cc

cause_faulted : (c : Config) (past : List Act) → (closed_why c past 0 ≡ Some whys.Faulted → is_blamed_for whys.Faulted past ≡ true) → cause c past 0 ≡ Some whys.Faulted → is_blamed_for whys.Faulted past ≡ true
cause_faulted c past ih e = go (by_fault (closed_why c past 0) (memory_said past) (stop_said past) (accept_failed_for c past 0) (listening_failed c past 0) (opening_failed c past 0) (faulted c past 0) (finished c past 0) (ready c past 0 && reached (closing_moment c past 0) (now past)) (ready c past 0 && reached (idle_moment c past 0) (now past)) e)
  where
    go : (closed_why c past 0 ≡ Some whys.Faulted) ⊎ (faulted c past 0 ≡ true) → is_blamed_for whys.Faulted past ≡ true
    go (inl k) = ih k
    go (inr f) = faulted_blamed c past f

closing_faulted : (c : Config) (n : ℕ) (past : List Act) (q : Place) (why : Why) → has_fork c ≡ false → is_of c 0 q ≡ true → why ≡ whys.Faulted → (closed_why c past 0 ≡ Some whys.Faulted → is_blamed_for whys.Faulted past ≡ true) → Licensed c n past q why → is_blamed_for whys.Faulted past ≡ true
closing_faulted c n past q why alone own f ih (by_cause other e) = cause_faulted c past ih (subst (λ s. cause c past s ≡ Some whys.Faulted) (own_session c 0 q own) (e ∙ ap Some f))
closing_faulted c n past q why alone own f ih (by_refusal r e) = let k : whys.Refused ≡ whys.Faulted = sym r ∙ f in cc
closing_faulted c n past q why alone own f ih (by_service r e) = let k : whys.Served ≡ whys.Faulted = sym r ∙ f in cc
closing_faulted c n past q why alone own f ih (by_door r e) = absurd (true≢false (sym r ∙ no_program_door c q alone))
closing_faulted c n past q why alone own f ih (by_memory r e) = let k : whys.Memory ≡ whys.Faulted = sym r ∙ f in cc
closing_faulted c n past q why alone own f ih (by_turns r e rest) = let k : whys.Stopped ≡ whys.Faulted = sym r ∙ f in cc

closed_faulted : (c : Config) (n : ℕ) (past : List Act) → has_fork c ≡ false → Legal c n past → closed_why c past 0 ≡ Some whys.Faulted → is_blamed_for whys.Faulted past ≡ true
closed_faulted c n [] alone legal e = cc
closed_faulted c n (Closed q one ∷ past) alone legal e =
    let own = held_own c n past q alone legal.1 legal.0.is_held in
    let ih = closed_faulted c n past alone legal.1 in
    go own ih (which (is_of c 0 q) (is_end q one) one whys.Faulted (closed_why c past 0) own e)
  where
    go : is_of c 0 q ≡ true → (closed_why c past 0 ≡ Some whys.Faulted → is_blamed_for whys.Faulted past ≡ true) → ((is_end q one ≡ true) × (one ≡ whys.Faulted)) ⊎ ((is_end q one ≡ false) × (closed_why c past 0 ≡ Some whys.Faulted)) → is_blamed_for whys.Faulted past ≡ true
    go own ih (inl k) = closing_faulted c n past q one alone own k.1 ih legal.0.licensed
    go own ih (inr k) = ih k.1
closed_faulted c n (act ∷ past) alone legal e = later whys.Faulted act past (closed_faulted c n past alone legal.1 e)

-- ---- the whole

accepting_door : (c : Config) (past : List Act) → has_fork c ≡ false → accept_failed_for c past 0 ≡ true → Found (accept_failed past) true
accepting_door c past alone e = some_door (accept_failed past) (filter (has_own_door c) (places c 0)) (sym (accept_alone c past 0 alone) ∙ e)

-- a session that fails for this reason has an act that is to blame for it
pub blamed_for : (c : Config) (n : ℕ) (past : List Act) (why : Why) → has_fork c ≡ false → Legal c n past → is_failure why ≡ true → cause c past 0 ≡ Some why → is_blamed_for why past ≡ true
blamed_for c n past whys.AcceptFailed alone legal f e =
    let s = event_stands c past whys.AcceptFailed (caused c n past whys.AcceptFailed alone legal e) in
    let d = accepting_door c past alone s.2 in
    accept_blamed past d.at d.passes
blamed_for c n past whys.ListenFailed alone legal f e =
    let s = event_stands c past whys.ListenFailed (caused c n past whys.ListenFailed alone legal e) in
    let d = some_door (out_of_tries c past) (filter (has_own_door c) (places c 0)) s.3 in
    listening_blamed c n past d.at alone legal d.is_door (tried c past d.at d.passes)
blamed_for c n past whys.OpenFailed alone legal f e =
    let s = event_stands c past whys.OpenFailed (caused c n past whys.OpenFailed alone legal e) in
    let p = some_place c (out_of_tries c past) 0 s.4 in
    opening_blamed c n past p.at alone legal p.is_door (tried c past p.at p.passes)
blamed_for c n past whys.Faulted alone legal f e = cause_faulted c past (closed_faulted c n past alone legal) e
blamed_for c n past why alone legal f e = absurd (false≢true f)

failing_of : (why : Why) (act : Act) → blames why act ≡ true → is_failing act ≡ true
failing_of whys.OpenFailed (OpenFailed p) e = refl
failing_of whys.ListenFailed (ListenFailed d) e = refl
failing_of whys.AcceptFailed (AcceptFailed d) e = refl
failing_of whys.Faulted (ReadFault p) e = refl
failing_of whys.Faulted (WriteFault p) e = refl
failing_of why act e = absurd (false≢true e)

blamed_of : (why : Why) (past : List Act) → is_blamed_for why past ≡ true → is_blamed past ≡ true
blamed_of why [] e = absurd (false≢true e)
blamed_of why (act ∷ past) e = go (or_cases (blames why act) (is_blamed_for why past) e) (blamed_of why past)
  where
    go : (blames why act ≡ true) ⊎ (is_blamed_for why past ≡ true) → (is_blamed_for why past ≡ true → is_blamed past ≡ true) → is_blamed (act ∷ past) ≡ true
    go (inl here) ih = or_left (is_failing act) (is_blamed past) (failing_of why act here)
    go (inr there) ih = or_right (is_failing act) (is_blamed past) (ih there)

-- a session that fails has an act that is to blame
pub blamed : (c : Config) (n : ℕ) (past : List Act) (why : Why) → has_fork c ≡ false → Legal c n past → is_failure why ≡ true → cause c past 0 ≡ Some why → is_blamed past ≡ true
blamed c n past why alone legal f e = blamed_of why past (blamed_for c n past why alone legal f e)
