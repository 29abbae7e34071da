-- How the whole ends: a door that is done was cut, has served, or has no try left.
use Rattle.std.proofs.Common.{◌≡◌, refl, sym, ap, subst, ◌∙◌, ℕ, suc, ◌<◌, ◌≤◌, ◌⊎◌, inl, inr, Bool, true, false, cond, not, ◌||◌, ◌&&◌, nat_lt, zero, List, [], ◌∷◌, length, Option, Some, None, arith}
use Rattle.std.proofs.lemmas.Bool.{cases_lt, or_from, or_parts, and_right, false≢true, true≢false}
use Rattle.relay_model.specs.declared.places.Place.{Place}
use Rattle.relay_model.specs.declared.commands.Config.{Config}
use Rattle.relay_model.specs.declared.acts.Why.{Why}
use Rattle.relay_model.specs.declared.acts.Why.TheVariants as whys
use Rattle.relay_model.specs.declared.acts.Act.{Act}
use Rattle.relay_model.specs.declared.acts.Act.TheVariants as acts
use Rattle.relay_model.specs.Places.{same_place}
use Rattle.std.specs.List.{list_any}
use Rattle.relay_model.specs.Choices.{only_if, or_else, first_some, some_below}
use Rattle.relay_model.specs.Configs.{has_fork, program_door, own_doors}
use Rattle.relay_model.specs.History.{turns, memory_said, stop_said, same_why, is_gone_with, accept_failed, stage, held, served, failures}
use Rattle.relay_model.specs.declared.stages.Stage.{Stage}
use Rattle.relay_model.specs.declared.stages.Stage.TheVariants.{Usable, Unsettled, Failed, Met, Waiting, Gone}
use Rattle.relay_model.specs.Sessions.{admitted, holds, live, numbers, next_place}
use Rattle.relay_model.specs.Openings.{out_of_tries}
use Rattle.relay_model.specs.declared.calls.Call.TheVariants.{Refuse}
use Rattle.relay_model.specs.Cause.{cause}
use Rattle.relay_model.specs.Calls.{called_at, door_cut}
use Rattle.relay_model.specs.Outcome.{outcome, outcome_by, outcome_of_sessions, program_doors, failed_listening, holds_something}
use Rattle.relay_model.specs.declared.outcomes.RunOutcome.{RunOutcome}
use Rattle.relay_model.specs.declared.outcomes.RunOutcome.TheVariants.{Memory, Stopped, AcceptFailed, ListenFailed, Ended}
use Rattle.relay_model.specs.May.{Legal, Licensed, by_cause, by_refusal, by_service, by_door, by_memory, by_turns, DoorEnds, for_memory, for_stop, for_accept}
use Rattle.relay_model.specs.Laws.{DoorTells}
use Rattle.relay_laws.proofs.PlaceLemmas.{same_place_equal}
use Rattle.relay_laws.proofs.Admissions.{door_says, door_called}
use Rattle.program_door.specs.Causes.{door_cause}
use Rattle.program_door.specs.Wishes.{IsDoorDone}
use Rattle.program_door.proofs.Held.{next_free}
use Rattle.program_door.proofs.Moves.{numbers_are}
use Rattle.session_laws.specs.Wholes.{told_by_door}

-- ---- a door that was closed and isn't cut has served

-- none of the three holds, each alone
pub record NoneOf (m t a : Bool) : Type 0 where
  pub first : m ≡ false
  pub second : t ≡ false
  pub third : a ≡ false

none_of : (m t a : Bool) → (m || t || a) ≡ false → NoneOf m t a
none_of m t a e = let x = or_parts (m || t) a e in let y = or_parts m t x.0 in record { first = y.0; second = y.1; third = x.1 }

none_again : (m t a : Bool) → NoneOf m t a → (m || t || a) ≡ false
none_again m t a h = or_from (m || t) a (or_from m t h.first h.second) h.third

uncut_before : (act : Act) (past : List Act) → door_cut (act ∷ past) ≡ false → door_cut past ≡ false
uncut_before (acts.Turn until at ready stop) past e =
    let h = none_of (memory_said past) (stop || stop_said past) (accept_failed past program_door) e in
    none_again (memory_said past) (stop_said past) (accept_failed past program_door) (record { first = h.first; second = (or_parts stop (stop_said past) h.second).1; third = h.third })
uncut_before (acts.AcceptFailed q) past e =
    let h = none_of (memory_said past) (stop_said past) (same_place q program_door || accept_failed past program_door) e in
    none_again (memory_said past) (stop_said past) (accept_failed past program_door) (record { first = h.first; second = h.second; third = (or_parts (same_place q program_door) (accept_failed past program_door) h.third).1 })
uncut_before (acts.Closed q why) past e =
    let h = none_of (same_why why whys.Memory || memory_said past) (same_why why whys.Stopped || stop_said past) (accept_failed past program_door) e in
    none_again (memory_said past) (stop_said past) (accept_failed past program_door) (record { first = (or_parts (same_why why whys.Memory) (memory_said past) h.first).1; second = (or_parts (same_why why whys.Stopped) (stop_said past) h.second).1; third = h.third })
uncut_before act past e = e

elsewhere_or : {P : Type 0} (b : Bool) (st old : Stage) (why : Why) → (st ≡ Gone why → ⊥) → (old ≡ Gone why → P) → cond b st old ≡ Gone why → P
elsewhere_or true st old why never f e = absurd (never e)
elsewhere_or false st old why never f e = f e

door_refusal : (c : Config) (past : List Act) → has_fork c ≡ true → called_at c past program_door ≡ Refuse program_door → ⊥
door_refusal c past fork e =
    let k = door_called c past program_door (Refuse program_door) fork e in
    let x : program_door ≡ next_place c past = subst (DoorTells c past) k (door_says c past) in
    true≢false (ap (λ (p : Place). p.door) x)

served_by : (c : Config) (n : ℕ) (past : List Act) (why : Why) → has_fork c ≡ true → door_cut (acts.Closed program_door why ∷ past) ≡ false → Licensed c n past program_door why → why ≡ whys.Served
served_by c n past why fork u (by_cause d e) = absurd (false≢true (sym d ∙ fork))
served_by c n past why fork u (by_refusal e k) = absurd (door_refusal c past fork k)
served_by c n past why fork u (by_service e k) = e
served_by c n past why fork u (by_door d ends) =
    let h = none_of (same_why why whys.Memory || memory_said past) (same_why why whys.Stopped || stop_said past) (accept_failed past program_door) u in
    go (or_parts (same_why why whys.Memory) (memory_said past) h.first).1 (or_parts (same_why why whys.Stopped) (stop_said past) h.second).1 h.third ends
  where
    go : memory_said past ≡ false → stop_said past ≡ false → accept_failed past program_door ≡ false → DoorEnds past why → why ≡ whys.Served
    go m t a (for_memory e x) = absurd (true≢false (sym x ∙ m))
    go m t a (for_stop e x) = absurd (true≢false (sym x ∙ t))
    go m t a (for_accept e x) = absurd (true≢false (sym x ∙ a))
served_by c n past why fork u (by_memory e k) = let x : door_cut (acts.Closed program_door whys.Memory ∷ past) ≡ false = subst (λ w. door_cut (acts.Closed program_door w ∷ past) ≡ false) e u in absurd (true≢false x)
served_by c n past why fork u (by_turns e t r) =
    let x : door_cut (acts.Closed program_door whys.Stopped ∷ past) ≡ false = subst (λ w. door_cut (acts.Closed program_door w ∷ past) ≡ false) e u in
    absurd (true≢false (none_of (memory_said past) true (accept_failed past program_door) x).second)

pub gone_served : (c : Config) (n : ℕ) (past : List Act) (why : Why) → Legal c n past → has_fork c ≡ true → door_cut past ≡ false → stage past program_door ≡ Gone why → why ≡ whys.Served
gone_served c n [] why legal fork u e = let x : ⊥ = cc in absurd x
gone_served c n (acts.Opened q ∷ past) why legal fork u e = let ih = gone_served c n past why legal.1 fork u in elsewhere_or (same_place q program_door) Usable (stage past program_door) why (λ x. cc) ih e
gone_served c n (acts.OpenLater q ∷ past) why legal fork u e = let ih = gone_served c n past why legal.1 fork u in elsewhere_or (same_place q program_door) Unsettled (stage past program_door) why (λ x. cc) ih e
gone_served c n (acts.OpenFailed q ∷ past) why legal fork u e = let ih = gone_served c n past why legal.1 fork u in elsewhere_or (same_place q program_door) Failed (stage past program_door) why (λ x. cc) ih e
gone_served c n (acts.Listening q ∷ past) why legal fork u e = let ih = gone_served c n past why legal.1 fork u in elsewhere_or (same_place q program_door) Waiting (stage past program_door) why (λ x. cc) ih e
gone_served c n (acts.ListenFailed q ∷ past) why legal fork u e = let ih = gone_served c n past why legal.1 fork u in elsewhere_or (same_place q program_door) Failed (stage past program_door) why (λ x. cc) ih e
gone_served c n (acts.Accepted q peer ∷ past) why legal fork u e = let ih = gone_served c n past why legal.1 fork u in elsewhere_or (same_place q program_door) (Met peer) (stage past program_door) why (λ x. cc) ih e
gone_served c n (acts.Closed q w ∷ past) why legal fork u e = go (same_place q program_door) refl e (gone_served c n past why legal.1 fork (uncut_before (acts.Closed q w) past u))
  where
    go : (b : Bool) → same_place q program_door ≡ b → cond b (Gone w) (stage past program_door) ≡ Gone why → (stage past program_door ≡ Gone why → why ≡ whys.Served) → why ≡ whys.Served
    go true same k ih =
        let equal = same_place_equal q program_door same in
        let one : w ≡ why = cc in
        sym one ∙ served_by c n past w fork (subst (λ (p : Place). door_cut (acts.Closed p w ∷ past) ≡ false) equal u) (subst (λ (p : Place). Licensed c n past p w) equal legal.0.licensed)
    go false same k ih = ih k
gone_served c n (act ∷ past) why legal fork u e = gone_served c n past why legal.1 fork (uncut_before act past u) e

-- ---- the outcome

none_below : (test : ℕ → Bool) (k : ℕ) → ((s : ℕ) → s < k → test s ≡ false) → some_below test k ≡ false
none_below test zero h = refl
none_below test (suc k) h = or_from (test k) (some_below test k) (h k (omega arith)) (none_below test k (λ s b. h s (omega (arith, b))))

nothing_held : (c : Config) (n : ℕ) (past : List Act) → Legal c n past → has_fork c ≡ true → IsDoorDone c past → ((s : ℕ) → s < admitted c past → holds c past s ≡ false) → holds_something c past ≡ false
nothing_held c n past legal fork done none =
    or_from (some_below (holds c past) (suc (numbers c past))) (has_fork c && held past program_door)
    (none_below (holds c past) (suc (numbers c past)) (λ s b. one s (cases_lt s (admitted c past)) b))
    (and_right (has_fork c) (held past program_door) done.no_door)
  where
    one : (s : ℕ) → (s < admitted c past) ⊎ (admitted c past ≤ s) → s < suc (numbers c past) → holds c past s ≡ false
    one s (inl below) b = none s below
    one s (inr above) b =
        let k = numbers_are c past fork in
        let e : s ≡ admitted c past = omega (arith, above, b, k) in
        ap (holds c past) e ∙ next_free c n past legal fork done.sleeps.no_peer

none_live : (c : Config) (past : List Act) → has_fork c ≡ true → ((s : ℕ) → s < admitted c past → holds c past s ≡ false) → some_below (live c past) (numbers c past) ≡ false
none_live c past fork none = none_below (live c past) (numbers c past) (λ s b. dead s (let k = numbers_are c past fork in omega (arith, b, k)))
  where
    dead : (s : ℕ) → s < admitted c past → live c past s ≡ false
    dead s b = let h = none s b in rw fork (and_right (nat_lt s (admitted c past)) (holds c past s) h)

after_free : {T : Type 0} (b : Bool) (o : Option T) (x : T) → b ≡ false → o ≡ Some x → cond b None o ≡ Some x
after_free true o x e f = let y : ⊥ = cc in absurd y
after_free false o x e f = f

is_served : (c : Config) (n : ℕ) (past : List Act) → Legal c n past → has_fork c ≡ true → IsDoorDone c past → door_cut past ≡ false → out_of_tries c past program_door ≡ false → served past program_door ≡ true
is_served c n past legal fork done u left = go done.over
  where
    go : (door_cut past ≡ true) ⊎ (((why : Why) × (stage past program_door ≡ Gone why)) ⊎ (out_of_tries c past program_door ≡ true)) → served past program_door ≡ true
    go (inl e) = absurd (true≢false (sym e ∙ u))
    go (inr (inl g)) = ap (is_gone_with whys.Served) (g.1 ∙ ap Gone (gone_served c n past g.0 legal fork u g.1))
    go (inr (inr e)) = absurd (true≢false (sym e ∙ left))

pub told_outcome : (c : Config) (n : ℕ) (past : List Act) (answer : RunOutcome) → Legal c n past → has_fork c ≡ true → IsDoorDone c past → ((s : ℕ) → s < admitted c past → holds c past s ≡ false) → told_by_door c past (door_cause past) answer → outcome c past ≡ Some answer
told_outcome c n past answer legal fork done none told =
    after_free (holds_something c past) _ answer (nothing_held c n past legal fork done none)
    (go (memory_said past) (stop_said past) (accept_failed past program_door) refl refl refl told)
  where
    go : (m t a : Bool) → memory_said past ≡ m → stop_said past ≡ t → accept_failed past program_door ≡ a → told_by_door c past (first_some (only_if m whys.Memory ∷ only_if t whys.Stopped ∷ only_if a whys.AcceptFailed ∷ [])) answer → first_some (only_if (memory_said past) Memory ∷ only_if (stop_said past) (Stopped (turns past)) ∷ only_if (list_any (accept_failed past) (program_doors c)) AcceptFailed ∷ failed_listening c past (program_doors c) ∷ cond (has_fork c) (outcome_of_sessions c past) (outcome_by c past (cause c past 0)) ∷ []) ≡ Some answer
    go true t a em et ea k = rw (em, k) refl
    go false true a em et ea k = rw (em, et, k) refl
    go false false true em et ea k = rw (em, et, fork, ea, k) refl
    go false false false em et ea (inl k) = let o = k.0 in let e = k.1 in rw (em, et, fork, ea, o, e) refl
    go false false false em et ea (inr k) =
        let u = none_again (memory_said past) (stop_said past) (accept_failed past program_door) (record { first = em; second = et; third = ea }) in
        let v = is_served c n past legal fork done u k.0 in
        let d = none_live c past fork none in
        let o = k.0 in let e = k.1 in
        let last : outcome_of_sessions c past ≡ Some (Ended whys.Served) = λ i. only_if (v i && not (d i)) (Ended whys.Served) in
        let ma : only_if (memory_said past) Memory ≡ None = ap (λ b. only_if b Memory) em in
        let st : only_if (stop_said past) (Stopped (turns past)) ≡ None = ap (λ b. only_if b (Stopped (turns past))) et in
        let ac : only_if (list_any (accept_failed past) (program_doors c)) AcceptFailed ≡ None = (λ i. only_if (list_any (accept_failed past) (cond (fork i) (program_door ∷ []) (own_doors c 0))) AcceptFailed) ∙ ap (λ b. only_if (b || false) AcceptFailed) ea in
        let li : failed_listening c past (program_doors c) ≡ None =
        (λ i. failed_listening c past (cond (fork i) (program_door ∷ []) (own_doors c 0)))
        ∙ ap (λ b. or_else (only_if b (ListenFailed (length (failures past program_door)))) None) o in
        (λ i. first_some (ma i ∷ st i ∷ ac i ∷ li i ∷ cond (fork i) (last i) (outcome_by c past (cause c past 0)) ∷ [])) ∙ ap Some (sym e)
