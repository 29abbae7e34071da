-- Without `fork` only the one session calls for anything, and only its things are held.
use Rattle.std.proofs.Common.{◌≡◌, refl, sym, subst, ◌∙◌, ℕ, suc, Bool, true, false, cond, ◌&&◌, ◌||◌, is_some, is_none, List, [], ◌∷◌, Option, Some, None, inl, inr, ◌⊎◌}
use Rattle.std.specs.List.{list_any}
use Rattle.std.proofs.lemmas.Bool.{false≢true, true≢false, and_parts, or_cases, or_from, or_left, or_right, eqb-true, false_from_ne_true}
use Rattle.relay_model.specs.declared.places.Place.{Place}
use Rattle.relay_model.specs.declared.commands.Config.{Config}
use Rattle.relay_model.specs.declared.commands.Dump.TheVariants as dumps
use Rattle.relay_model.specs.declared.acts.Act.{Act}
use Rattle.relay_model.specs.declared.acts.Act.TheVariants.{Opened, OpenLater, OpenFailed, Listening, ListenFailed, Accepted, Read, Closed}
use Rattle.relay_model.specs.Places.{same_place}
use Rattle.relay_model.specs.Choices.{some_below}
use Rattle.relay_model.specs.Configs.{has_fork, is_of, things, places, program_door}
use Rattle.relay_model.specs.History.{stage, held, holds_at}
use Rattle.relay_model.specs.declared.stages.Stage.{Stage}
use Rattle.relay_model.specs.declared.stages.Stage.TheVariants.{Usable, Unsettled, Failed, Met, Waiting, Gone}
use Rattle.relay_model.specs.Sessions.{live, holds, numbers}
use Rattle.relay_model.specs.Openings.{first_call}
use Rattle.relay_model.specs.declared.calls.Call.{Call}
use Rattle.relay_model.specs.declared.calls.Call.TheVariants.{Nothing, Listen, Accept}
use Rattle.relay_model.specs.Cause.{cause}
use Rattle.relay_model.specs.Calls.{call, called_at}
use Rattle.relay_model.specs.Outcome.{holds_something}
use Rattle.relay_model.specs.Rest.{owed}
use Rattle.relay_model.specs.May.{Legal, MayOpen}
use Rattle.relay_laws.proofs.PlaceLemmas.{same_place_equal}
use Rattle.relay_laws.proofs.Begun.{none_of_things}
use Rattle.relay_session.proofs.Own.{OwnPlace, OwnDoor, NamesOwn, names_own}
use Rattle.relay_session.proofs.Causes.{own_session, called_of}

-- ---- what is called for

pub lives_alone : (c : Config) (past : List Act) (s : ℕ) → has_fork c ≡ false → live c past s ≡ true → s ≡ 0
lives_alone c past s alone e = eqb-true s 0 (rw alone at e)

pub lives_not : (c : Config) (past : List Act) → has_fork c ≡ false → live c past 1 ≡ false
lives_not c past alone = rw alone refl

choice : (c : Config) (b : Bool) (k : Call) → (b ≡ true → NamesOwn c 0 k) → NamesOwn c 0 (cond b k Nothing)
choice c true k t = t refl
choice c false k t = tt

-- whatever is called for names things of the session
pub call_own : (c : Config) (past : List Act) (s : ℕ) → has_fork c ≡ false → NamesOwn c 0 (call c past s)
call_own c past s alone =
    choice c (live c past s && is_none (cause c past s)) (first_call c past (places c s))
    (λ e. subst (λ k. NamesOwn c 0 (first_call c past (places c k))) (sym (lives_alone c past s alone (and_parts (live c past s) (is_none (cause c past s)) e).0)) (names_own c past 0))

pub called_own : (c : Config) (past : List Act) (p : Place) → has_fork c ≡ false → NamesOwn c 0 (called_at c past p)
called_own c past p alone = subst (NamesOwn c 0) (sym (called_of c past p.session p alone refl)) (call_own c past p.session alone)

-- what an act opens is a place of the session
pub opened_own : (c : Config) (past : List Act) (p : Place) → has_fork c ≡ false → MayOpen c past p → OwnPlace c 0 p
opened_own c past p alone (inl e) = (subst (NamesOwn c 0) e (called_own c past p alone)).0
opened_own c past p alone (inr e) = (subst (NamesOwn c 0) e (called_own c past p alone)).0

pub listened_own : (c : Config) (past : List Act) (d : Place) → has_fork c ≡ false → called_at c past d ≡ Listen d → OwnDoor c 0 d
listened_own c past d alone e = subst (NamesOwn c 0) e (called_own c past d alone)

pub accepted_own : (c : Config) (past : List Act) (p d : Place) → has_fork c ≡ false → called_at c past p ≡ Accept d p → OwnPlace c 0 p
accepted_own c past p d alone e = (subst (NamesOwn c 0) e (called_own c past p alone)).1

ended_call : (l : Bool) (n : Bool) (k : Call) → (l ≡ true → n ≡ false) → cond (l && n) k Nothing ≡ Nothing
ended_call true true k e = absurd (true≢false (e refl))
ended_call true false k e = refl
ended_call false n k e = refl

none_not : {T : Type 0} (o : Option T) → is_some o ≡ true → is_none o ≡ false
none_not None e = absurd (false≢true e)
none_not (Some x) e = refl

-- once the session has a cause, nothing is called for
pub nothing_called : (c : Config) (past : List Act) (p : Place) → has_fork c ≡ false → is_some (cause c past 0) ≡ true → called_at c past p ≡ Nothing
nothing_called c past p alone e =
    called_of c past p.session p alone refl
    ∙ ended_call (live c past p.session) (is_none (cause c past p.session)) (first_call c past (places c p.session))
    (λ l. subst (λ s. is_none (cause c past s) ≡ false) (sym (lives_alone c past p.session alone l)) (none_not (cause c past 0) e))

-- ---- what is held

-- a holding that an act begins is the session's, or it stood before
step : (c : Config) (p q : Place) (b : Bool) (st old : Stage) → same_place q p ≡ b → is_of c 0 q ≡ true → (holds_at old ≡ true → is_of c 0 p ≡ true) → holds_at (cond b st old) ≡ true → is_of c 0 p ≡ true
step c p q true st old e h ih t = subst (λ x. is_of c 0 x ≡ true) (same_place_equal q p e) h
step c p q false st old e h ih t = ih t

-- an act that ends a holding begins none
gone : (b : Bool) (st old : Stage) → holds_at st ≡ false → holds_at (cond b st old) ≡ true → holds_at old ≡ true
gone true st old f t = absurd (false≢true (sym f ∙ t))
gone false st old f t = t

-- what is held is a thing of the session
pub held_own : (c : Config) (n : ℕ) (past : List Act) (p : Place) → has_fork c ≡ false → Legal c n past → held past p ≡ true → is_of c 0 p ≡ true
held_own c n [] p alone legal h = absurd (false≢true h)
held_own c n (Opened q ∷ past) p alone legal h = let ih = held_own c n past p alone legal.1 in step c p q (same_place q p) Usable (stage past p) refl (opened_own c past q alone legal.0.1).of ih h
held_own c n (OpenLater q ∷ past) p alone legal h = let ih = held_own c n past p alone legal.1 in step c p q (same_place q p) Unsettled (stage past p) refl (opened_own c past q alone legal.0.1).of ih h
held_own c n (OpenFailed q ∷ past) p alone legal h = held_own c n past p alone legal.1 (gone (same_place q p) Failed (stage past p) refl h)
held_own c n (Listening q ∷ past) p alone legal h = let ih = held_own c n past p alone legal.1 in step c p q (same_place q p) Waiting (stage past p) refl (listened_own c past q alone legal.0.1).of ih h
held_own c n (ListenFailed q ∷ past) p alone legal h = held_own c n past p alone legal.1 (gone (same_place q p) Failed (stage past p) refl h)
held_own c n (Accepted q peer ∷ past) p alone legal h = let ih = held_own c n past p alone legal.1 in step c p q (same_place q p) (Met peer) (stage past p) refl (accepted_own c past q legal.0.1.0 alone legal.0.1.1).of ih h
held_own c n (Closed q why ∷ past) p alone legal h = held_own c n past p alone legal.1 (gone (same_place q p) (Gone why) (stage past p) refl h)
held_own c n (act ∷ past) p alone legal h = held_own c n past p alone legal.1 h

pub among : (test : Place → Bool) (q : Place) (ps : List Place) → list_any (same_place q) ps ≡ true → test q ≡ true → list_any test ps ≡ true
among test q [] e t = absurd (false≢true e)
among test q (p ∷ ps) e t = go (or_cases (same_place q p) (list_any (same_place q) ps) e) (λ f. among test q ps f t)
  where
    go : (same_place q p ≡ true) ⊎ (list_any (same_place q) ps ≡ true) → (list_any (same_place q) ps ≡ true → list_any test ps ≡ true) → list_any test (p ∷ ps) ≡ true
    go (inl here) ih = or_left (test p) (list_any test ps) (subst (λ x. test x ≡ true) (same_place_equal q p here) t)
    go (inr there) ih = or_right (test p) (list_any test ps) (ih there)

-- where something is held, the session holds something
pub holds_held : (c : Config) (n : ℕ) (past : List Act) (p : Place) → has_fork c ≡ false → Legal c n past → held past p ≡ true → holds c past 0 ≡ true
holds_held c n past p alone legal h = among (held past) p (things c 0) (held_own c n past p alone legal h) h

-- the session that would be the next holds nothing
pub next_holds : (c : Config) (n : ℕ) (past : List Act) → has_fork c ≡ false → Legal c n past → holds c past 1 ≡ false
next_holds c n past alone legal =
    none_of_things c (held past) 1
    (λ p e. false_from_ne_true (held past p) (λ h. let s : p.session ≡ 0 = own_session c 0 p (held_own c n past p alone legal h) in let x : ⊥ = cc in x))

pub numbers_alone : (c : Config) (past : List Act) → has_fork c ≡ false → numbers c past ≡ 1
numbers_alone c past alone = rw alone refl

nothing : (f o z d : Bool) → f ≡ false → o ≡ false → z ≡ false → ((o || (z || false)) || f && d) ≡ false
nothing true o z d a e g = absurd (true≢false a)
nothing false true z d a e g = absurd (true≢false e)
nothing false false z d a e g = rw g refl

-- where the session holds nothing, nothing is held
pub nothing_left : (c : Config) (n : ℕ) (past : List Act) → has_fork c ≡ false → Legal c n past → holds c past 0 ≡ false → holds_something c past ≡ false
nothing_left c n past alone legal e =
    let P : ℕ → Type 0 = λ k. (some_below (holds c past) (suc k) || has_fork c && held past program_door) ≡ false in
    subst P (sym (numbers_alone c past alone)) (nothing (has_fork c) (holds c past 1) (holds c past 0) (held past program_door) alone (next_holds c n past alone legal) e)

none_any : (test : Place → Bool) (ps : List Place) → ((p : Place) → test p ≡ false) → list_any test ps ≡ false
none_any test [] h = refl
none_any test (p ∷ ps) h = or_from (test p) (list_any test ps) (h p) (none_any test ps h)

pub holds_not : (c : Config) (past : List Act) (s : ℕ) → ((p : Place) → held past p ≡ false) → holds c past s ≡ false
holds_not c past s h = none_any (held past) (things c s) h

-- ---- dumps

-- a silent command owes no dump
pub owes_nothing : (c : Config) (past : List Act) → c.dump ≡ dumps.Off → owed c past ≡ None
owes_nothing c [] silent = refl
owes_nothing c (Read q bytes ∷ past) silent = rw silent refl
owes_nothing c (act ∷ past) silent = refl
