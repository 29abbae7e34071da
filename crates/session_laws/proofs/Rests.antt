-- The whole rests where the door and each session do.
use Rattle.std.proofs.Common.{◌≡◌, refl, sym, subst, ◌∙◌, ℕ, suc, ◌<◌, ◌≤◌, ◌⊎◌, inl, inr, Bool, true, false, cond, ◌||◌, ◌&&◌, List, Option, None, arith}
use Rattle.std.proofs.lemmas.Bool.{cases_lt, or_parts, false≢true}
use Rattle.relay_model.specs.declared.commands.Config.{Config}
use Rattle.relay_model.specs.declared.acts.Act.{Act}
use Rattle.relay_model.specs.Choices.{some_below}
use Rattle.relay_model.specs.Configs.{has_fork, program_door}
use Rattle.relay_model.specs.History.{memory_said, stop_said, accept_failed, held}
use Rattle.relay_model.specs.Sessions.{holds, numbers}
use Rattle.relay_model.specs.Outcome.{outcome, holds_something}
use Rattle.relay_model.specs.Rest.{owed, SessionRests, Rest}
use Rattle.relay_model.specs.May.{Legal}
use Rattle.relay_laws.proofs.RestLemmas.{rest_of_parts}
use Rattle.program_door.specs.Wishes.{GoesOn}
use Rattle.program_door.proofs.Held.{rests_next}
use Rattle.program_door.proofs.Moves.{numbers_are}
use Rattle.session_laws.specs.Wholes.{Remains, AllRest}
use Rattle.session_laws.proofs.Waits.{none_found}

-- ---- no outcome while the door goes on

or_held : (a f h : Bool) → f ≡ true → h ≡ true → (a || f && h) ≡ true
or_held true f h e k = refl
or_held false f h e k = λ i. e i && k i

either_none : {T : Type 0} (b : Bool) (o : Option T) → o ≡ None → cond b None o ≡ None
either_none true o e = refl
either_none false o e = e

pub not_over : (c : Config) (past : List Act) → has_fork c ≡ true → GoesOn c past → outcome c past ≡ None
not_over c past fork (inl h) = rw (or_held (some_below (holds c past) (suc (numbers c past))) (has_fork c) (held past program_door) fork h) refl
not_over c past fork (inr r) =
    let ms = or_parts (memory_said past || stop_said past) (accept_failed past program_door) r.uncut in
    let m = or_parts (memory_said past) (stop_said past) ms.0 in
    either_none (holds_something c past) _ (rw (fork, m.0, m.1, ms.1, r.tries_left, r.failed) refl)

some_left : (test : ℕ → Bool) (k s : ℕ) → s < k → test s ≡ true → some_below test k ≡ true
some_left test k s below e = go (some_below test k) refl
  where
    go : (b : Bool) → some_below test k ≡ b → some_below test k ≡ true
    go true h = h
    go false h = absurd (false≢true (sym (none_found test k h s below) ∙ e))

or_first : (a b : Bool) → a ≡ true → (a || b) ≡ true
or_first a b e = λ i. e i || b

-- nor while a session holds something
pub no_outcome : (c : Config) (past : List Act) → has_fork c ≡ true → Remains c past → outcome c past ≡ None
no_outcome c past fork (inl g) = not_over c past fork g
no_outcome c past fork (inr w) =
    let s = w.0 in
    let b = w.1 in
    rw (or_first (some_below (holds c past) (suc (numbers c past))) (has_fork c && held past program_door) (some_left (holds c past) (suc (numbers c past)) s (omega (arith, b)) w.2)) refl

pub all_rest : (c : Config) (n : ℕ) (past : List Act) (until : Option ℕ) → Legal c n past → has_fork c ≡ true → owed c past ≡ None → AllRest c past until → Rest c past
all_rest c n past until legal fork unowed r =
    rest_of_parts c n past legal (no_outcome c past fork r.remains) unowed (λ s near. one s (cases_lt s (numbers c past)) near) r.door.rests
  where
    one : (s : ℕ) → (s < numbers c past) ⊎ (numbers c past ≤ s) → s < suc (numbers c past) → SessionRests c past s
    one s (inl below) near = r.sessions s below
    one s (inr above) near =
        let e : s ≡ numbers c past = omega (arith, above, near) in
        subst (SessionRests c past) (sym (e ∙ numbers_are c past fork)) (rests_next c n past legal fork r.door.no_peer)
