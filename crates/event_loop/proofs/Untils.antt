-- The least moment that the door or a session waits for.
use Rattle.std.proofs.Common.{◌≡◌, refl, sym, subst, ◌∙◌, ℕ, inl, inr, Option, Some, None, arith}
use Rattle.relay_model.specs.Choices.{earlier}
use Rattle.relay_laws.proofs.Least.{LeastOf, least, none_at_all, own_least, map_least, join_least}
use Rattle.timer_set.specs.Timers.{IsFirst}
use Rattle.event_loop.specs.declared.all_sessions.Sessions.{Sessions}
use Rattle.event_loop.specs.Courses.{timer_of}
use Rattle.event_loop.specs.Waits.{WaitsFor, IsLeast}

least_whole : (P : ℕ → Type 0) (answer : Option ℕ) → LeastOf P answer → IsLeast P answer
least_whole P answer l = go answer refl l
  where
    go : (a : Option ℕ) → answer ≡ a → LeastOf P answer → IsLeast P a
    go None e (least m f p b) = let z : None ≡ Some m = sym e ∙ f in let y : ⊥ = cc in absurd y
    go None e (none_at_all f n) = n
    go (Some k) e (least m f p b) = let same : m ≡ k = let z : Some m ≡ Some k = sym f ∙ e in cc in (subst P same p, λ j q. let h = b j q in omega (arith, h, same))
    go (Some k) e (none_at_all f n) = let z : None ≡ Some k = sym f ∙ e in let y : ⊥ = cc in absurd y

-- some timer is set to this moment
abbrev pub TimerAt : Sessions → ℕ → Type 0
TimerAt sessions m = (s : ℕ) × (timer_of sessions s ≡ Some m)

pub with_timer : (sessions : Sessions) (first : Option ℕ) (at key : ℕ) (result : Option ℕ) → IsFirst sessions.timers.moments (Some (at, key)) → result ≡ earlier first (Some at) → IsLeast (WaitsFor first sessions) result
with_timer sessions first at key result f e =
    least_whole (WaitsFor first sessions) result
    (subst (LeastOf (WaitsFor first sessions)) (sym e)
    (join_least (λ m. first ≡ Some m) (TimerAt sessions) first (Some at) (own_least first) (least at refl (key, f.is_set) (λ k t. f.least t.0 k t.1))))

pub without_timer : (sessions : Sessions) (first : Option ℕ) → IsFirst sessions.timers.moments None → IsLeast (WaitsFor first sessions) first
without_timer sessions first f = least_whole (WaitsFor first sessions) first (map_least (λ m. first ≡ Some m) (WaitsFor first sessions) first (λ m e. inl e) back (own_least first))
  where
    back : (m : ℕ) → WaitsFor first sessions m → first ≡ Some m
    back m (inl e) = e
    back m (inr (s, t)) = let y : None ≡ Some m = sym (f s) ∙ t in let x : ⊥ = cc in absurd x
