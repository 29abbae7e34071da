-- The least moment of the whole is the least of its parts'.
use Rattle.std.proofs.Common.{◌≡◌, refl, sym, ap, ◌∙◌, ℕ, zero, suc, ◌<◌, ◌≤◌, Bool, true, false, cond, List, Option, Some, None, arith, inl, inr, ◌⊎◌, le_of_eq}
use Rattle.std.proofs.lemmas.Bool.{cases_lt, cases_eq}
use Rattle.std.proofs.lemmas.Option.{same_Some}
use Rattle.relay_model.specs.declared.commands.Config.{Config}
use Rattle.relay_model.specs.declared.acts.Act.{Act}
use Rattle.relay_model.specs.Choices.{earlier, least_below}
use Rattle.relay_model.specs.History.{now}
use Rattle.relay_model.specs.Sessions.{numbers}
use Rattle.relay_model.specs.Rest.{session_moment, door_moment, until_of}
use Rattle.relay_model.specs.Waits.{works, FallsDue, IsUntil, at_once, at_least, never}

-- the answer is the least number with the property, where there is one
pub data LeastOf (P : ℕ → Type 0) (answer : Option ℕ) : Type 0 where
  least : (m : ℕ) → answer ≡ Some m → P m → ((k : ℕ) → P k → m ≤ k) → LeastOf P answer
  none_at_all : answer ≡ None → ((k : ℕ) → P k → ⊥) → LeastOf P answer

pub own_least : (o : Option ℕ) → LeastOf (λ m. o ≡ Some m) o
own_least None = none_at_all refl (λ k e. let x : ⊥ = cc in x)
own_least (Some n) = least n refl refl (λ k e. le_of_eq (same_Some n k e))

pub map_least : (P Q : ℕ → Type 0) (o : Option ℕ) → ((m : ℕ) → P m → Q m) → ((m : ℕ) → Q m → P m) → LeastOf P o → LeastOf Q o
map_least P Q o f g (least m e p l) = least m e (f m p) (λ k q. l k (g k q))
map_least P Q o f g (none_at_all e n) = none_at_all e (λ k q. n k (g k q))

pub join_least : (P Q : ℕ → Type 0) (a b : Option ℕ) → LeastOf P a → LeastOf Q b → LeastOf (λ m. P m ⊎ Q m) (earlier a b)
join_least P Q a b (least m e p l) (least n f q r) = go (cases_lt n m)
  where
    go : (n < m) ⊎ (m ≤ n) → LeastOf (λ k. P k ⊎ Q k) (earlier a b)
    go (inl h) = least n ((λ i. earlier (e i) (f i)) ∙ ap Some (omega (arith, h))) (inr q) (λ k t. below k t)
      where
        below : (k : ℕ) → P k ⊎ Q k → n ≤ k
        below k (inl t) = let x = l k t in omega (arith, x, h)
        below k (inr t) = r k t
    go (inr h) = least m ((λ i. earlier (e i) (f i)) ∙ ap Some (omega (arith, h))) (inl p) (λ k t. below k t)
      where
        below : (k : ℕ) → P k ⊎ Q k → m ≤ k
        below k (inl t) = l k t
        below k (inr t) = let x = r k t in omega (arith, x, h)
join_least P Q a b (least m e p l) (none_at_all f n) = least m (λ i. earlier (e i) (f i)) (inl p) (λ k t. below k t)
  where
    below : (k : ℕ) → P k ⊎ Q k → m ≤ k
    below k (inl t) = l k t
    below k (inr t) = absurd (n k t)
join_least P Q a b (none_at_all e n) (least m f q r) = least m (λ i. earlier (e i) (f i)) (inr q) (λ k t. below k t)
  where
    below : (k : ℕ) → P k ⊎ Q k → m ≤ k
    below k (inl t) = absurd (n k t)
    below k (inr t) = r k t
join_least P Q a b (none_at_all e n) (none_at_all f o) = none_at_all (λ i. earlier (e i) (f i)) (λ k t. neither k t)
  where
    neither : (k : ℕ) → P k ⊎ Q k → ⊥
    neither k (inl t) = n k t
    neither k (inr t) = o k t

-- some number below the bound has this moment
abbrev pub Among : (ℕ → Option ℕ) → ℕ → ℕ → Type 0
Among moment bound m = (s : ℕ) × (s < bound) × (moment s ≡ Some m)

pub below_least : (moment : ℕ → Option ℕ) (bound : ℕ) → LeastOf (Among moment bound) (least_below moment bound)
below_least moment zero = none_at_all refl (λ k t. let h = t.1 in let x : ⊥ = omega (arith, h) in x)
below_least moment (suc bound) =
    map_least (λ m. (moment bound ≡ Some m) ⊎ Among moment bound m) (Among moment (suc bound)) (earlier (moment bound) (least_below moment bound)) up down
    (join_least (λ m. moment bound ≡ Some m) (Among moment bound) (moment bound) (least_below moment bound) (own_least (moment bound)) (below_least moment bound))
  where
    up : (m : ℕ) → (moment bound ≡ Some m) ⊎ Among moment bound m → Among moment (suc bound) m
    up m (inl e) = (bound, omega arith, e)
    up m (inr (s, h, e)) = (s, omega (arith, h), e)

    down : (m : ℕ) → Among moment (suc bound) m → (moment bound ≡ Some m) ⊎ Among moment bound m
    down m (s, h, e) = split (cases_eq s bound)
      where
        split : (s ≡ bound) ⊎ (s ≡ bound → ⊥) → (moment bound ≡ Some m) ⊎ Among moment bound m
        split (inl same) = inl (ap moment (sym same) ∙ e)
        split (inr other) = inr (s, nearer (cases_lt s bound), e)
          where
            nearer : (s < bound) ⊎ (bound ≤ s) → s < bound
            nearer (inl b) = b
            nearer (inr b) = let x : ⊥ = other (omega (arith, b, h)) in absurd x

until_cases : (c : Config) (past : List Act) (w : Bool) (o : Option ℕ) → works c past ≡ w → LeastOf (FallsDue c past) o → IsUntil c past (cond w (Some (now past)) o)
until_cases c past true o e l = at_once e refl
until_cases c past false o e (least m f p l) = at_least m e f p l
until_cases c past false o e (none_at_all f n) = never e f n

pub until_least : (c : Config) (past : List Act) → IsUntil c past (until_of c past)
until_least c past =
    until_cases c past (works c past) (earlier (door_moment c past) (least_below (session_moment c past) (numbers c past))) refl
    (join_least (λ m. door_moment c past ≡ Some m) (Among (session_moment c past) (numbers c past)) (door_moment c past) (least_below (session_moment c past) (numbers c past)) (own_least (door_moment c past)) (below_least (session_moment c past) (numbers c past)))
