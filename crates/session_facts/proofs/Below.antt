-- What holds of the numbers below a bound, and the first of several answers.
use Rattle.std.proofs.Common.{◌≡◌, ℕ, zero, suc, ◌+◌, ◌<◌, Bool, true, false, ◌||◌, ◌&&◌, below_more, add-one, refl, ap, arith}
use Rattle.std.specs.Prelude.{Option, Some, None}
use Rattle.relay_model.specs.Choices.{or_else, earlier, some_below, each_below, least_below}

or_left : (a b : Bool) → a ≡ true → (a || b) ≡ true
or_left a b holds = ap (λ x. x || b) holds

or_right : (a b : Bool) → b ≡ true → (a || b) ≡ true
or_right true b holds = refl
or_right false b holds = holds

and_left : (a b : Bool) → a ≡ false → (a && b) ≡ false
and_left a b fails = ap (λ x. x && b) fails

and_right : (a b : Bool) → b ≡ false → (a && b) ≡ false
and_right true b fails = fails
and_right false b fails = refl

-- what holds of one number holds of some number
pub some_below_at : (test : ℕ → Bool) (k n : ℕ) → test k ≡ true → k < n → some_below test n ≡ true
some_below_at test k zero holds below = absurd (omega arith)
some_below_at test k (suc n) holds below =
    below_more (λ j. test j ≡ true → (test n || some_below test n) ≡ true) n
    (λ j under it. or_right (test n) (some_below test n) (some_below_at test j n it under))
    (λ it. or_left (test n) (some_below test n) it)
    k (omega arith) holds

-- what fails for one number fails for each
pub each_below_at : (test : ℕ → Bool) (k n : ℕ) → test k ≡ false → k < n → each_below test n ≡ false
each_below_at test k zero fails below = absurd (omega arith)
each_below_at test k (suc n) fails below =
    below_more (λ j. test j ≡ false → (test n && each_below test n) ≡ false) n
    (λ j under it. and_right (test n) (each_below test n) (each_below_at test j n it under))
    (λ it. and_left (test n) (each_below test n) it)
    k (omega arith) fails

pub some_below_more : (test : ℕ → Bool) (k : ℕ) → some_below test (k + 1) ≡ (test k || some_below test k)
some_below_more test k = ap (some_below test) (add-one k)

pub each_below_more : (test : ℕ → Bool) (k : ℕ) → each_below test (k + 1) ≡ (test k && each_below test k)
each_below_more test k = ap (each_below test) (add-one k)

pub least_below_more : (moment : ℕ → Option ℕ) (k : ℕ) → least_below moment (k + 1) ≡ earlier (moment k) (least_below moment k)
least_below_more moment k = ap (least_below moment) (add-one k)

pub or_else_none : {T : Type 0} → (first : Option T) → or_else first None ≡ first
or_else_none None = refl
or_else_none (Some x) = refl

pub or_else_some : {T : Type 0} → (first : Option T) (x : T) (last : Option T) → or_else (or_else first (Some x)) last ≡ or_else first (Some x)
or_else_some None x last = refl
or_else_some (Some y) x last = refl
