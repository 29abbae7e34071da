-- Moments, from what the state tells of them.
use Rattle.std.proofs.Common.{◌≡◌, refl, sym, ℕ, ◌^◌, ◌<◌, Bool, true, false, not, cond, ◌&&◌, ◌||◌, nat_lt, nat_le, List, Option, Some, None, arith}
use Rattle.std.proofs.lemmas.Bool.{false≢true}
use Rattle.relay_model.specs.declared.places.Way.TheVariants.{LeftToRight, RightToLeft}
use Rattle.relay_model.specs.declared.commands.Config.{Config}
use Rattle.relay_model.specs.declared.acts.Act.{Act}
use Rattle.relay_model.specs.Choices.{earlier, later}
use Rattle.relay_model.specs.Configs.{formed}
use Rattle.relay_model.specs.Moments.{done, done_at, closing_moment, after_one, is_unfinished, reached}
use Rattle.relay_model.specs.Cause.{each_formed}
use Rattle.relay_session.specs.Timers.{reachable, one_of, one_done_at, after}

after_of : (t : ℕ) (a b : Option ℕ) → after_one t a b ≡ after t (one_of a b)
after_of t (Some a) None = refl
after_of t None (Some b) = refl
after_of t (Some a) (Some b) = refl
after_of t None None = refl

chosen_after : (t : ℕ) (f : Bool) (a b : Option ℕ) → cond f (after_one t a b) None ≡ after t (cond f (one_of a b) None)
chosen_after t true a b = after_of t a b
chosen_after t false a b = refl

pub closing_of : (c : Config) (past : List Act) (s : ℕ) → closing_moment c past s ≡ after c.closing (one_done_at c past s)
closing_of c past s = chosen_after c.closing (formed c LeftToRight && formed c RightToLeft) (done_at c past s LeftToRight) (done_at c past s RightToLeft)

unfinished : (f g d e : Bool) → not ((not f || d) && (not g || e)) ≡ (f && not d || g && not e)
unfinished true true true true = refl
unfinished true true true false = refl
unfinished true true false true = refl
unfinished true true false false = refl
unfinished true false true e = refl
unfinished true false false e = refl
unfinished false true d true = refl
unfinished false true d false = refl
unfinished false false d e = refl

pub unfinished_of : (c : Config) (past : List Act) (s : ℕ) → not (each_formed c (done c past s)) ≡ is_unfinished c past s
unfinished_of c past s = unfinished (formed c LeftToRight) (formed c RightToLeft) (done c past s LeftToRight) (done c past s RightToLeft)

pub reached_of : (m : Option ℕ) (at : ℕ) → at < 2 ^ 64 → reached (reachable m) at ≡ reached m at
reached_of None at h = refl
reached_of (Some m) at h = go (nat_lt m (2 ^ 64)) refl
  where
    go : (b : Bool) → nat_lt m (2 ^ 64) ≡ b → reached (cond b (Some m) None) at ≡ nat_le m at
    go true e = refl
    go false e = grind (arith, e, h)

pub later_of : (m : Option ℕ) (at : ℕ) → later at (reachable m) ≡ later at m
later_of None at = refl
later_of (Some m) at = go (nat_lt m (2 ^ 64)) refl
  where
    go : (b : Bool) → nat_lt m (2 ^ 64) ≡ b → later at (cond b (Some m) None) ≡ cond (nat_lt at m && nat_lt m (2 ^ 64)) (Some m) None
    go true e = refl
    go false e = rw e (lost (nat_lt at m))
      where
        lost : (b : Bool) → None ≡ cond (b && false) (Some m) None
        lost true = refl
        lost false = refl

pub earlier_none : (a : Option ℕ) → earlier a None ≡ a
earlier_none None = refl
earlier_none (Some a) = refl

pub one_done_then : (c : Config) (past : List Act) (s : ℕ) (a b : Option ℕ) → (formed c LeftToRight && formed c RightToLeft) ≡ true → a ≡ done_at c past s LeftToRight → b ≡ done_at c past s RightToLeft → one_of a b ≡ one_done_at c past s
one_done_then c past s a b e f g = go (formed c LeftToRight && formed c RightToLeft) e
  where
    go : (t : Bool) → t ≡ true → one_of a b ≡ cond t (one_of (done_at c past s LeftToRight) (done_at c past s RightToLeft)) None
    go true h = λ i. one_of (f i) (g i)
    go false h = absurd (false≢true h)

pub one_done_else : (c : Config) (past : List Act) (s : ℕ) → (formed c LeftToRight && formed c RightToLeft) ≡ false → None ≡ one_done_at c past s
one_done_else c past s e = go (formed c LeftToRight && formed c RightToLeft) e
  where
    go : (t : Bool) → t ≡ false → None ≡ cond t (one_of (done_at c past s LeftToRight) (done_at c past s RightToLeft)) None
    go true h = absurd (false≢true (sym h))
    go false h = refl
