-- How many rows the table has, against the looks at them and the acts of their sessions.
use Rattle.std.proofs.Common.{◌≡◌, refl, sym, ap, ◌∙◌, ℕ, zero, suc, ◌+◌, ◌<◌, ◌≤◌, ◌⊎◌, inl, inr, Bool, true, false, Option, Some, None, is_some, add-one, arith}
use Rattle.std.proofs.lemmas.Bool.{cases_eq, cases_lt}
use Rattle.relay_model.specs.Choices.{count, one_more}
use Rattle.fork_table.specs.Tables.{row_of, IsFirstLive}
use Rattle.event_loop.specs.declared.all_sessions.Sessions.{Sessions}
use Rattle.event_loop.specs.declared.all_sessions.Row.{Row}
use Rattle.event_loop.specs.Courses.{OthersStay}
use Rattle.event_loop.specs.Closings.{LooksAtRows, rows_below}

-- ---- counts

more_up : (b : Bool) (n : ℕ) → n ≤ one_more b n
more_up true n = omega arith
more_up false n = omega arith

more_false : (b : Bool) (n : ℕ) → b ≡ false → one_more b n ≡ n
more_false false n e = refl
more_false true n e = let x : ⊥ = cc in absurd x

more_true : (b : Bool) (n : ℕ) → b ≡ true → one_more b n ≡ suc n
more_true true n e = refl
more_true false n e = let x : ⊥ = cc in absurd x

count_up : (f : ℕ → Bool) (j k : ℕ) → j ≤ k → count f j ≤ count f k
count_up f j zero l = let e : j ≡ 0 = omega (arith, l) in let x = ap (count f) e in omega (arith, x)
count_up f j (suc k) l = go (cases_eq j (suc k)) (λ m. count_up f j k m)
  where
    go : (j ≡ suc k) ⊎ (j ≡ suc k → ⊥) → (j ≤ k → count f j ≤ count f k) → count f j ≤ count f (suc k)
    go (inl e) before = (let x = ap (count f) e in omega (arith, x))
    go (inr apart) before = (let a = before (omega (arith, l, apart)) in let b = more_up (f k) (count f k) in omega (arith, a, b))

count_flat : (f : ℕ → Bool) (j k : ℕ) → j ≤ k → ((s : ℕ) → j ≤ s → s < k → f s ≡ false) → count f k ≡ count f j
count_flat f j zero l none = let e : j ≡ 0 = omega (arith, l) in sym (ap (count f) e)
count_flat f j (suc k) l none = go (cases_eq j (suc k)) (λ m. count_flat f j k m (λ s a b. none s a (omega (arith, b))))
  where
    go : (j ≡ suc k) ⊎ (j ≡ suc k → ⊥) → (j ≤ k → count f k ≡ count f j) → count f (suc k) ≡ count f j
    go (inl e) before = sym (ap (count f) e)
    go (inr apart) before = more_false (f k) (count f k) (none k (omega (arith, l, apart)) (omega arith)) ∙ before (omega (arith, l, apart))

count_next : (f : ℕ → Bool) (k : ℕ) → f k ≡ true → count f (k + 1) ≡ count f k + 1
count_next f k e = ap (count f) (add-one k) ∙ more_true (f k) (count f k) e ∙ sym (add-one (count f k))

count_alike : (f g : ℕ → Bool) (k : ℕ) → ((s : ℕ) → f s ≡ g s) → count f k ≡ count g k
count_alike f g zero h = refl
count_alike f g (suc k) h = let a = h k in let b = count_alike f g k h in λ i. one_more (a i) (b i)

-- each number has a session in both or in neither
pub same_rows_below : (one other : Sessions) (k : ℕ) → ((s : ℕ) → is_some (row_of one.table s) ≡ is_some (row_of other.table s)) → rows_below one k ≡ rows_below other k
same_rows_below one other k h = count_alike (λ s. is_some (row_of one.table s)) (λ s. is_some (row_of other.table s)) k h

-- ---- looks, one at each row

abbrev pub LooksTo : Sessions → Option ℕ → ℕ → ℕ → Type 0
LooksTo sessions (Some k) old new = (new ≤ old + rows_below sessions k) × (is_some (row_of sessions.table k) ≡ true)
LooksTo sessions None old new = LooksAtRows sessions old new

pub looks_first : (sessions : Sessions) (first : Option ℕ) (ticks : ℕ) → IsFirstLive sessions.table 0 first → LooksTo sessions first ticks ticks
looks_first sessions None ticks f = (0, omega arith)
looks_first sessions (Some k) ticks f = (omega arith, f.1)

-- the rows from this number on are as they were
abbrev pub SameFrom : ℕ → Sessions → Sessions → Type 0
SameFrom k before mid = (s : ℕ) → k ≤ s → row_of mid.table s ≡ row_of before.table s

-- so from the next one on
abbrev pub SameOn : Option ℕ → Sessions → Sessions → Type 0
SameOn None before mid = Unit {0}
SameOn (Some k) before mid = SameFrom k before mid

pub same_first : (sessions : Sessions) (first : Option ℕ) → SameOn first sessions sessions
same_first sessions None = tt
same_first sessions (Some k) = λ s b. refl

after_this : (k s : ℕ) (before mid after : Sessions) → SameFrom k before mid → OthersStay k mid after → k < s → row_of after.table s ≡ row_of before.table s
after_this k s before mid after same stay b = stay s (λ e. let x : ⊥ = omega (arith, b, e) in x) ∙ same s (omega (arith, b))

pub same_next : (k : ℕ) (before mid after : Sessions) (next : Option ℕ) → SameFrom k before mid → OthersStay k mid after → IsFirstLive after.table (k + 1) next → SameOn next before after
same_next k before mid after None same stay f = tt
same_next k before mid after (Some m) same stay f = λ s b. after_this k s before mid after same stay (let l = f.0 in omega (arith, b, l))

pub looks_next : (k : ℕ) (before mid after : Sessions) (next : Option ℕ) (old ticks more : ℕ) → LooksTo before (Some k) old ticks → SameFrom k before mid → OthersStay k mid after → more ≤ ticks + 1 → IsFirstLive after.table (k + 1) next → LooksTo before next old more
looks_next k before mid after next old ticks more at same stay one first = go next first
  where
    so_far : more ≤ old + rows_below before (k + 1)
    so_far = let a = at.0 in let e = count_next (λ s. is_some (row_of before.table s)) k at.1 in omega (arith, a, e, one)

    go : (o : Option ℕ) → IsFirstLive after.table (k + 1) o → LooksTo before o old more
    go None f = (k + 1, so_far)
    go (Some m) f = (
      (let l = f.0 in let u = count_up (λ s. is_some (row_of before.table s)) (k + 1) m l in omega (arith, so_far, u)),
      sym (ap is_some (after_this k m before mid after same stay (let l = f.0 in omega (arith, l)))) ∙ f.1,
    )

-- ---- acts, one at least of the session of each row

abbrev pub EachTo : Sessions → Option ℕ → ℕ → Type 0
EachTo sessions (Some k) acts = (rows_below sessions k ≤ acts) × (is_some (row_of sessions.table k) ≡ true)
EachTo sessions None acts = (k : ℕ) → rows_below sessions k ≤ acts

none_there : (row : Option Row) → row ≡ None → is_some row ≡ false
none_there row e = ap is_some e

pub each_first : (sessions : Sessions) (first : Option ℕ) → IsFirstLive sessions.table 0 first → EachTo sessions first 0
each_first sessions None f = λ k. (let e = count_flat (λ s. is_some (row_of sessions.table s)) 0 k (omega arith) (λ s a b. none_there (row_of sessions.table s) (f s (omega arith))) in omega (arith, e))
each_first sessions (Some k) f = ((let e = count_flat (λ s. is_some (row_of sessions.table s)) 0 k (omega arith) (λ s a b. none_there (row_of sessions.table s) (f.2 s (omega arith) b)) in omega (arith, e)), f.1)

pub each_next : (k : ℕ) (before mid after : Sessions) (next : Option ℕ) (acts more : ℕ) → EachTo before (Some k) acts → SameFrom k before mid → OthersStay k mid after → acts + 1 ≤ more → IsFirstLive after.table (k + 1) next → EachTo before next more
each_next k before mid after next acts more at same stay one first = go next first
  where
    so_far : rows_below before (k + 1) ≤ more
    so_far = let a = at.0 in let e = count_next (λ s. is_some (row_of before.table s)) k at.1 in omega (arith, a, e, one)

    none : (s : ℕ) → k + 1 ≤ s → row_of after.table s ≡ None → is_some (row_of before.table s) ≡ false
    none s b e = none_there (row_of before.table s) (sym (after_this k s before mid after same stay (omega (arith, b))) ∙ e)

    go : (o : Option ℕ) → IsFirstLive after.table (k + 1) o → EachTo before o more
    go None f = λ m. all m (cases_lt m (k + 1))
      where
        all : (m : ℕ) → (m < k + 1) ⊎ (k + 1 ≤ m) → rows_below before m ≤ more
        all m (inl h) = (let u = count_up (λ s. is_some (row_of before.table s)) m (k + 1) (omega (arith, h)) in omega (arith, so_far, u))
        all m (inr h) = (let e = count_flat (λ s. is_some (row_of before.table s)) (k + 1) m h (λ s a b. none s a (f s a)) in omega (arith, so_far, e))
    go (Some m) f = (
      (let l = f.0 in let e = count_flat (λ s. is_some (row_of before.table s)) (k + 1) m l (λ s a b. none s a (f.2 s a b)) in omega (arith, so_far, e)),
      sym (ap is_some (after_this k m before mid after same stay (let l = f.0 in omega (arith, l)))) ∙ f.1,
    )
