-- Loops over the rows of the table.
use Rattle.std.proofs.Common.{◌≡◌, refl, sym, subst, ◌∙◌, ℕ, ◌+◌, ◌-◌, ◌^◌, ◌<◌, ◌≤◌, ◌⊎◌, inl, inr, true, Option, Some, None, is_some, arith}
use Rattle.std.proofs.lemmas.Bool.{cases_lt, cases_eq, false≢true}
use Rattle.relay_model.specs.declared.commands.Config.{Config}
use Rattle.fork_table.specs.Tables.{row_of, IsFirstLive}
use Rattle.world_trait.specs.Seen.{Seen}
use Rattle.event_loop.specs.declared.all_sessions.Sessions.{Sessions}
use Rattle.event_loop.specs.declared.all_sessions.Row.{Row}
use Rattle.event_loop.specs.Courses.{Keeps, OthersStay, SessionsSomewhere}

-- how many numbers are still ahead
abbrev pub ahead : Option ℕ → ℕ
ahead None = 0
ahead (Some k) = 2 ^ 32 - k

pub kept_on : (c : Config) (old new : Seen) (before after : Sessions) → SessionsSomewhere c old before → Keeps c old new before after → SessionsSomewhere c new after
kept_on c old new before after at k = let o = k at.n at.start at.past at.course in record { n = at.n; start = at.start; past = o.past; course = o.course }

pub keeps_all : (c : Config) (now : Seen) (sessions : Sessions) → Keeps c now now sessions sessions
keeps_all c now sessions = λ n start past on. record { past = past; course = on }

pub keeps_then : (c : Config) (old mid new : Seen) (one two three : Sessions) → Keeps c old mid one two → Keeps c mid new two three → Keeps c old new one three
keeps_then c old mid new one two three f g = λ n start past on. let a = f n start past on in g n start a.past a.course

pub some_row : {T : Type 0} (o : Option T) → is_some o ≡ true → (x : T) × (o ≡ Some x)
some_row None e = absurd (false≢true e)
some_row (Some x) e = (x, refl)

-- fewer are ahead
pub fewer_ahead : (k : ℕ) (sessions : Sessions) (next : Option ℕ) → k < 2 ^ 32 → IsFirstLive sessions.table (k + 1) next → ahead next < ahead (Some k)
fewer_ahead k sessions None small f = omega (arith, small)
fewer_ahead k sessions (Some m) small f = let b = f.0 in omega (arith, small, b)

-- ---- a loop that makes of each row another

-- the rows before the next one were made others, and the rest are as they were
abbrev pub RowsTo : (ℕ → Option Row → Option Row → Type 0) → Option ℕ → Sessions → Sessions → Type 0
RowsTo R None before after = (s : ℕ) → R s (row_of before.table s) (row_of after.table s)
RowsTo R (Some k) before after = ((s : ℕ) → s < k → R s (row_of before.table s) (row_of after.table s)) × ((s : ℕ) → k ≤ s → row_of after.table s ≡ row_of before.table s)

empty_rows : (R : ℕ → Option Row → Option Row → Type 0) → ((s : ℕ) → R s None None) → (s : ℕ) (one other : Option Row) → one ≡ None → other ≡ None → R s one other
empty_rows R none s one other e f = subst (λ (x : Option Row). R s x other) (sym e) (subst (λ (x : Option Row). R s None x) (sym f) (none s))

pub rows_first : (R : ℕ → Option Row → Option Row → Type 0) → ((s : ℕ) → R s None None) → (sessions : Sessions) (first : Option ℕ) → IsFirstLive sessions.table 0 first → RowsTo R first sessions sessions
rows_first R none sessions None f = λ s. empty_rows R none s (row_of sessions.table s) (row_of sessions.table s) (f s (omega arith)) (f s (omega arith))
rows_first R none sessions (Some k) f = (λ s b. empty_rows R none s (row_of sessions.table s) (row_of sessions.table s) (f.2 s (omega arith) b) (f.2 s (omega arith) b), λ s b. refl)

pub rows_next : (R : ℕ → Option Row → Option Row → Type 0) → ((s : ℕ) → R s None None) → (k : ℕ) (before mid after : Sessions) (next : Option ℕ) → RowsTo R (Some k) before mid → R k (row_of mid.table k) (row_of after.table k) → OthersStay k mid after → IsFirstLive after.table (k + 1) next → RowsTo R next before after
rows_next R none k before mid after next done here stay first = go next first
  where
    same : (s : ℕ) → k < s → row_of after.table s ≡ row_of before.table s
    same s b = stay s (λ e. let x : ⊥ = omega (arith, b, e) in x) ∙ done.1 s (omega (arith, b))

    one : (s : ℕ) → s < k + 1 → R s (row_of before.table s) (row_of after.table s)
    one s b = split (cases_eq s k)
      where
        split : (s ≡ k) ⊎ (s ≡ k → ⊥) → R s (row_of before.table s) (row_of after.table s)
        split (inl e) = subst (λ (x : ℕ). R x (row_of before.table x) (row_of after.table x)) (sym e) (subst (λ (x : Option Row). R k x (row_of after.table k)) (done.1 k (omega arith)) here)
        split (inr apart) = subst (λ (x : Option Row). R s (row_of before.table s) x) (sym (stay s apart)) (done.0 s (lesser (cases_lt s k)))
          where
            lesser : (s < k) ⊎ (k ≤ s) → s < k
            lesser (inl h) = h
            lesser (inr h) = absurd (apart (omega (arith, b, h)))

    gone : (s : ℕ) → k + 1 ≤ s → row_of after.table s ≡ None → R s (row_of before.table s) (row_of after.table s)
    gone s b e = empty_rows R none s (row_of before.table s) (row_of after.table s) (sym (same s (omega (arith, b))) ∙ e) e

    go : (o : Option ℕ) → IsFirstLive after.table (k + 1) o → RowsTo R o before after
    go None f = λ s. each s (cases_lt s (k + 1))
      where
        each : (s : ℕ) → (s < k + 1) ⊎ (k + 1 ≤ s) → R s (row_of before.table s) (row_of after.table s)
        each s (inl h) = one s h
        each s (inr h) = gone s h (f s h)
    go (Some m) f = (λ s b. each s b (cases_lt s (k + 1)), λ s b. same s (let h = f.0 in omega (arith, b, h)))
      where
        each : (s : ℕ) → s < m → (s < k + 1) ⊎ (k + 1 ≤ s) → R s (row_of before.table s) (row_of after.table s)
        each s b (inl h) = one s h
        each s b (inr h) = gone s h (f.2 s h b)
