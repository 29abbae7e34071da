-- What all right places got together is what each of the fifty got.
use Rattle.std.proofs.Common.{◌≡◌, ◌+◌, ◌<◌, ◌≤◌, ℕ, zero, suc, Bool, true, false, ◌&&◌, is_none, nat_lt, List, [], ◌∷◌, ◌++◌, refl, sym, ap, subst, ◌∙◌, arith, inl, inr, ◌⊎◌}
use Rattle.std.proofs.lemmas.Bool.{and_parts, cases_eq, false≢true, ltb-true, ne_eqb}
use Rattle.relay_model.specs.declared.acts.Act.{Act}
use Rattle.relay_model.specs.declared.acts.Act.TheVariants.{Wrote}
use Rattle.relay_model.specs.declared.places.Place.{Place}
use Rattle.relay_model.specs.declared.places.Side.{Side}
use Rattle.relay_model.specs.declared.places.Side.TheVariants.{Left, Right}
use Rattle.relay_model.specs.Cause.{cause, running}
use Rattle.relay_model.specs.Choices.{count, joined, one_more}
use Rattle.relay_model.specs.Configs.{output, way_to}
use Rattle.relay_model.specs.History.{put}
use Rattle.relay_model.specs.May.{Legal, MayWrite}
use Rattle.relay_model.specs.Openings.{ready}
use Rattle.relay_model.specs.Places.{same_place}
use Rattle.relay_model.specs.Sessions.{admitted, holds, live}
use Rattle.relay_laws.proofs.Admissions.{admitted_bound}
use Rattle.relay_laws.proofs.Holdings.{moves_running}
use Rattle.relay_laws.proofs.PlaceLemmas.{same_place_equal, same_place_self}
use Rattle.socat_top.specs.Command.{load_command}
use Rattle.socat_top.specs.Scripts.{right_place}
use Rattle.socat_top.specs.Sums.{brought, delivered}

-- ---- sums over sessions

-- the sum of what the sessions below a number have
abbrev pub total : (ℕ → ℕ) → ℕ → ℕ
total f zero = 0
total f (suc k) = total f k + f k

total-none : (f : ℕ → ℕ) (k : ℕ) → ((s : ℕ) → f s ≡ 0) → total f k ≡ 0
total-none f zero none = refl
total-none f (suc k) none = omega (arith, total-none f k none, none k)

pub total-same : (f g : ℕ → ℕ) (k : ℕ) → ((s : ℕ) → s < k → f s ≡ g s) → total f k ≡ total g k
total-same f g zero same = refl
total-same f g (suc k) same = omega (arith, total-same f g k (λ s below. same s (omega arith)), same k (omega arith))

pub total-le : (f g : ℕ → ℕ) (k : ℕ) → ((s : ℕ) → s < k → f s ≤ g s) → total f k ≤ total g k
total-le f g zero le = omega arith
total-le f g (suc k) le = omega (arith, total-le f g k (λ s below. le s (omega arith)), le k (omega arith))

-- one session has so much more
total-more : (f g : ℕ → ℕ) (t more k : ℕ) → t < k → g t ≡ f t + more → ((s : ℕ) → (s ≡ t → ⊥) → g s ≡ f s) → total g k ≡ total f k + more
total-more f g t more zero below here other = absurd (omega arith)
total-more f g t more (suc k) below here other = go (cases_eq k t) (λ b. total-more f g t more k b here other)
  where
    go : (k ≡ t) ⊎ (k ≡ t → ⊥) → (t < k → total g k ≡ total f k + more) → total g k + g k ≡ (total f k + f k) + more
    go (inl e) ih =
        let before : total g k ≡ total f k = total-same g f k (λ s b. other s (λ f. omega arith)) in
        let now : g k ≡ f k + more = ap g e ∙ here ∙ ap (λ s. f s + more) (sym e) in
        omega arith
    go (inr e) ih = omega (arith, ih (omega arith), other k e)

-- ---- who writes at right places

running-below : (n : ℕ) (past : List Act) (s : ℕ) → Legal load_command n past → running load_command past s ≡ true → s < 50
running-below n past s legal run =
    let lives = (and_parts (live load_command past s) (ready load_command past s) (and_parts (live load_command past s && ready load_command past s) (is_none (cause load_command past s)) run).0).0 in
    let below = ltb-true s (admitted load_command past) (and_parts (nat_lt s (admitted load_command past)) (holds load_command past s) lives).0 in
    omega (arith, below, admitted_bound load_command n past legal)

-- ---- all that was written

-- a measure of bytes that adds up
pub record Adds (f : List ℕ → ℕ) : Type 0 where
  pub none : f [] ≡ 0
  pub both : (xs ys : List ℕ) → f (xs ++ ys) ≡ f xs + f ys

nil_right : (xs : List ℕ) → xs ++ [] ≡ xs
nil_right [] = refl
nil_right (x ∷ xs) = ap (λ ys. x ∷ ys) (nil_right xs)

-- what a place has after a write there, and elsewhere
joined_measure : (f : List ℕ → ℕ) → Adds f → (b : Bool) (before bytes : List ℕ) → b ≡ true → f (joined b before bytes) ≡ f before + f bytes
joined_measure f adds true before bytes e = adds.both before bytes
joined_measure f adds false before bytes e = absurd (false≢true e)

joined_off : (b : Bool) (before bytes : List ℕ) → b ≡ false → joined b before bytes ≡ before
joined_off true before bytes e = absurd (false≢true (sym e))
joined_off false before bytes e = refl

wrote_more : (f : List ℕ → ℕ) → Adds f → (n : ℕ) (q : Place) (bytes : List ℕ) (past : List Act) (side : Side) → q.side ≡ side → Legal load_command n past → MayWrite load_command past q bytes → total (λ s. f (put past (right_place s))) 50 ≡ f (delivered past) → total (λ s. f (put (Wrote q bytes ∷ past) (right_place s))) 50 ≡ f (delivered (Wrote q bytes ∷ past))
wrote_more f adds n q bytes past Left e legal may ih =
    let off : (s : ℕ) → same_place q (right_place s) ≡ false = λ s. rw e refl in
    let none : brought (Wrote q bytes) ≡ [] = rw e refl in
    total-same (λ s. f (put (Wrote q bytes ∷ past) (right_place s))) (λ s. f (put past (right_place s))) 50 (λ s below. ap f (joined_off (same_place q (right_place s)) (put past (right_place s)) bytes (off s)))
    ∙ ih
    ∙ ap f (sym (nil_right (delivered past)))
    ∙ ap (λ xs. f (delivered past ++ xs)) (sym none)
wrote_more f adds n q bytes past Right e legal may ih =
    let here : q ≡ right_place q.session = same_place_equal q (right_place q.session) (subst (λ side. same_place q (output load_command q.session (way_to side)) ≡ true) e may.offers.is_output) in
    let all : brought (Wrote q bytes) ≡ bytes = rw e refl in
    total-more (λ s. f (put past (right_place s))) (λ s. f (put (Wrote q bytes ∷ past) (right_place s))) q.session (f bytes) 50
    (running-below n past q.session legal (moves_running load_command past q.session (way_to q.side) may.offers.moving))
    (joined_measure f adds (same_place q (right_place q.session)) (put past (right_place q.session)) bytes (ap (λ p. same_place p (right_place q.session)) here ∙ same_place_self (right_place q.session)))
    (λ s other. ap f (joined_off (same_place q (right_place s)) (put past (right_place s)) bytes (ap (λ p. same_place p (right_place s)) here ∙ ne_eqb q.session s (λ k. other (sym k)))))
    ∙ ap (λ k. k + f bytes) ih
    ∙ sym (adds.both (delivered past) bytes)
    ∙ ap (λ xs. f (delivered past ++ xs)) (sym all)

-- what right places got is what the right places of the fifty sessions got
pub delivered-total : (f : List ℕ → ℕ) → Adds f → (n : ℕ) (acts : List Act) → Legal load_command n acts → total (λ s. f (put acts (right_place s))) 50 ≡ f (delivered acts)
delivered-total f adds n [] legal = total-none (λ s. f []) 50 (λ s. adds.none) ∙ sym adds.none
delivered-total f adds n (Wrote q bytes ∷ past) legal = wrote_more f adds n q bytes past q.side refl legal.1 legal.0.1 (delivered-total f adds n past legal.1)
delivered-total f adds n (act ∷ past) legal = delivered-total f adds n past legal.1 ∙ ap f (sym (nil_right (delivered past)))

-- ---- all sessions

count-le : (test : ℕ → Bool) (k : ℕ) → count test k ≤ k
count-le test zero = omega arith
count-le test (suc k) = go (test k) (count-le test k)
  where
    go : (b : Bool) → count test k ≤ k → one_more b (count test k) ≤ suc k
    go true le = omega arith
    go false le = omega arith

pub count-most : (test : ℕ → Bool) (k most : ℕ) → k ≤ most → count test k ≤ most
count-most test k most le = omega (arith, count-le test k)

count-all : (test : ℕ → Bool) (k : ℕ) → count test k ≡ k → (s : ℕ) → s < k → test s ≡ true
count-all test zero e s below = absurd (omega arith)
count-all test (suc k) e s below = go (test k) refl e (cases_eq s k) (count-all test k)
  where
    go : (b : Bool) → test k ≡ b → one_more b (count test k) ≡ suc k → (s ≡ k) ⊎ (s ≡ k → ⊥) → (count test k ≡ k → (t : ℕ) → t < k → test t ≡ true) → test s ≡ true
    go true h f (inl same) ih = ap test same ∙ h
    go true h f (inr other) ih = ih (omega arith) s (omega arith)
    go false h f case ih = absurd (omega (arith, count-le test k))

-- where the count is as great as it can be, the test holds of each
pub count-most-all : (test : ℕ → Bool) (k most : ℕ) → k ≤ most → count test k ≡ most → (s : ℕ) → s < most → test s ≡ true
count-most-all test k most le e s below =
    let same : k ≡ most = omega (arith, count-le test k) in
    count-all test k (e ∙ sym same) s (omega arith)
