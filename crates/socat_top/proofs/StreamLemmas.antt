-- The stream of a number, cut into parts.
use Rattle.std.proofs.Common.{◌≡◌, ◌+◌, ℕ, zero, suc, [], ◌∷◌, ◌++◌, length, refl, ap, ◌∙◌, arith}
use Rattle.socat_top.specs.Stream.{byte_of, bytes_after, next_state, state_after}

pub state_after-add : (a b x : ℕ) → state_after (a + b) x ≡ state_after b (state_after a x)
unfolding state_after
state_after-add zero b x = ap (λ k. state_after k x) (let e : zero + b ≡ b = omega arith in e)
state_after-add (suc a) b x = ap (λ k. state_after k x) (let e : suc a + b ≡ suc (a + b) = omega arith in e) ∙ state_after-add a b (next_state x)

pub bytes_after-add : (a b x : ℕ) → bytes_after (a + b) x ≡ bytes_after a x ++ bytes_after b (state_after a x)
unfolding bytes_after state_after
bytes_after-add zero b x = ap (λ k. bytes_after k x) (let e : zero + b ≡ b = omega arith in e)
bytes_after-add (suc a) b x = ap (λ k. bytes_after k x) (let e : suc a + b ≡ suc (a + b) = omega arith in e) ∙ ap (λ bs. byte_of (next_state x) ∷ bs) (bytes_after-add a b (next_state x))

pub state_after-push : (k x : ℕ) → state_after (k + 1) x ≡ next_state (state_after k x)
unfolding state_after
state_after-push k x = state_after-add k 1 x

pub bytes_after-push : (k x : ℕ) → bytes_after (k + 1) x ≡ bytes_after k x ++ byte_of (next_state (state_after k x)) ∷ []
unfolding bytes_after
bytes_after-push k x = bytes_after-add k 1 x

pub bytes_after-none : (x : ℕ) → bytes_after 0 x ≡ []
unfolding bytes_after
bytes_after-none x = refl

pub state_after-none : (x : ℕ) → state_after 0 x ≡ x
unfolding state_after
state_after-none x = refl

pub length-bytes_after : (k x : ℕ) → length (bytes_after k x) ≡ k
unfolding bytes_after
length-bytes_after zero x = refl
length-bytes_after (suc k) x = ap suc (length-bytes_after k (next_state x))
