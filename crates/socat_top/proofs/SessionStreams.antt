-- The bytes of all sessions together are the front of the stream.
use Rattle.std.proofs.Common.{◌≡◌, ◌+◌, ◌*◌, ◌≤◌, ℕ, zero, suc, List, sum, sym, ap, ◌∙◌, arith}
use Rattle.std.proofs.lemmas.List.Sums.{sum_by-cons}
use Rattle.socat_top.specs.Stream.{byte_of, bytes_after, next_state, state_after}
use Rattle.socat_top.proofs.StreamLemmas.{bytes_after-add, bytes_after-none}
use Rattle.socat_top.proofs.Totals.{Adds, total}

pub total-stream : (f : List ℕ → ℕ) → Adds f → (size x k : ℕ) → total (λ s. f (bytes_after size (state_after (s * size) x))) k ≡ f (bytes_after (k * size) x)
total-stream f adds size x zero = sym (ap f (ap (λ j. bytes_after j x) (let e : zero * size ≡ 0 = grind arith in e) ∙ bytes_after-none x) ∙ adds.none)
total-stream f adds size x (suc k) =
    ap (λ m. m + f (bytes_after size (state_after (k * size) x))) (total-stream f adds size x k)
    ∙ sym (adds.both (bytes_after (k * size) x) (bytes_after size (state_after (k * size) x)))
    ∙ ap f (sym (bytes_after-add (k * size) size x))
    ∙ ap (λ j. f (bytes_after j x)) (let e : k * size + size ≡ suc k * size = grind arith in e)

byte-small : (x : ℕ) → byte_of x ≤ 255
byte-small x = omega arith

-- each byte is one
pub sum-bytes_after : (k x : ℕ) → sum (bytes_after k x) ≤ 255 * k
unfolding bytes_after
sum-bytes_after zero x = omega arith
sum-bytes_after (suc k) x = omega (arith, sum_by-cons (λ b. b) (byte_of (next_state x)) (bytes_after k (next_state x)), sum-bytes_after k (next_state x), byte-small (next_state x))
