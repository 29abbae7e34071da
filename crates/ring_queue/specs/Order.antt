-- The rule of an ordered queue. Lists of items stand oldest first.
use Rattle.std.specs.Prelude.{◌≡◌, ℕ, Bool, true, List, [], ◌∷◌, ◌++◌}
use mathlib.Core.Option.{some}
use lib.ListN.{get_elem?}
use Rattle.ring_queue.specs.declared.roles.PassView.{PassView}

-- what contracts see of one side of a queue
abbrev pub view_of : {T : Type 0} → Bool → Bool → List T → List T → PassView T
view_of sends takes sent taken = record { sends = sends; takes = takes; sent = sent; taken = taken }

-- each item may follow on those before it
abbrev pub IsSound : {T : Type 0} → (List T → T → Type 0) → List T → List T → Type 0
IsSound follows before [] = Unit {0}
IsSound follows before (x ∷ xs) = follows before x × IsSound follows (before ++ x ∷ []) xs

-- only the sender sends, and knows what was sent; only the taker takes, and knows what was taken
abbrev pub Knows : {T : Type 0} → ℕ → ℕ → List T → List T → ℕ → PassView T → Type 0
Knows sender taker sent taken pass v = (v.sends ≡ true → (pass ≡ sender) × (v.sent ≡ sent)) × (v.takes ≡ true → (pass ≡ taker) × (v.taken ≡ taken))

-- what was sent is what was taken and then what the queue holds
abbrev pub Ordered : {T : Type 0} → (List T → T → Type 0) → List T → List (PassView T) → Type 0
Ordered {T} follows items views = (sender : ℕ) × (taker : ℕ) × (sent : List T) × (taken : List T) × (sent ≡ taken ++ items) × IsSound follows [] sent
    × ((pass : ℕ) (v : PassView T) → get_elem? views pass ≡ some v → Knows sender taker sent taken pass v)

-- what a sender knows of what the queue holds: it is the end of what it sent
abbrev pub HasSent : {T : Type 0} → PassView T → List T → Type 0
HasSent {T} v items = (taken : List T) × (v.sent ≡ taken ++ items)

-- what a taker knows: it comes after what it took, and fits that
abbrev pub HasTaken : {T : Type 0} → (List T → T → Type 0) → PassView T → List T → Type 0
HasTaken {T} follows v items = (sent : List T) × (sent ≡ v.taken ++ items) × IsSound follows [] sent
