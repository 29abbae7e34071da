-- What waits in a stream's store once its first bytes went, and once its block was traded.
use Rattle.std.proofs.Common.{◌≡◌, ℕ, suc, ◌+◌, ◌-◌, ◌<◌, ◌≤◌, List, [], ◌∷◌, ◌++◌, length, take, drop, slice_range, sym, ap, ◌∙◌, arith}
use Rattle.std.proofs.Math.Seq.{drop-append-add}
use Rattle.std.proofs.lemmas.List.{append-nil, drop-append-le, drop-drop, drop-take, length-drop, length-take}

length_range : (xs : List ℕ) (from to : ℕ) → to ≤ length xs → length (slice_range xs from to) ≡ to - from
length_range xs from to within = omega (arith, length-take (to - from) (drop from xs), length-drop from xs)

front_dropped : (xs : List ℕ) (from to count : ℕ) → from + count ≤ to → slice_range xs (from + count) to ≡ drop count (slice_range xs from to)
front_dropped xs from to count within =
    let rest : ℕ = to - (from + count) in
    let whole : to - from ≡ count + rest = omega arith in
    ap (take rest) (sym (drop-drop count from xs)) ∙ sym (drop-take count rest (drop from xs)) ∙ ap (λ n. drop count (take n (drop from xs))) (sym whole)

-- only bytes of the block
pub block_dropped : (xs ring : List ℕ) (from to count : ℕ) → to ≤ length xs → count < to - from → slice_range xs (from + count) to ++ ring ≡ drop count (slice_range xs from to ++ ring)
block_dropped xs ring from to count within less =
    ap (λ front. front ++ ring) (front_dropped xs from to count (omega arith))
    ∙ sym (drop-append-le count (slice_range xs from to) ring (omega (arith, length_range xs from to within)))

-- the whole block, and bytes of the ring
pub ring_dropped : (xs ring : List ℕ) (from to count : ℕ) → to ≤ length xs → to - from ≤ count → drop (count - (to - from)) ring ≡ drop count (slice_range xs from to ++ ring)
ring_dropped xs ring from to count within all =
    let rest : ℕ = count - (to - from) in
    let same : length (slice_range xs from to) + rest ≡ count = omega (arith, length_range xs from to within) in
    sym (drop-append-add (slice_range xs from to) ring rest) ∙ ap (λ n. drop n (slice_range xs from to ++ ring)) same

ring_empty : (block ring : List ℕ) → block ++ ring ≡ [] → ring ≡ []
ring_empty [] ring none = none
ring_empty (x ∷ xs) ring none =
    let long : suc (length (xs ++ ring)) ≡ 0 = ap length none in absurd (omega arith)

-- all that waits after a trade, where nothing did before
pub all_traded : (block old ring : List ℕ) (count : ℕ) → old ++ ring ≡ [] → slice_range block 0 count ++ ring ≡ take count block
all_traded block old ring count none =
    let whole : count - 0 ≡ count = omega arith in
    ap (λ r. slice_range block 0 count ++ r) (ring_empty old ring none)
    ∙ append-nil (slice_range block 0 count)
    ∙ ap (λ n. take n block) whole
