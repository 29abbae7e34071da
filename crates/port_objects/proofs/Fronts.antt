-- A front of what is held, and what stays.
use Rattle.std.proofs.Common.{◌≡◌, ℕ, ◌≤◌, List, ◌++◌, length, take, drop, ap, ◌∙◌, arith}
use Rattle.std.proofs.lemmas.List.{take-append-drop, take-append-le, take_all, length-take-le}

pub front_and_rest : (held rest : List ℕ) (n : ℕ) → n ≤ length held → take n (take n held ++ rest) ++ drop n held ≡ held
front_and_rest held rest n within =
    let size = length-take-le n held within in
    let whole : take n (take n held ++ rest) ≡ take n held = take-append-le n (take n held) rest (omega arith) ∙ take_all n (take n held) (omega arith) in
    ap (λ front. front ++ drop n held) whole ∙ take-append-drop n held
