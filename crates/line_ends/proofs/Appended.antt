-- The conversion of two lists joined is their conversions joined.
use Rattle.std.proofs.Common.{◌≡◌, ℕ, ◌+◌, ◌-◌, ◌*◌, ◌<◌, ◌≤◌, List, [], ◌∷◌, ◌++◌, length, take, drop, get_or, refl, sym, ap, ◌∙◌, arith}
use Rattle.std.specs.List.{flat_map}
use Rattle.std.proofs.lemmas.List.{append_assoc, drop_more, length-drop, length-take-le, map-append, take-append-drop, take_rest}
use Rattle.std.proofs.lemmas.List.Elements.{filter-append}
use Rattle.std.proofs.lemmas.List.Concat.{flat_map-append}
use Rattle.relay_model.specs.Conversions.{read_converted, write_converted}
use Rattle.relay_model.specs.declared.commands.Conv.{Conv}
use Rattle.relay_model.specs.declared.commands.Conv.TheVariants.{Plain, Cr, Crnl}
use Rattle.line_ends.specs.declared.Convs.{Convs}
use Rattle.line_ends.specs.Converted.{converted}

pub read_converted-append : (conv : Conv) (xs ys : List ℕ) → read_converted conv (xs ++ ys) ≡ read_converted conv xs ++ read_converted conv ys
read_converted-append Plain xs ys = refl
read_converted-append Cr xs ys = map-append _ xs ys
read_converted-append Crnl xs ys = filter-append _ xs ys

pub write_converted-append : (conv : Conv) (xs ys : List ℕ) → write_converted conv (xs ++ ys) ≡ write_converted conv xs ++ write_converted conv ys
write_converted-append Plain xs ys = refl
write_converted-append Cr xs ys = map-append _ xs ys
write_converted-append Crnl xs ys = flat_map-append _ xs ys

pub converted-append : (how : Convs) (xs ys : List ℕ) → converted how (xs ++ ys) ≡ converted how xs ++ converted how ys
converted-append how xs ys =
    ap (write_converted how.write) (read_converted-append how.read xs ys)
    ∙ write_converted-append how.write (read_converted how.read xs) (read_converted how.read ys)

pub read_converted-nil : (conv : Conv) → read_converted conv [] ≡ []
read_converted-nil Plain = refl
read_converted-nil Cr = refl
read_converted-nil Crnl = refl

pub write_converted-nil : (conv : Conv) → write_converted conv [] ≡ []
write_converted-nil Plain = refl
write_converted-nil Cr = refl
write_converted-nil Crnl = refl

pub converted-nil : (how : Convs) → converted how [] ≡ []
converted-nil how = ap (write_converted how.write) (read_converted-nil how.read) ∙ write_converted-nil how.write

pub converted-joined : (how : Convs) (pieces : List (List ℕ)) → converted how (flat_map (λ piece. piece) pieces) ≡ flat_map (converted how) pieces
converted-joined how [] = converted-nil how
converted-joined how (piece ∷ pieces) =
    converted-append how piece (flat_map (λ x. x) pieces) ∙ ap (λ rest. converted how piece ++ rest) (converted-joined how pieces)

-- one step of the loop: the bytes up to a line end are copied, then what it becomes, and the rest is left
pub converted-at : (how : Convs) (xs : List ℕ) (at : ℕ) → at < length xs → converted how (take at xs) ≡ take at xs → converted how xs ≡ take at xs ++ (converted how (get_or xs at 0 ∷ []) ++ converted how (drop (at + 1) xs))
converted-at how xs at below same =
    ap (converted how) (sym (take-append-drop at xs))
    ∙ converted-append how (take at xs) (drop at xs)
    ∙ ap (λ front. front ++ converted how (drop at xs)) same
    ∙ ap (λ rest. take at xs ++ converted how rest) (drop_more xs at 0 below)
    ∙ ap (λ rest. take at xs ++ rest) (converted-append how (get_or xs at 0 ∷ []) (drop (at + 1) xs))

pub step_on : (how : Convs) (xs whole front copied written piece : List ℕ) (at : ℕ) → at < length xs → converted how (take at xs) ≡ take at xs → front ++ converted how xs ≡ whole → copied ≡ front ++ take at xs → written ≡ copied ++ piece → piece ≡ converted how (get_or xs at 0 ∷ []) → written ++ converted how (drop (at + 1) xs) ≡ whole
step_on how xs whole front copied written piece at below same is copy write becomes =
    ap (λ w. w ++ converted how (drop (at + 1) xs)) (write ∙ ap (λ w. w ++ piece) copy ∙ ap (λ p. front ++ take at xs ++ p) becomes)
    ∙ append_assoc (front ++ take at xs) (converted how (get_or xs at 0 ∷ [])) (converted how (drop (at + 1) xs))
    ∙ append_assoc front (take at xs) (converted how (get_or xs at 0 ∷ []) ++ converted how (drop (at + 1) xs))
    ∙ ap (λ rest. front ++ rest) (sym (converted-at how xs at below same))
    ∙ is

-- what that step leaves room for
pub room_on : (xs piece : List ℕ) (at filled one two most : ℕ) → at < length xs → filled + 2 * length xs ≤ most → one ≡ filled + length (take at xs) → two ≡ one + length piece → length piece ≤ 2 → two + 2 * length (take (length xs - (at + 1)) (drop (at + 1) xs)) ≤ most
room_on xs piece at filled one two most below room copy write short =
    let long = length-take-le at xs (omega arith) in
    let left = ap length (take_rest xs (at + 1)) ∙ length-drop (at + 1) xs in
    omega (arith, long, left)
