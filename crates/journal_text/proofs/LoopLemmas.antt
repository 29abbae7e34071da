-- What is left to read of a list.
use Rattle.std.proofs.Common.{◌≡◌, ℕ, ◌+◌, ◌-◌, ◌<◌, ◌≤◌, false, eqb, List, [], ◌∷◌, ◌++◌, length, get_or, take, drop, Option, Some, None, option_map, refl, sym, ap, ◌∙◌, append_assoc, arith}
use Rattle.std.proofs.lemmas.List.{append-nil, drop_more, drop_all, take_rest, length-append}
use Rattle.std.proofs.lemmas.Bool.{le-leb, lt-leb}
use Rattle.std.specs.Prelude.{codes}
use Rattle.std.specs.List.{slice_split}
use Rattle.std.specs.Str.{bytes_eq}
use Rattle.relay_model.specs.declared.readiness.ReadyAt.{ReadyAt}
use Rattle.journal_text.specs.Reading.{◌>>=◌, byte_in, digits_in, entry_in, entries_in, ready_in}
use Rattle.journal_text.proofs.ByteLemmas.{cons_is}

-- what was read before, and what is still read
abbrev pub after : {A : Type 0} → List A → Option (List A) → Option (List A)
after front read = option_map (λ more. front ++ more) read

regroup : {A : Type 0} (front : List A) (x : A) (read : Option (List A)) → after front (read >>= λ more. Some (x ∷ more)) ≡ after (front ++ x ∷ []) read
regroup front x None = refl
regroup front x (Some more) = ap Some (sym (append_assoc front (x ∷ []) more))

pub after_none : {A : Type 0} (read : Option (List A)) → after [] read ≡ read
after_none None = refl
after_none (Some more) = refl

two_first : (text : List ℕ) → 2 ≤ length text → text ≡ get_or text 0 0 ∷ get_or text 1 0 ∷ take (length text - 2) (drop 2 text)
two_first [] long = absurd (omega arith)
two_first (x ∷ []) long = absurd (omega arith)
two_first (x ∷ y ∷ text) long = ap (λ (t : List ℕ). x ∷ y ∷ t) (sym (take_rest (x ∷ y ∷ text) 2))

pub digits_more : (front text : List ℕ) (value : ℕ) (whole : Option (List ℕ)) → 2 ≤ length text → Some value ≡ byte_in (get_or text 0 0) (get_or text 1 0) → after front (digits_in text) ≡ whole → after (front ++ value ∷ []) (digits_in (take (length text - 2) (drop 2 text))) ≡ whole
unfolding digits_in
digits_more front text value whole long read so_far =
    let rest = take (length text - 2) (drop 2 text) in
    sym (ap (λ (t : List ℕ). after front (digits_in t)) (two_first text long)
    ∙ ap (λ (o : Option ℕ). after front (o >>= λ first. digits_in rest >>= λ more. Some (first ∷ more))) (sym read)
    ∙ regroup front value (digits_in rest))
    ∙ so_far

pub digits_stop : (front text : List ℕ) (whole : Option (List ℕ)) → 2 ≤ length text → None ≡ byte_in (get_or text 0 0) (get_or text 1 0) → after front (digits_in text) ≡ whole → whole ≡ None
unfolding digits_in
digits_stop front text whole long read so_far =
    let rest = take (length text - 2) (drop 2 text) in
    sym so_far
    ∙ ap (λ (t : List ℕ). after front (digits_in t)) (two_first text long)
    ∙ ap (λ (o : Option ℕ). after front (o >>= λ first. digits_in rest >>= λ more. Some (first ∷ more))) (sym read)

pub digits_end : (front text : List ℕ) (whole : Option (List ℕ)) → length text ≡ 0 → after front (digits_in text) ≡ whole → whole ≡ Some front
unfolding digits_in
digits_end front [] whole e so_far = sym so_far ∙ ap Some (append-nil front)
digits_end front (x ∷ xs) whole e so_far = absurd (omega arith)

pub digits_odd : (front text : List ℕ) (whole : Option (List ℕ)) → 0 < length text → length text < 2 → after front (digits_in text) ≡ whole → whole ≡ None
unfolding digits_in
digits_odd front [] whole some few so_far = absurd (omega arith)
digits_odd front (x ∷ []) whole some few so_far = sym so_far
digits_odd front (x ∷ y ∷ xs) whole some few so_far = absurd (omega arith)

-- ---- the entries of a turn

pub entries_more : (front : List ReadyAt) (pieces : List (List ℕ)) (i j : ℕ) (piece : List ℕ) (entry : ReadyAt) (whole : Option (List ReadyAt)) → i < length pieces → piece ≡ get_or pieces i piece → j ≡ i + 1 → Some entry ≡ entry_in piece → after front (entries_in (drop i pieces)) ≡ whole → after (front ++ entry ∷ []) (entries_in (drop j pieces)) ≡ whole
unfolding entries_in
entries_more front pieces i j piece entry whole within at next read so_far =
    let split : drop i pieces ≡ piece ∷ drop j pieces =
    drop_more pieces i piece within ∙ cons_is _ _ _ _ (sym at) (ap (λ (n : ℕ). drop n pieces) (sym next)) in
    sym (ap (λ (t : List (List ℕ)). after front (entries_in t)) split
    ∙ ap (λ (o : Option ReadyAt). after front (o >>= λ first. entries_in (drop j pieces) >>= λ more. Some (first ∷ more))) (sym read)
    ∙ regroup front entry (entries_in (drop j pieces)))
    ∙ so_far

pub entries_stop : (front : List ReadyAt) (pieces : List (List ℕ)) (i : ℕ) (piece : List ℕ) (whole : Option (List ReadyAt)) → i < length pieces → piece ≡ get_or pieces i piece → None ≡ entry_in piece → after front (entries_in (drop i pieces)) ≡ whole → whole ≡ None
unfolding entries_in
entries_stop front pieces i piece whole within at read so_far =
    let split : drop i pieces ≡ piece ∷ drop (i + 1) pieces =
    drop_more pieces i piece within ∙ ap (λ (x : List ℕ). x ∷ drop (i + 1) pieces) (sym at) in
    sym so_far
    ∙ ap (λ (t : List (List ℕ)). after front (entries_in t)) split
    ∙ ap (λ (o : Option ReadyAt). after front (o >>= λ first. entries_in (drop (i + 1) pieces) >>= λ more. Some (first ∷ more))) (sym read)

pub entries_end : (front : List ReadyAt) (pieces : List (List ℕ)) (i : ℕ) (whole : Option (List ReadyAt)) → length pieces ≤ i → after front (entries_in (drop i pieces)) ≡ whole → whole ≡ Some front
unfolding entries_in
entries_end front pieces i whole past so_far =
    sym so_far ∙ ap (λ (t : List (List ℕ)). after front (entries_in t)) (drop_all i pieces past) ∙ ap Some (append-nil front)

-- ---- the whole field

pub ready_none : (field : List ℕ) → bytes_eq field (codes "-") ≡ false → entries_in (slice_split (λ b. eqb b 44) field) ≡ None → ready_in field ≡ None
unfolding ready_in
ready_none field no_dash none = rw (no_dash, none) refl

pub ready_some : (field : List ℕ) (entries : List ReadyAt) → bytes_eq field (codes "-") ≡ false → entries_in (slice_split (λ b. eqb b 44) field) ≡ Some entries → length entries ≤ 256 → ready_in field ≡ Some entries
unfolding ready_in
ready_some field entries no_dash some few = rw (no_dash, some, le-leb (length entries) 256 few) refl

ready_over : (field : List ℕ) (entries : List ReadyAt) → bytes_eq field (codes "-") ≡ false → entries_in (slice_split (λ b. eqb b 44) field) ≡ Some entries → 256 < length entries → ready_in field ≡ None
unfolding ready_in
ready_over field entries no_dash some many = rw (no_dash, some, lt-leb (length entries) 256 many) refl

pub too_many : (field : List ℕ) (front : List ReadyAt) (read : Option (List ReadyAt)) → bytes_eq field (codes "-") ≡ false → 256 < length front → after front read ≡ entries_in (slice_split (λ b. eqb b 44) field) → ready_in field ≡ None
too_many field front None no_dash many so_far = ready_none field no_dash (sym so_far)
too_many field front (Some more) no_dash many so_far =
    ready_over field (front ++ more) no_dash (sym so_far) (omega (arith, length-append front more))
