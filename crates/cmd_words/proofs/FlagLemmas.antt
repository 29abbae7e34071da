-- How the flags are read, one at a time.
use Rattle.std.proofs.Common.{◌≡◌, ◌∙◌, ℕ, suc, ◌+◌, ◌<◌, ◌≤◌, Bool, true, false, List, [], ◌∷◌, length, get_or, drop, Option, Some, None, Result, Ok, Err, refl, sym, ap, inl, inr, add-one, arith, drop-cons}
use Rattle.std.specs.Prelude.{if◌then◌else◌, slice_get}
use Rattle.std.proofs.lemmas.List.{drop_all}
use Rattle.std.proofs.lemmas.Option.{slice_get_within, slice_get_cases, get_or_from_slice_get}
use Rattle.relay_model.specs.declared.refusals.Refusal.{Refusal}
use Rattle.relay_model.specs.declared.refusals.Refused.{Refused}
use Rattle.cmd_words.specs.declared.settings.Settings.{Settings}
use Rattle.cmd_words.specs.declared.settings.Instead.{Instead}
use Rattle.cmd_words.specs.declared.settings.FlagStep.{FlagStep}
use Rattle.cmd_words.specs.declared.settings.FlagStep.TheVariants.{Alone, WithNext, Stop}
use Rattle.cmd_words.specs.declared.settings.Flagged.{Flagged}
use Rattle.cmd_words.specs.declared.settings.Flagged.TheVariants as flagged
use Rattle.cmd_words.specs.Flags.{begins_addresses, step_of, after, flags_from, refused_at, IsBounded, IsSound}

abbrev pub next_of : List (List ℕ) → Option (List ℕ)
next_of [] = None
next_of (word ∷ words) = Some word

-- both cases of a word, with one behind it or none, as one
pub flags_from-cons : (settings : Settings) (at : ℕ) (word : List ℕ) (words : List (List ℕ)) → flags_from settings at (word ∷ words) ≡ (if begins_addresses word then Ok (flagged.Relay settings at) else after at (step_of settings word (next_of words)) (λ changed. flags_from changed (at + 1) words) (λ changed. flags_from changed (at + 2) (drop 1 words)))
unfolding flags_from
flags_from-cons settings at word [] = refl
flags_from-cons settings at word (next ∷ words) = refl

pub flags_from-nil : (settings : Settings) (at : ℕ) → flags_from settings at [] ≡ Ok (flagged.Relay settings at)
unfolding flags_from
flags_from-nil settings at = refl

drop_here : (xs : List (List ℕ)) (i : ℕ) (x : List ℕ) → Some x ≡ slice_get xs i → drop i xs ≡ x ∷ drop (i + 1) xs
drop_here xs i x e =
    let lt : i < length xs = slice_get_within xs i x (sym e) in
    let g : get_or xs i x ≡ x = get_or_from_slice_get xs i x x (sym e) in
    let d : drop i xs ≡ get_or xs i x ∷ drop (suc i) xs = drop-cons xs i x lt in
    rw add-one (d ∙ ap (λ (y : List ℕ). y ∷ drop (suc i) xs) g)

next_of-drop : (xs : List (List ℕ)) (i : ℕ) → next_of (drop i xs) ≡ slice_get xs i
next_of-drop xs i =
    elim (slice_get_cases xs i).1 [
      | inl w ↦ ap next_of (drop_here xs i w.0 (sym w.2)) ∙ sym w.2
      | inr w ↦ ap next_of (drop_all i xs w.0) ∙ sym w.1
    ]

drop_one-drop : (xs : List (List ℕ)) (i : ℕ) → drop 1 (drop i xs) ≡ drop (i + 1) xs
drop_one-drop xs i =
    elim (slice_get_cases xs i).1 [
      | inl w ↦ ap (drop 1) (drop_here xs i w.0 (sym w.2))
      | inr w ↦ ap (drop 1) (drop_all i xs w.0) ∙ sym (drop_all (i + 1) xs (omega arith))
    ]

chosen_first : (b : Bool) (x y : Result Flagged Refused) → true ≡ b → (if b then x else y) ≡ x
chosen_first true x y e = refl
chosen_first false x y e = cc

chosen_second : (b : Bool) (x y : Result Flagged Refused) → false ≡ b → (if b then x else y) ≡ y
chosen_second true x y e = cc
chosen_second false x y e = refl

-- the addresses begin here
pub read_over : (settings : Settings) (at : ℕ) (words : List (List ℕ)) (word : List ℕ) → Some word ≡ slice_get words at → true ≡ begins_addresses word → flags_from settings at (drop at words) ≡ Ok (flagged.Relay settings at)
read_over settings at words word here begins =
    ap (flags_from settings at) (drop_here words at word here) ∙ flags_from-cons settings at word (drop (at + 1) words) ∙ chosen_first (begins_addresses word) _ _ begins

-- the words are over
pub read_end : (settings : Settings) (at : ℕ) (words : List (List ℕ)) → None ≡ slice_get words at → flags_from settings at (drop at words) ≡ Ok (flagged.Relay settings at)
read_end settings at words past =
    elim (slice_get_cases words at).1 [
      | inl w ↦ cc
      | inr w ↦ ap (flags_from settings at) (drop_all at words w.0) ∙ flags_from-nil settings at
    ]

read_on : (settings : Settings) (at : ℕ) (words : List (List ℕ)) (word : List ℕ) (next : Option (List ℕ)) (step : Result FlagStep Refusal) → Some word ≡ slice_get words at → false ≡ begins_addresses word → next ≡ slice_get words (at + 1) → step ≡ step_of settings word next → flags_from settings at (drop at words) ≡ after at step (λ changed. flags_from changed (at + 1) (drop (at + 1) words)) (λ changed. flags_from changed (at + 2) (drop 1 (drop (at + 1) words)))
read_on settings at words word next step here begins behind is =
    let rest : List (List ℕ) = drop (at + 1) words in
    let same : step_of settings word (next_of rest) ≡ step = ap (step_of settings word) (next_of-drop words (at + 1) ∙ sym behind) ∙ sym is in
    ap (flags_from settings at) (drop_here words at word here) ∙ flags_from-cons settings at word rest ∙ chosen_second (begins_addresses word) _ _ begins
    ∙ ap (λ (s : Result FlagStep Refusal). after at s (λ changed. flags_from changed (at + 1) rest) (λ changed. flags_from changed (at + 2) (drop 1 rest))) same

pub read_alone : (settings : Settings) (at : ℕ) (words : List (List ℕ)) (word : List ℕ) (next : Option (List ℕ)) (changed : Settings) → Some word ≡ slice_get words at → false ≡ begins_addresses word → next ≡ slice_get words (at + 1) → Ok (Alone changed) ≡ step_of settings word next → flags_from changed (at + 1) (drop (at + 1) words) ≡ flags_from settings at (drop at words)
read_alone settings at words word next changed here begins behind is = sym (read_on settings at words word next (Ok (Alone changed)) here begins behind is)

pub read_value : (settings : Settings) (at : ℕ) (words : List (List ℕ)) (word : List ℕ) (next : Option (List ℕ)) (changed : Settings) → Some word ≡ slice_get words at → false ≡ begins_addresses word → next ≡ slice_get words (at + 1) → Ok (WithNext changed) ≡ step_of settings word next → flags_from changed (at + 2) (drop (at + 2) words) ≡ flags_from settings at (drop at words)
read_value settings at words word next changed here begins behind is =
    let two : at + 1 + 1 ≡ at + 2 = omega arith in
    let rest : drop 1 (drop (at + 1) words) ≡ drop (at + 2) words = drop_one-drop words (at + 1) ∙ ap (λ (n : ℕ). drop n words) two in
    sym (read_on settings at words word next (Ok (WithNext changed)) here begins behind is ∙ ap (flags_from changed (at + 2)) rest)

pub read_stop : (settings : Settings) (at : ℕ) (words : List (List ℕ)) (word : List ℕ) (next : Option (List ℕ)) (what : Instead) → Some word ≡ slice_get words at → false ≡ begins_addresses word → next ≡ slice_get words (at + 1) → Ok (Stop what) ≡ step_of settings word next → flags_from settings at (drop at words) ≡ Ok (flagged.Instead what)
read_stop settings at words word next what here begins behind is = read_on settings at words word next (Ok (Stop what)) here begins behind is

pub read_fault : (settings : Settings) (at : ℕ) (words : List (List ℕ)) (word : List ℕ) (next : Option (List ℕ)) (why : Refusal) → Some word ≡ slice_get words at → false ≡ begins_addresses word → next ≡ slice_get words (at + 1) → Err why ≡ step_of settings word next → flags_from settings at (drop at words) ≡ Err (refused_at at 0 why)
read_fault settings at words word next why here begins behind is = read_on settings at words word next (Err why) here begins behind is

-- a value stands within the words
pub value_within : (at : ℕ) (words : List (List ℕ)) (next : Option (List ℕ)) (changed : Settings) → next ≡ slice_get words (at + 1) → IsSound next (WithNext changed) → at + 2 ≤ length words
value_within at words None changed behind sound = absurd sound
value_within at words (Some word) changed behind sound =
    let within : at + 1 < length words = slice_get_within words (at + 1) word (sym behind) in
    omega arith

pub value_bounded : (next : Option (List ℕ)) (changed : Settings) → IsSound next (WithNext changed) → IsBounded changed
value_bounded None changed sound = absurd sound
value_bounded (Some word) changed sound = sound
