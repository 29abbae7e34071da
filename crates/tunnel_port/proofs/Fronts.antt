-- What an inner port is told to have given or taken, as a talk goes on over it.
use Rattle.std.proofs.Common.{◌≡◌, ℕ, ◌+◌, ◌-◌, ◌≤◌, List, [], ◌∷◌, ◌++◌, length, take, drop, option_map, sym, ap, ◌∙◌, Bool, true, false, append_assoc, append-nil, length-drop, slice_index_or, arith, refl}
use Rattle.std.specs.Prelude.{Option, None, Some, unwrap_or, zero, suc}
use Rattle.std.proofs.Math.Seq.{take-add, drop-length, drop-append_seam}
use Rattle.std.proofs.lemmas.List.{take_all}
use Rattle.tunnel_port.specs.Talks.{IsOnly, Begins, Told, behind_talk, rest_behind, nothing_of}

-- what is told is known
told_is : (all part : List ℕ) → IsOnly part (Some all) → all ≡ part
told_is all part only = ap (λ told. unwrap_or told []) only

-- nothing lies behind what is all
pub only_rest : (part : List ℕ) (told : Option (List ℕ)) → IsOnly part told → rest_behind part told ≡ nothing_of told
only_rest part None only = refl
only_rest part (Some all) only = ap Some (ap (λ bytes. drop (length part) bytes) (told_is all part only) ∙ drop-length part)

-- what is all is a beginning too
pub only_begins : (part : List ℕ) (told : Option (List ℕ)) → IsOnly part told → Begins part told
only_begins part None only = refl
only_begins part (Some all) only = only ∙ ap Some (sym (append-nil part) ∙ ap (λ rest. part ++ rest) (sym (ap (λ bytes. drop (length part) bytes) (told_is all part only) ∙ drop-length part)))

-- what is added to what is all
pub only_adds : (part more : List ℕ) (before now : Option (List ℕ)) → IsOnly part before → now ≡ option_map (λ all. all ++ more) before → IsOnly (part ++ more) now
only_adds part more None now only adds = adds ∙ ap (option_map (λ _. part ++ more)) (sym adds)
only_adds part more (Some all) now only adds = adds ∙ ap Some (ap (λ bytes. bytes ++ more) (told_is all part only)) ∙ ap (option_map (λ _. part ++ more)) (sym adds)

pub nothing_adds : (more : List ℕ) (before now : Option (List ℕ)) → now ≡ option_map (λ all. all ++ more) before → nothing_of now ≡ nothing_of before
nothing_adds more None now adds = ap nothing_of adds
nothing_adds more (Some all) now adds = ap nothing_of adds

-- what lies behind the first bytes, as a program cuts it out
whole_rest : (bytes : List ℕ) (c : ℕ) → take (length bytes - c) (drop c bytes) ≡ drop c bytes
whole_rest bytes c = take_all (length bytes - c) (drop c bytes) (omega (arith, length-drop c bytes))

-- a front of the request, and then a front of its rest
pub only_more : (request : List ℕ) (c n : ℕ) (before now : Option (List ℕ)) → IsOnly (take c request) before → now ≡ option_map (λ all. all ++ take n (take (length request - c) (drop c request))) before → IsOnly (take (c + n) request) now
only_more request c n before now only adds =
    let front : take c request ++ take n (take (length request - c) (drop c request)) ≡ take (c + n) request = ap (λ rest. take c request ++ take n rest) (whole_rest request c) ∙ sym (take-add c n request) in
    only_adds (take c request) (take n (take (length request - c) (drop c request))) before now only adds ∙ ap (λ part. option_map (λ _. part) now) front

-- the one byte that was read
one_byte : (n : ℕ) (into : List ℕ) → length into ≡ 1 → 1 ≤ n → take n into ≡ slice_index_or into 0 0 ∷ []
one_byte n [] one some = absurd (omega arith)
one_byte zero (b ∷ bytes) one some = absurd (omega arith)
one_byte (suc n) (b ∷ []) one some = ap (λ rest. b ∷ rest) (take_all n [] (omega arith))
one_byte (suc n) (b ∷ c ∷ bytes) one some = absurd (omega arith)

pub only_byte : (heard : List ℕ) (into : List ℕ) (n : ℕ) (before now : Option (List ℕ)) → length into ≡ 1 → 1 ≤ n → IsOnly heard before → now ≡ option_map (λ all. all ++ take n into) before → IsOnly (heard ++ slice_index_or into 0 0 ∷ []) now
only_byte heard into n before now one some only adds =
    only_adds heard (take n into) before now only adds ∙ ap (λ more. option_map (λ _. heard ++ more) now) (one_byte n into one some)

-- what is told, once it is all, whatever comes of the talk
pub told_part : (passed : Bool) (part : List ℕ) (told : Option (List ℕ)) → IsOnly part told → Told passed part told
told_part true part told only = only_begins part told only
told_part false part told only = only

pub behind_part : (passed : Bool) (part : List ℕ) (told : Option (List ℕ)) → IsOnly part told → behind_talk passed part told ≡ nothing_of told
behind_part true part told only = only_rest part told only
behind_part false part told only = refl

-- what is added to a beginning is added behind it
pub begins_adds : (part more : List ℕ) (before now : Option (List ℕ)) → Begins part before → now ≡ option_map (λ all. all ++ more) before → Begins part now × (rest_behind part now ≡ option_map (λ all. all ++ more) (rest_behind part before))
begins_adds part more None now begins adds = (adds ∙ ap (λ told. option_map (λ rest. part ++ rest) (rest_behind part told)) (sym adds), ap (rest_behind part) adds)
begins_adds part more (Some all) now begins adds =
    let whole : all ≡ part ++ drop (length part) all = ap (λ told. unwrap_or told []) begins in
    let longer : all ++ more ≡ part ++ (drop (length part) all ++ more) = ap (λ bytes. bytes ++ more) whole ∙ append_assoc part (drop (length part) all) more in
    let rest : drop (length part) (all ++ more) ≡ drop (length part) all ++ more = ap (λ bytes. drop (length part) bytes) longer ∙ drop-append_seam part (drop (length part) all ++ more) in
    (adds ∙ ap Some (longer ∙ ap (λ behind. part ++ behind) (sym rest)) ∙ ap (λ told. option_map (λ behind. part ++ behind) (rest_behind part told)) (sym adds), ap (rest_behind part) adds ∙ ap Some rest)
