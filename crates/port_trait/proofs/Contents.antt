-- Contents that grow by one piece after another.
use Rattle.std.proofs.Common.{◌≡◌, ℕ, ◌+◌, List, ◌++◌, take, drop, option_map, sym, ap, ◌∙◌, append_assoc, ◌-◌, length, length-drop, arith, subst}
use Rattle.std.specs.Prelude.{Option, None, Some}
use Rattle.std.specs.Io.KnownBytes.{Appends}
use Rattle.std.proofs.KnownBytes.{Appends-trans}
use Rattle.std.proofs.Math.Seq.{take-add}
use Rattle.std.proofs.lemmas.List.{take_all}

-- what lies behind the first bytes, as a program cuts it out
whole_rest : (bytes : List ℕ) (c : ℕ) → take (length bytes - c) (drop c bytes) ≡ drop c bytes
whole_rest bytes c = take_all (length bytes - c) (drop c bytes) (omega (arith, length-drop c bytes))

-- a front of the bytes and then a front of the rest are a longer front
pub adds_more : (before mid now : Option (List ℕ)) (bytes : List ℕ) (c n : ℕ) → mid ≡ option_map (λ all. all ++ take c bytes) before → now ≡ option_map (λ all. all ++ take n (take (length bytes - c) (drop c bytes))) mid → now ≡ option_map (λ all. all ++ take (c + n) bytes) before
adds_more None mid now bytes c n first then = then ∙ ap (option_map (λ all. all ++ take n (take (length bytes - c) (drop c bytes)))) first
adds_more (Some all) mid now bytes c n first then = then ∙ ap (option_map (λ all. all ++ take n (take (length bytes - c) (drop c bytes)))) first ∙ ap Some (ap (λ rest. (all ++ take c bytes) ++ take n rest) (whole_rest bytes c) ∙ append_assoc all (take c bytes) (take n (drop c bytes)) ∙ ap (λ more. all ++ more) (sym (take-add c n bytes)))

-- the same of the writer beneath
pub holds_more : (before mid now : Option (List ℕ)) (bytes : List ℕ) (c n : ℕ) → Appends before mid (take c bytes) → Appends mid now (take n (take (length bytes - c) (drop c bytes))) → Appends before now (take (c + n) bytes)
holds_more before mid now bytes c n first then =
    subst (Appends before now) (ap (λ rest. take c bytes ++ take n rest) (whole_rest bytes c) ∙ sym (take-add c n bytes)) (Appends-trans before mid now (take c bytes) (take n (take (length bytes - c) (drop c bytes))) first then)

-- all was written
pub holds_all : (before now : Option (List ℕ)) (bytes : List ℕ) (n : ℕ) → n ≡ length bytes → Appends before now (take n bytes) → Appends before now bytes
holds_all before now bytes n all held = subst (Appends before now) (take_all n bytes (omega (arith, all))) held
