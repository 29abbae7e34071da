-- A journal's file was asked for.
use Rattle.std.proofs.Common.{◌≡◌, inl, inr, Bool, true, false, List, ℕ, refl, sym, subst}
use Rattle.std.specs.Bool.{OnFalse}
use Rattle.socat_top.specs.declared.written.Saving.{Saving}
use Rattle.socat_top.specs.declared.written.Saving.TheVariants as savings
use Rattle.socat_top.specs.Written.{AsksForFile}

-- one call asked for it, and where no file was made, the file is as that call left it
pub asked_by : {F : Type 0} (creates refuses : F → List ℕ → F → Type 0) (before asked last : F) (name : List ℕ) (made : Bool) (saving : Saving) →
    (made ≡ true → creates before name asked) → (made ≡ false → refuses before name asked) → OnFalse made (last ≡ asked) → OnFalse made (saving ≡ savings.Failed) → AsksForFile creates refuses before name last saving
asked_by creates refuses before asked last name true saving created refused same failed = inl (asked, created refl)
asked_by creates refuses before asked last name false saving created refused same failed = inr (failed, subst (λ file. refuses before name file) (sym same) (refused refl))
