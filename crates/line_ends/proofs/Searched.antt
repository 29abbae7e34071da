-- A search for the bytes that are changed finds the next line end.
use Rattle.std.proofs.Common.{◌≡◌, ◌⊎◌, ℕ, ◌<◌, Bool, true, ◌||◌, eqb, List, length, take, get_or, Option, None, Some, ap, ◌∙◌, inl, inr, ⊎_elim, arith}
use Rattle.std.proofs.lemmas.List.{get_or-take, length-take-le}
use Rattle.std.proofs.lemmas.Bool.{eqb-true, eq-eqb, or_cases}
use Rattle.memchr.specs.Find.{IsFirstByte, is_byte, is_byte2}
use Rattle.relay_model.specs.Conversions.{read_converted, write_converted}
use Rattle.relay_model.specs.declared.commands.Conv.TheVariants.{Plain}
use Rattle.line_ends.specs.declared.Convs.{Convs}
use Rattle.line_ends.specs.Converted.{converted, IsNextLineEnd}
use Rattle.line_ends.proofs.Unchanged.{read_unchanged, write_unchanged}

abbrev PassesNowhere : (ℕ → Bool) → List ℕ → Type 0
PassesNowhere test ys = (k : ℕ) → k < length ys → test (get_or ys k 0) ≡ true → ⊥

found_by : (how : Convs) (test : ℕ → Bool) (xs : List ℕ) (r : Option ℕ) → ((ys : List ℕ) → PassesNowhere test ys → converted how ys ≡ ys) → ((x : ℕ) → test x ≡ true → (x ≡ 13) ⊎ (x ≡ 10)) → IsFirstByte test xs r → IsNextLineEnd how xs r
found_by how test xs None same ends first = same xs (λ k below. first k (omega arith) below)
found_by how test xs (Some at) same ends first =
    let long = length-take-le at xs (omega (arith, first.0.high)) in (
      first.0.high,
      same (take at xs) (λ k below passes. let within : k < at = omega (arith, long) in first.0.before k (omega arith) within (rw (get_or-take at xs k 0 within) at passes)),
      ends (get_or xs at 0) first.1,
    )

pub found_newline : (how : Convs) (xs : List ℕ) (r : Option ℕ) → how.read ≡ Plain → IsFirstByte (is_byte 10) xs r → IsNextLineEnd how xs r
found_newline how xs r is first = found_by how (is_byte 10) xs r
    (λ ys lacks. ap (λ conv. write_converted how.write (read_converted conv ys)) is ∙ write_unchanged how.write ys (λ k below e. lacks k below (eq-eqb (get_or ys k 0) 10 e)))
    (λ x passes. inr (eqb-true x 10 passes))
    first

pub found_return : (how : Convs) (xs : List ℕ) (r : Option ℕ) → how.write ≡ Plain → IsFirstByte (is_byte 13) xs r → IsNextLineEnd how xs r
found_return how xs r is first = found_by how (is_byte 13) xs r
    (λ ys lacks. ap (λ conv. write_converted conv (read_converted how.read ys)) is ∙ read_unchanged how.read ys (λ k below e. lacks k below (eq-eqb (get_or ys k 0) 13 e)))
    (λ x passes. inl (eqb-true x 13 passes))
    first

pub found_either : (how : Convs) (xs : List ℕ) (r : Option ℕ) → IsFirstByte (is_byte2 13 10) xs r → IsNextLineEnd how xs r
found_either how xs r first = found_by how (is_byte2 13 10) xs r
    (λ ys lacks. ap (write_converted how.write) (read_unchanged how.read ys (λ k below e. lacks k below (or_left (get_or ys k 0) e))) ∙ write_unchanged how.write ys (λ k below e. lacks k below (or_right (get_or ys k 0) e)))
    (λ x passes. ⊎_elim (λ e. inl (eqb-true x 13 e)) (λ e. inr (eqb-true x 10 e)) (or_cases (eqb x 13) (eqb x 10) passes))
    first
  where
    or_left : (x : ℕ) → x ≡ 13 → (eqb x 13 || eqb x 10) ≡ true
    or_left x e = rw (eq-eqb x 13 e)

    or_right : (x : ℕ) → x ≡ 10 → (eqb x 13 || eqb x 10) ≡ true
    or_right x e = rw e
