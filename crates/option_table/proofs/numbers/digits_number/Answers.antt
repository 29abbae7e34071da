use Rattle.std.proofs.Common.{◌<◌, ◌+◌, ℕ, arith, sym, ap, ◌∙◌, subst, get_or, drop, lit<}
use Rattle.std.proofs.lemmas.Bool.{lt-ltb}
use Rattle.std.specs.Char.{digit_value}
use Rattle.option_table.proofs.DigitsLemmas.{begins, goes_on, too_great, ends, number_on, above, above_sum, sum_is}
use Rattle.option_table.proofs.numbers.digits_number.Goals as goal

pub loop-byte-init : goal.loop-byte-init
loop-byte-init c = record { small = lit< tt; read = begins c.args.radix c.args.digits.now }

pub returns-in_err-checked_mul : goal.returns-in_err-checked_mul
returns-in_err-checked_mul c =
    let great = above c.loop-byte.value _ c.args.radix c.in_ok-digit.digit c.from-in-loop-byte.ensures c.in_err-checked_mul.ensures in
    let digit = c.in_ok-digit.ensures.value.1 ∙ ap digit_value c.from.ensures in
    c.from_residual-in_err-checked_mul.ensures
    ∙ sym (c.loop-byte.invariant.read ∙ too_great c.args.radix c.loop-byte.value c.in_ok-digit.digit c.loop-byte.byte-index c.args.digits.now c.loop-byte-test.true (omega arith) digit great)

pub returns-in_err-value : goal.returns-in_err-value
returns-in_err-value c =
    let great = above_sum c.loop-byte.value _ c.args.radix _ _ c.in_ok-digit.digit c.from-in-loop-byte.ensures c.in_ok-checked_mul.ensures.1 c.from-in-loop-byte-2.ensures c.in_err-value.ensures in
    let digit = c.in_ok-digit.ensures.value.1 ∙ ap digit_value c.from.ensures in
    c.from_residual-in_err-value.ensures
    ∙ sym (c.loop-byte.invariant.read ∙ too_great c.args.radix c.loop-byte.value c.in_ok-digit.digit c.loop-byte.byte-index c.args.digits.now c.loop-byte-test.true (omega arith) digit great)

pub loop-byte-preserved : goal.loop-byte-preserved
loop-byte-preserved c =
    let P : ℕ → Type 0 = λ x. digit_value x < c.args.radix in
    let below : digit_value (get_or c.args.digits.now c.loop-byte.byte-index 0) < c.args.radix = subst P c.from.ensures c.in_ok-digit.ensures.value.0 in
    let digit = c.in_ok-digit.ensures.value.1 ∙ ap digit_value c.from.ensures in
    let sum = sum_is c.loop-byte.value _ c.args.radix _ _ c.in_ok-digit.digit _ c.from-in-loop-byte.ensures c.in_ok-checked_mul.ensures.1 c.from-in-loop-byte-2.ensures c.in_ok-value.ensures.1 in
    record {
      small = omega (arith, c.in_ok-value.ensures.0, c.in_ok-value.ensures.1);
      read = c.loop-byte.invariant.read
          ∙ goes_on c.args.radix c.loop-byte.value c.in_ok-digit.digit c.loop-byte.byte-index c.args.digits.now c.loop-byte-test.true (lt-ltb _ _ below) digit
          ∙ ap (λ x. number_on c.args.radix x (drop (c.loop-byte.byte-index + 1) c.args.digits.now)) sum;
    }

pub returns : goal.returns
returns c = sym (c.loop-byte.invariant.read ∙ ends c.args.radix c.loop-byte.value c.loop-byte.byte-index c.args.digits.now c.loop-byte-test.false c.loop-byte.invariant.small)
