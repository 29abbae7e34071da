use Rattle.std.proofs.Common.{◌-◌, arith, length}
use Rattle.option_table.proofs.DigitsLemmas.{number_lt, pow_ten, product_fits}
use Rattle.option_table.proofs.numbers.time_from.Goals as goal

pub overflow_mul-micros-2 : goal.overflow_mul-micros-2
overflow_mul-micros-2 c =
    let few = number_lt 10 c.in_ok-parts.parts c.args.fraction.now c.in_ok-parts.ensures in
    let top = pow_ten (length c.args.fraction.now) (omega arith) in
    let scale = pow_ten (6 - length c.args.fraction.now) (omega arith) in
    let product = product_fits c.in_ok-parts.parts c.pow-scale.result (omega (arith, few, top)) (omega (arith, scale, c.pow-scale.ensures)) in
    omega (arith, product)

pub overflow_add-micros : goal.overflow_add-micros
overflow_add-micros c =
    let few = number_lt 10 c.in_ok-parts.parts c.args.fraction.now c.in_ok-parts.ensures in
    let top = pow_ten (length c.args.fraction.now) (omega arith) in
    let scale = pow_ten (6 - length c.args.fraction.now) (omega arith) in
    let product = product_fits c.in_ok-parts.parts c.pow-scale.result (omega (arith, few, top)) (omega (arith, scale, c.pow-scale.ensures)) in
    omega (arith, product)
