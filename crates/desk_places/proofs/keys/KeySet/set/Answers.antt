use Rattle.std.proofs.Common.{rules, refl, arith, nat_lt, ◌≡◌, ◌≤◌, ◌<◌, ◌-◌, ◌∙◌, sym, length, slice_get, Some}
use Rattle.std.proofs.lemmas.Bool.Decides.{nat_tests}
use Rattle.std.proofs.lemmas.Option.{slice_get_read, slice_get_within}
use Rattle.desk_places.proofs.KeyLemmas.{key_at, key_in_as, out_elsewhere, out_here, put_elsewhere, put_here}
use Rattle.desk_places.proofs.keys.KeySet.set.Goals as goal

pub returns-then-inside-place-clause-here : goal.returns-then-inside-place-clause-here
returns-then-inside-place-clause-here c = λ covered.
    let told : slice_get c.self.inside.places.items c.args.key ≡ Some c.index-place.result.now = slice_get_read c.self.inside.places.items (length c.self.inside.places.items) c.args.key c.index-place.result.now refl (search rules) c.index-place.ensures in
    let at = key_at c.self.inside.order.items c.self.inside.places.items c.args.key c.index-place.result.now c.self.invariant.0 told in
    let same : c.args.inside ≡ nat_lt c.index-place.result.now c.self.inside.count = grind (arith, nat_tests, c.if-inside-place.true) in
    rw (← c.self.view_is) (key_in_as c.self.inside.order.items c.self.inside.places.items c.args.key c.index-place.result.now c.self.inside.count c.args.inside at c.self.invariant.0 same)

pub exchange-requires-clause-one : goal.exchange-requires-clause-one
exchange-requires-clause-one c =
    let told : slice_get c.self.inside.places.items c.args.key ≡ Some c.index-place.result.now = slice_get_read c.self.inside.places.items (length c.self.inside.places.items) c.args.key c.index-place.result.now refl (search rules) c.index-place.ensures in
    slice_get_within c.self.inside.order.items c.index-place.result.now c.args.key (key_at c.self.inside.order.items c.self.inside.places.items c.args.key c.index-place.result.now c.self.invariant.0 told)

pub exchange-requires-clause-two : goal.exchange-requires-clause-two
exchange-requires-clause-two c =
    let told : slice_get c.self.inside.places.items c.args.key ≡ Some c.index-place.result.now = slice_get_read c.self.inside.places.items (length c.self.inside.places.items) c.args.key c.index-place.result.now refl (search rules) c.index-place.ensures in
    let within = slice_get_within c.self.inside.order.items c.index-place.result.now c.args.key (key_at c.self.inside.order.items c.self.inside.places.items c.args.key c.index-place.result.now c.self.invariant.0 told) in
    let past : c.self.inside.count ≤ c.index-place.result.now = grind (arith, nat_tests, c.if-inside-place.false, c.if-inside.true) in
    omega (arith, within, past)

pub invariant_of-self : goal.invariant_of-self
invariant_of-self c =
    let told : slice_get c.self.inside.places.items c.args.key ≡ Some c.index-place.result.now = slice_get_read c.self.inside.places.items (length c.self.inside.places.items) c.args.key c.index-place.result.now refl (search rules) c.index-place.ensures in
    let within = slice_get_within c.self.inside.order.items c.index-place.result.now c.args.key (key_at c.self.inside.order.items c.self.inside.places.items c.args.key c.index-place.result.now c.self.invariant.0 told) in
    let past : c.self.inside.count ≤ c.index-place.result.now = grind (arith, nat_tests, c.if-inside-place.false, c.if-inside.true) in
    (c.exchange.ensures.inverse, omega (arith, within, past, c.exchange.ensures.len))

pub returns-then-inside-clause-here : goal.returns-then-inside-clause-here
returns-then-inside-clause-here c = λ covered.
    let told : slice_get c.self.inside.places.items c.args.key ≡ Some c.index-place.result.now = slice_get_read c.self.inside.places.items (length c.self.inside.places.items) c.args.key c.index-place.result.now refl (search rules) c.index-place.ensures in
    let at = key_at c.self.inside.order.items c.self.inside.places.items c.args.key c.index-place.result.now c.self.invariant.0 told in
    let past : c.self.inside.count ≤ c.index-place.result.now = grind (arith, nat_tests, c.if-inside-place.false, c.if-inside.true) in
    put_here c.self.inside.order.items c.exchange.new.order.items c.args.key c.index-place.result.now c.self.inside.count at past c.exchange.ensures.exchanged c.args.key refl ∙ sym c.if-inside.true

pub returns-then-inside-clause-others : goal.returns-then-inside-clause-others
returns-then-inside-clause-others c = λ other away.
    let told : slice_get c.self.inside.places.items c.args.key ≡ Some c.index-place.result.now = slice_get_read c.self.inside.places.items (length c.self.inside.places.items) c.args.key c.index-place.result.now refl (search rules) c.index-place.ensures in
    let at = key_at c.self.inside.order.items c.self.inside.places.items c.args.key c.index-place.result.now c.self.invariant.0 told in
    let past : c.self.inside.count ≤ c.index-place.result.now = grind (arith, nat_tests, c.if-inside-place.false, c.if-inside.true) in
    rw (← c.self.view_is) (put_elsewhere c.self.inside.order.items c.exchange.new.order.items c.args.key c.index-place.result.now c.self.inside.count at past c.exchange.ensures.exchanged other away)

pub returns-else-inside-clause-here : goal.returns-else-inside-clause-here
returns-else-inside-clause-here c = λ covered.
    let told : slice_get c.self.inside.places.items c.args.key ≡ Some c.index-place.result.now = slice_get_read c.self.inside.places.items (length c.self.inside.places.items) c.args.key c.index-place.result.now refl (search rules) c.index-place.ensures in
    let at = key_at c.self.inside.order.items c.self.inside.places.items c.args.key c.index-place.result.now c.self.invariant.0 told in
    let below : c.index-place.result.now < c.self.inside.count = grind (arith, nat_tests, c.if-inside-place.false, c.if-inside.false) in
    out_here c.self.inside.order.items c.exchange-else-inside.new.order.items c.args.key c.index-place.result.now c.self.inside.count at c.self.inside.places.items c.self.invariant.0 (c.self.inside.count - 1) (omega (arith, below)) below c.exchange-else-inside.ensures.exchanged c.args.key refl ∙ sym c.if-inside.false

pub returns-else-inside-clause-others : goal.returns-else-inside-clause-others
returns-else-inside-clause-others c = λ other away.
    let told : slice_get c.self.inside.places.items c.args.key ≡ Some c.index-place.result.now = slice_get_read c.self.inside.places.items (length c.self.inside.places.items) c.args.key c.index-place.result.now refl (search rules) c.index-place.ensures in
    let at = key_at c.self.inside.order.items c.self.inside.places.items c.args.key c.index-place.result.now c.self.invariant.0 told in
    let below : c.index-place.result.now < c.self.inside.count = grind (arith, nat_tests, c.if-inside-place.false, c.if-inside.false) in
    rw (← c.self.view_is) (out_elsewhere c.self.inside.order.items c.exchange-else-inside.new.order.items c.args.key c.index-place.result.now c.self.inside.count at c.self.inside.places.items c.self.invariant.0 (c.self.inside.count - 1) (omega (arith, below)) below c.exchange-else-inside.ensures.exchanged other away)
