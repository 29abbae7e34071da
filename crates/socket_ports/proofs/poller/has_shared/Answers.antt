use Rattle.std.proofs.Common.{◌≡◌, ℕ, ◌+◌, Bool, false, List, Some, take, get_or, ap, sym, ◌∙◌, arith}
use Rattle.std.specs.Prelude.{◌||◌, ◌==◌, ◌^◌, ◌-◌}
use Rattle.relay_model.specs.declared.places.Half.{Half}
use Rattle.std.specs.List.{list_any, slice_get}
use Rattle.std.proofs.lemmas.Bool.{eq-eqb, ne_eqb}
use Rattle.std.proofs.lemmas.List.{take_all}
use Rattle.std.proofs.lemmas.List.Folds.{list_any_more}
use Rattle.std.proofs.lemmas.Map.Keys.{any_passes_from_place}
use Rattle.std.proofs.lemmas.Option.{get_or_from_slice_get, slice_get_within}
use Rattle.socket_ports.specs.Pollers.{has_shared}
use Rattle.socket_ports.proofs.poller.has_shared.Goals as goal

none_more : {X : Type 0} (p : X → Bool) (xs : List X) (i : ℕ) (x : X) → slice_get xs i ≡ Some x → list_any p (take i xs) ≡ false → p x ≡ false → list_any p (take (i + 1) xs) ≡ false
none_more p xs i x e none fails = list_any_more p xs i x (slice_get_within xs i x e) ∙ ap (λ (b : Bool). b || p (get_or xs i x)) none ∙ ap p (get_or_from_slice_get xs i x x e) ∙ fails

pub returns-then-key : goal.returns-then-key
returns-then-key c = sym (any_passes_from_place (λ (entry : ℕ × Half). entry.0 == 2 ^ 64 - 5) c.args.ready.now.entries c.loop-i.i c.get-key.result c.get-key.ensures (eq-eqb _ _ c.if-key.true))

pub loop-i-preserved : goal.loop-i-preserved
loop-i-preserved c = none_more (λ (entry : ℕ × Half). entry.0 == 2 ^ 64 - 5) c.args.ready.now.entries c.loop-i.i c.get-key.result c.get-key.ensures c.loop-i.invariant (ne_eqb _ _ c.if-key.false)

pub returns : goal.returns
returns c =
    let all = take_all c.loop-i.i c.args.ready.now.entries (let v = c.len-i-end.ensures.len in omega (arith, v, c.loop-i-test.false)) in
    sym (ap has_shared (sym all) ∙ c.loop-i.invariant)
