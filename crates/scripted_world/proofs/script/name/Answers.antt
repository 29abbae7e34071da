use Rattle.std.proofs.Common.{◌≡◌, ◌<◌, ◌≤◌, ◌++◌, ◌∷◌, ◌↔◌, [], List, Bool, true, false, IsTrue, length, sym, ap, ◌∙◌, arith}
use Rattle.std.specs.Bool.{OnTrue}
use Rattle.std.proofs.lemmas.Grind.{common_steps}
use Rattle.relay_model.specs.declared.readiness.ReadyAt.{ReadyAt}
use Rattle.relay_model.specs.Readiness.{Listed}
use Rattle.scripted_world.proofs.LookLemmas.{take_fits, take_full}
use Rattle.scripted_world.proofs.script.name.Goals as goal

pushed : (b : Bool) (old new : Listed) (e : ReadyAt) → length old.entries < 256 → (IsTrue b ↔ (length old.entries < 256)) → OnTrue b (new ≡ record old { entries = old.entries ++ e ∷ [] }) → new.entries ≡ old.entries ++ e ∷ []
pushed true old new e room full done = ap (λ (l : Listed). l.entries) done
pushed false old new e room full done = absurd (let f : false ≡ true = full.1 room in cc)

one_longer : (xs : List ReadyAt) (e : ReadyAt) → length xs < 256 → length (xs ++ e ∷ []) ≤ 256
one_longer xs e room = grind (arith, common_steps)

pub returns-then-len-lt-MOST_READY-clause-named : goal.returns-then-len-lt-MOST_READY-clause-named
returns-then-len-lt-MOST_READY-clause-named c =
    let room : length c.args.ready.now.entries < 256 = omega arith in
    pushed c.push.result c.args.ready.now c.push.new.self c.args.entry room c.push.ensures.full c.push.ensures.pushed ∙ sym (take_fits 256 (c.args.ready.now.entries ++ c.args.entry ∷ []) (one_longer c.args.ready.now.entries c.args.entry room))

pub returns-else-len-lt-MOST_READY-clause-named : goal.returns-else-len-lt-MOST_READY-clause-named
returns-else-len-lt-MOST_READY-clause-named c = sym (take_full 256 c.args.ready.now.entries (c.args.entry ∷ []) (omega arith) (omega arith))
