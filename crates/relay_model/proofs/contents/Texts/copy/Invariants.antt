use Rattle.std.proofs.Common.{◌≡◌, take}
use Rattle.relay_model.proofs.contents.Texts.copy.Given as goal

abbrev pub invariant-loop-item : goal.invariant-loop-item
invariant-loop-item l = l.copied ≡ take l.item-index l.self
