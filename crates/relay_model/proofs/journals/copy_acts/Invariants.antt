use Rattle.std.proofs.Common.{◌≡◌, map, take}
use Rattle.relay_model.specs.Acts.{copied_act}
use Rattle.relay_model.proofs.journals.copy_acts.Given as goal

abbrev pub invariant-loop-act : goal.invariant-loop-act
invariant-loop-act l = l.copied.items ≡ map copied_act (take l.act-index l.acts)
