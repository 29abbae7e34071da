use Rattle.std.proofs.Common.{[], ap}
use Rattle.std.proofs.lemmas.Option.{same_Some}
use Rattle.socat_top.proofs.StartLemmas.{starts_so}
use Rattle.socat_top.proofs.numbered_worlds.NumberedWorld.new.Goals as goal

pub invariant_of-result : goal.invariant_of-result
invariant_of-result c =
    let world = c.in_ok-world.world in
    record {
      gives = starts_so c.args.number world.kept.journal.acts world.script.reads (ap (λ h. h.acts) (same_Some (record { acts = world.kept.journal.acts; asked = world.kept.asked.pairs }) (record { acts = []; asked = [] }) c.in_ok-world.ensures.told)) (ap (λ s. s.reads) c.in_ok-world.ensures.script);
    }
