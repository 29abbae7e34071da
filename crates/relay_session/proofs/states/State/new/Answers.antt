use Rattle.std.proofs.Common.{refl, []}
use Rattle.relay_session.proofs.StepLemmas.{at_first}
use Rattle.relay_session.proofs.states.State.new.Goals as goal

pub returns-clause-stands : goal.returns-clause-stands
returns-clause-stands c =
    let h = c.in_ok-state.ensures in
    λ n. at_first c.args.config.now n _ _ h.fit c.requires.alone h.openings_are h.lanes_are h.clock_is h.moved_is h.faulted_is h.closing_is h.idle_is h.sloppy_is (record { openings_same = refl; lanes_same = refl; clock_same = refl; moved_same = refl; faulted_same = refl; closing_same = refl; idle_same = refl; sloppy_same = refl }) (λ g q. c.cause-state.ensures c.args.config.now [] 0 g q)

pub returns-clause-unasked : goal.returns-clause-unasked
returns-clause-unasked c = c.in_ok-state.ensures.unasked
