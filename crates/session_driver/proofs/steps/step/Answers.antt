use Rattle.std.proofs.Common.{refl, sym, ap, ◌∙◌}
use Rattle.relay_model.specs.Holding.{is_open}
use Rattle.session_driver.proofs.Sizes.{wish_fits}
use Rattle.session_driver.proofs.steps.step.Goals as goal

pub read-requires-clause-reads : goal.read-requires-clause-reads
read-requires-clause-reads g c =
    let at = c.requires.meets in
    record {
      wish = sym c.in-Read.ensures.wish;
      opened = ap is_open (at.holds c.in-Read.place) ∙ (c.in-Read.ensures.can c.args.config.now at.n at.past at.s at.stands at.legal).0;
      own = λ n past s st. c.in-Read.ensures.own c.args.config.now n past s st;
      going = c.in-Read.ensures.going c.args.config.now at.n at.past at.s at.stands refl;
    }

pub read-requires-clause-some : goal.read-requires-clause-some
read-requires-clause-some g c = let at = c.requires.meets in (c.in-Read.ensures.can c.args.config.now at.n at.past at.s at.stands at.legal).1

pub read-requires-clause-within : goal.read-requires-clause-within
read-requires-clause-within g c =
    let at = c.requires.meets in
    wish_fits c.args.config.now at.past at.s c.in-Read.place _ _ (c.in-Read.ensures.wished c.args.config.now at.n at.past at.s at.stands) c.requires.block

pub write-requires-clause-wish : goal.write-requires-clause-wish
write-requires-clause-wish g c = let at = c.requires.meets in sym c.in-Write.ensures.wish

pub write-requires-clause-open : goal.write-requires-clause-open
write-requires-clause-open g c = let at = c.requires.meets in at.holds c.in-Write.place ∙ c.in-Write.ensures.can c.args.config.now at.n at.past at.s at.stands at.legal

pub write-requires-clause-own : goal.write-requires-clause-own
write-requires-clause-own g c = let at = c.requires.meets in λ n past s st. c.in-Write.ensures.own c.args.config.now n past s st

pub write-requires-clause-going : goal.write-requires-clause-going
write-requires-clause-going g c = let at = c.requires.meets in c.in-Write.ensures.going c.args.config.now at.n at.past at.s at.stands refl

pub write-requires-clause-meets : goal.write-requires-clause-meets
write-requires-clause-meets g c = let at = c.requires.meets in at

pub returns-in-Sleep-clause-step : goal.returns-in-Sleep-clause-step
returns-in-Sleep-clause-step g c = let at = c.requires.meets in (refl, refl, sym c.in-Sleep.ensures.wish, c.in-Sleep.ensures.going c.args.config.now at.n at.past at.s at.stands refl)
