use Rattle.std.proofs.Common.{refl, sym, ap, ◌∙◌}
use Rattle.relay_model.specs.Holding.{is_open, is_free}
use Rattle.session_driver.proofs.Hearing.{unreaped_told}
use Rattle.session_driver.proofs.Sizes.{wish_fits}
use Rattle.session_driver.proofs.steps.any_step.Goals as goal

pub open-requires-clause-wish : goal.open-requires-clause-wish
open-requires-clause-wish g c = let at = c.requires.meets in sym c.in-Open.ensures.wish

pub open-requires-clause-free : goal.open-requires-clause-free
open-requires-clause-free g c = let at = c.requires.meets in at.holds c.in-Open.place ∙ c.in-Open.ensures.can c.args.config.now at.n at.past at.s at.stands at.legal

pub open-requires-clause-own : goal.open-requires-clause-own
open-requires-clause-own g c = let at = c.requires.meets in λ n past s st. c.in-Open.ensures.own c.args.config.now n past s st

pub open-requires-clause-going : goal.open-requires-clause-going
open-requires-clause-going g c = let at = c.requires.meets in c.in-Open.ensures.going c.args.config.now at.n at.past at.s at.stands refl

pub settle-requires-clause-wish : goal.settle-requires-clause-wish
settle-requires-clause-wish g c = let at = c.requires.meets in sym c.in-Settle.ensures.wish

pub settle-requires-clause-settling : goal.settle-requires-clause-settling
settle-requires-clause-settling g c = let at = c.requires.meets in at.holds c.in-Settle.place ∙ c.in-Settle.ensures.can c.args.config.now at.n at.past at.s at.stands at.legal

pub settle-requires-clause-going : goal.settle-requires-clause-going
settle-requires-clause-going g c = let at = c.requires.meets in c.in-Settle.ensures.going c.args.config.now at.n at.past at.s at.stands refl

pub listen-requires-clause-wish : goal.listen-requires-clause-wish
listen-requires-clause-wish g c = let at = c.requires.meets in sym c.in-Listen.ensures.wish

pub listen-requires-clause-free : goal.listen-requires-clause-free
listen-requires-clause-free g c = let at = c.requires.meets in at.holds c.in-Listen.door ∙ c.in-Listen.ensures.can c.args.config.now at.n at.past at.s at.stands at.legal

pub listen-requires-clause-own : goal.listen-requires-clause-own
listen-requires-clause-own g c = let at = c.requires.meets in λ n past s st. c.in-Listen.ensures.own c.args.config.now n past s st

pub listen-requires-clause-going : goal.listen-requires-clause-going
listen-requires-clause-going g c = let at = c.requires.meets in c.in-Listen.ensures.going c.args.config.now at.n at.past at.s at.stands refl

pub accept-requires-clause-wish : goal.accept-requires-clause-wish
accept-requires-clause-wish g c = let at = c.requires.meets in sym c.in-Accept.ensures.wish

pub accept-requires-clause-door : goal.accept-requires-clause-door
accept-requires-clause-door g c = let at = c.requires.meets in at.holds c.in-Accept.door ∙ (c.in-Accept.ensures.can c.args.config.now at.n at.past at.s at.stands at.legal).0

pub accept-requires-clause-place : goal.accept-requires-clause-place
accept-requires-clause-place g c = let at = c.requires.meets in at.holds c.in-Accept.place ∙ (c.in-Accept.ensures.can c.args.config.now at.n at.past at.s at.stands at.legal).1

pub accept-requires-clause-going : goal.accept-requires-clause-going
accept-requires-clause-going g c = let at = c.requires.meets in c.in-Accept.ensures.going c.args.config.now at.n at.past at.s at.stands refl

pub read-requires-clause-reads : goal.read-requires-clause-reads
read-requires-clause-reads g c =
    let at = c.requires.meets in
    record {
      wish = sym c.in-Read.ensures.wish;
      opened = ap is_open (at.holds c.in-Read.place) ∙ (c.in-Read.ensures.can c.args.config.now at.n at.past at.s at.stands at.legal).0;
      own = λ n past s st. c.in-Read.ensures.own c.args.config.now n past s st;
      going = c.in-Read.ensures.going c.args.config.now at.n at.past at.s at.stands refl;
    }

pub read-requires-clause-some : goal.read-requires-clause-some
read-requires-clause-some g c = let at = c.requires.meets in (c.in-Read.ensures.can c.args.config.now at.n at.past at.s at.stands at.legal).1

pub read-requires-clause-within : goal.read-requires-clause-within
read-requires-clause-within g c =
    let at = c.requires.meets in
    wish_fits c.args.config.now at.past at.s c.in-Read.place _ _ (c.in-Read.ensures.wished c.args.config.now at.n at.past at.s at.stands) c.requires.block

pub write-requires-clause-wish : goal.write-requires-clause-wish
write-requires-clause-wish g c = let at = c.requires.meets in sym c.in-Write.ensures.wish

pub write-requires-clause-open : goal.write-requires-clause-open
write-requires-clause-open g c = let at = c.requires.meets in at.holds c.in-Write.place ∙ c.in-Write.ensures.can c.args.config.now at.n at.past at.s at.stands at.legal

pub write-requires-clause-own : goal.write-requires-clause-own
write-requires-clause-own g c = let at = c.requires.meets in λ n past s st. c.in-Write.ensures.own c.args.config.now n past s st

pub write-requires-clause-going : goal.write-requires-clause-going
write-requires-clause-going g c = let at = c.requires.meets in c.in-Write.ensures.going c.args.config.now at.n at.past at.s at.stands refl

pub write-requires-clause-meets : goal.write-requires-clause-meets
write-requires-clause-meets g c = let at = c.requires.meets in at

pub send-requires-clause-wish : goal.send-requires-clause-wish
send-requires-clause-wish g c = let at = c.requires.meets in sym c.in-Send.ensures.wish

pub send-requires-clause-open : goal.send-requires-clause-open
send-requires-clause-open g c = let at = c.requires.meets in at.holds c.in-Send.place ∙ c.in-Send.ensures.can c.args.config.now at.n at.past at.s at.stands at.legal

pub send-requires-clause-own : goal.send-requires-clause-own
send-requires-clause-own g c = let at = c.requires.meets in λ n past s st. c.in-Send.ensures.own c.args.config.now n past s st

pub send-requires-clause-going : goal.send-requires-clause-going
send-requires-clause-going g c = let at = c.requires.meets in c.in-Send.ensures.going c.args.config.now at.n at.past at.s at.stands refl

pub send-requires-clause-meets : goal.send-requires-clause-meets
send-requires-clause-meets g c = let at = c.requires.meets in at

pub shut-requires-clause-wish : goal.shut-requires-clause-wish
shut-requires-clause-wish g c = let at = c.requires.meets in sym c.in-Shut.ensures.wish

pub shut-requires-clause-open : goal.shut-requires-clause-open
shut-requires-clause-open g c = let at = c.requires.meets in at.holds c.in-Shut.place ∙ c.in-Shut.ensures.can c.args.config.now at.n at.past at.s at.stands at.legal

pub shut-requires-clause-going : goal.shut-requires-clause-going
shut-requires-clause-going g c = let at = c.requires.meets in c.in-Shut.ensures.going c.args.config.now at.n at.past at.s at.stands refl

pub close-requires-clause-wish : goal.close-requires-clause-wish
close-requires-clause-wish g c = let at = c.requires.meets in sym c.in-Close.ensures.wish

pub close-requires-clause-held : goal.close-requires-clause-held
close-requires-clause-held g c = let at = c.requires.meets in ap is_free (at.holds c.in-Close.place) ∙ c.in-Close.ensures.can c.args.config.now at.n at.past at.s at.stands at.legal

pub reap-requires-clause-wish : goal.reap-requires-clause-wish
reap-requires-clause-wish g c = let at = c.requires.meets in sym c.in-Reap.ensures.wish

pub reap-requires-clause-free : goal.reap-requires-clause-free
reap-requires-clause-free g c = let at = c.requires.meets in at.holds c.in-Reap.place ∙ (c.in-Reap.ensures.can c.args.config.now at.n at.past at.s at.stands at.legal).0

pub reap-requires-clause-once : goal.reap-requires-clause-once
reap-requires-clause-once g c = let at = c.requires.meets in unreaped_told at.past at.pairs c.in-Reap.place at.start _ at.told (c.in-Reap.ensures.can c.args.config.now at.n at.past at.s at.stands at.legal).1

pub returns-in-Sleep-clause-step : goal.returns-in-Sleep-clause-step
returns-in-Sleep-clause-step g c = let at = c.requires.meets in (refl, refl, sym c.in-Sleep.ensures.wish, c.in-Sleep.ensures.going c.args.config.now at.n at.past at.s at.stands refl)

pub returns-in-Done-clause-step : goal.returns-in-Done-clause-step
returns-in-Done-clause-step g c = (refl, refl, sym c.in-Done.ensures.wish)
