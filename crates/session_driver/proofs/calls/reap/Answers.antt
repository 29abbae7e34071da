use Rattle.std.proofs.Common.{refl, false, None}
use Rattle.std.proofs.lemmas.Bool.{false≢true}
use Rattle.relay_model.specs.declared.acts.Act.TheVariants as acts
use Rattle.session_driver.proofs.Hearing.{heard_as, unreaped}
use Rattle.session_driver.proofs.Owning.{own_by, at_own, closes_as, reads_as}
use Rattle.session_driver.proofs.calls.reap.Goals as goal

pub returns-in-Reaped : goal.returns-in-Reaped
returns-in-Reaped g c = (
  acts.Reaped c.args.place c.in-Reaped.end,
  λ past s. refl,
  record {
    asked = None;
    failed = false;
    did = c.in-Reaped.ensures.act;
    heard = λ n past s st. heard_as _ n past s _ _ _ _ c.requires.wish (c.hear.ensures.act c.args.config.now n past s st);
    own = λ n past s st. tt;
    here = λ n past s st. at_own _ s c.args.place _ (λ p. refl) refl (own_by _ n past s _ _ st c.requires.wish);
    closes = closes_as _ _ c.args.session.now c.requires.wish refl;
    reads = reads_as _ _ c.args.session.now c.requires.wish refl;
    no_turn = record { turns_same = λ past. refl; stops_same = λ past. refl };
    rose = record { later = c.in-Reaped.ensures.faults; rose = λ e. absurd (false≢true e) };
    blameless = λ e past. refl;
    waitless = c.in-Reaped.ensures.waitless;
    over = λ n past s st e. c.hear.ensures.over c.args.config.now n past s st e;
    ending = λ n past s st e. c.hear.ensures.ending c.args.config.now n past s st e;
  },
)

pub returns-in-NoChild : goal.returns-in-NoChild
returns-in-NoChild g c = (
  record {
    did = unreaped c.args.place c.reap.result _ _ c.in-NoChild.is c.reap.ensures.act;
    stands = λ n past s st. (c.hear-in-NoChild.ensures.childless c.args.config.now n past s st refl).0;
    ending = λ n past s st e. c.hear-in-NoChild.ensures.ending c.args.config.now n past s st e;
    rose = record { later = c.reap.ensures.faults; rose = λ e. absurd (false≢true e) };
    waitless = c.reap.ensures.waitless;
  },
  λ n past s st. ((c.hear-in-NoChild.ensures.childless c.args.config.now n past s st refl).1, c.hear-in-NoChild.ensures.over c.args.config.now n past s st),
)
