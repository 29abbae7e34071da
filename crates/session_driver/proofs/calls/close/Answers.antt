use Rattle.std.proofs.Common.{refl, false, None}
use Rattle.std.proofs.lemmas.Bool.{false≢true}
use Rattle.relay_model.specs.declared.acts.Act.TheVariants as acts
use Rattle.session_driver.proofs.Hearing.{heard_as}
use Rattle.session_driver.proofs.Owning.{own_by, at_own, closes_as, reads_as}
use Rattle.session_driver.proofs.calls.close.Goals as goal

pub returns-clause-step : goal.returns-clause-step
returns-clause-step g c = (
  acts.Closed c.args.place c.args.why,
  λ past s. refl,
  record {
    asked = None;
    failed = false;
    did = c.close.ensures.act;
    heard = λ n past s st. heard_as _ n past s _ _ _ _ c.requires.wish (c.hear.ensures.act c.args.config.now n past s st);
    own = λ n past s st. tt;
    here = λ n past s st. at_own _ s c.args.place _ (λ p. refl) refl (own_by _ n past s _ _ st c.requires.wish);
    closes = closes_as _ _ c.args.session.now c.requires.wish refl;
    reads = reads_as _ _ c.args.session.now c.requires.wish refl;
    no_turn = record { turns_same = λ past. refl; stops_same = λ past. refl };
    rose = record { later = c.close.ensures.faults; rose = λ e. absurd (false≢true e) };
    blameless = λ e past. refl;
    waitless = c.close.ensures.waitless;
    over = λ n past s st e. c.hear.ensures.over c.args.config.now n past s st e;
    ending = λ n past s st e. c.hear.ensures.ending c.args.config.now n past s st e;
  },
)
