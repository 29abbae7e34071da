use Rattle.std.proofs.Common.{refl, true, false, None, sym, ◌∙◌, arith}
use Rattle.std.proofs.lemmas.Bool.{true≢false}
use Rattle.relay_model.specs.declared.acts.Act.TheVariants as acts
use Rattle.session_driver.proofs.Hearing.{heard_as}
use Rattle.session_driver.proofs.Owning.{own_by, at_own, closes_as, reads_as}
use Rattle.session_driver.proofs.calls.ask.Goals as goal

pub returns-in-Bytes-clause-step : goal.returns-in-Bytes-clause-step
returns-in-Bytes-clause-step g c = (
  c.in-Bytes.ensures.fits.0,
  (let f = c.in-Bytes.ensures.fits.1 in let k = c.read.auto.into in omega (arith, f, k)),
  refl,
  record { did = c.in-Bytes.ensures.act; rose = c.in-Bytes.ensures.cause; waitless = c.in-Bytes.ensures.waitless },
)

pub returns-in-Empty-clause-step : goal.returns-in-Empty-clause-step
returns-in-Empty-clause-step g c = (
  acts.ReadEmpty c.args.place,
  refl,
  λ past s. refl,
  record {
    asked = None;
    failed = false;
    did = c.in-Empty.ensures.act;
    heard = λ n past s st. heard_as _ n past s _ _ _ _ c.requires.reads.wish (c.hear.ensures.act c.args.config.now n past s st);
    own = λ n past s st. tt;
    here = λ n past s st. at_own _ s c.args.place _ (λ p. refl) refl (own_by _ n past s _ _ st c.requires.reads.wish);
    closes = closes_as _ _ c.args.session.now c.requires.reads.wish refl;
    reads = reads_as _ _ c.args.session.now c.requires.reads.wish tt;
    no_turn = record { turns_same = λ past. refl; stops_same = λ past. refl };
    rose = c.in-Empty.ensures.cause;
    blameless = λ e past. refl;
    waitless = c.in-Empty.ensures.waitless;
    over = λ n past s st e. c.hear.ensures.over c.args.config.now n past s st e;
    ending = λ n past s st e. c.hear.ensures.ending c.args.config.now n past s st e;
  },
)

pub returns-in-End-clause-step : goal.returns-in-End-clause-step
returns-in-End-clause-step g c = (
  acts.ReadEnd c.args.place,
  refl,
  λ past s. refl,
  record {
    asked = None;
    failed = false;
    did = c.in-End.ensures.act;
    heard = λ n past s st. heard_as _ n past s _ _ _ _ c.requires.reads.wish (c.hear-in-End.ensures.act c.args.config.now n past s st);
    own = λ n past s st. tt;
    here = λ n past s st. at_own _ s c.args.place _ (λ p. refl) refl (own_by _ n past s _ _ st c.requires.reads.wish);
    closes = closes_as _ _ c.args.session.now c.requires.reads.wish refl;
    reads = reads_as _ _ c.args.session.now c.requires.reads.wish tt;
    no_turn = record { turns_same = λ past. refl; stops_same = λ past. refl };
    rose = c.in-End.ensures.cause;
    blameless = λ e past. refl;
    waitless = c.in-End.ensures.waitless;
    over = λ n past s st e. c.hear-in-End.ensures.over c.args.config.now n past s st e;
    ending = λ n past s st e. c.hear-in-End.ensures.ending c.args.config.now n past s st e;
  },
)

pub returns-in-NotYet-clause-step : goal.returns-in-NotYet-clause-step
returns-in-NotYet-clause-step g c = (
  acts.ReadNotYet c.args.place,
  refl,
  λ past s. refl,
  record {
    asked = None;
    failed = false;
    did = c.in-NotYet.ensures.act;
    heard = λ n past s st. heard_as _ n past s _ _ _ _ c.requires.reads.wish (c.hear-in-NotYet.ensures.act c.args.config.now n past s st);
    own = λ n past s st. tt;
    here = λ n past s st. at_own _ s c.args.place _ (λ p. refl) refl (own_by _ n past s _ _ st c.requires.reads.wish);
    closes = closes_as _ _ c.args.session.now c.requires.reads.wish refl;
    reads = reads_as _ _ c.args.session.now c.requires.reads.wish tt;
    no_turn = record { turns_same = λ past. refl; stops_same = λ past. refl };
    rose = c.in-NotYet.ensures.cause;
    blameless = λ e past. refl;
    waitless = c.in-NotYet.ensures.waitless;
    over = λ n past s st e. c.hear-in-NotYet.ensures.over c.args.config.now n past s st e;
    ending = λ n past s st e. c.hear-in-NotYet.ensures.ending c.args.config.now n past s st e;
  },
)

pub returns-in-Failed-clause-step : goal.returns-in-Failed-clause-step
returns-in-Failed-clause-step g c = (
  c.requires.reads.own,
  record {
    asked = None;
    failed = true;
    did = c.in-Failed.ensures.act;
    heard = λ n past s st. heard_as _ n past s _ _ _ _ c.requires.reads.wish (c.hear-in-Failed.ensures.act c.args.config.now n past s st);
    own = λ n past s st. tt;
    here = λ n past s st. at_own _ s c.args.place _ (λ p. refl) refl (own_by _ n past s _ _ st c.requires.reads.wish);
    closes = closes_as _ _ c.args.session.now c.requires.reads.wish refl;
    reads = reads_as _ _ c.args.session.now c.requires.reads.wish tt;
    no_turn = record { turns_same = λ past. refl; stops_same = λ past. refl };
    rose = c.in-Failed.ensures.cause;
    blameless = λ e past. absurd (true≢false e);
    waitless = c.in-Failed.ensures.waitless;
    over = λ n past s st e. c.hear-in-Failed.ensures.over c.args.config.now n past s st e;
    ending = λ n past s st e. c.hear-in-Failed.ensures.ending c.args.config.now n past s st e;
  },
)

pub returns-in-Memory-clause-step : goal.returns-in-Memory-clause-step
returns-in-Memory-clause-step g c = rw c.want.ensures.memory (
  record {
    did = c.in-Memory.ensures.act;
    stands = λ n past s st. c.want.ensures.cut.stands c.args.config.now n past s st c.requires.reads.going;
    ending = λ n past s st e. absurd (true≢false (sym e ∙ c.requires.reads.going));
    rose = c.in-Memory.ensures.cause;
    waitless = c.in-Memory.ensures.waitless;
  },
  c.requires.reads.going,
  c.want.ensures.cut.over,
  c.want.ensures.cut.left,
  c.want.ensures.cut.ending,
)
