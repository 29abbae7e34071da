use Rattle.std.proofs.Common.{refl, true, false, None, sym, ◌∙◌}
use Rattle.std.proofs.lemmas.Bool.{true≢false}
use Rattle.relay_model.specs.declared.acts.Act.TheVariants as acts
use Rattle.session_driver.proofs.Hearing.{heard_as}
use Rattle.session_driver.proofs.Owning.{own_by, at_own, closes_as, reads_as}
use Rattle.session_driver.proofs.calls.accept.Goals as goal

pub returns-in-Accepted : goal.returns-in-Accepted
returns-in-Accepted g c = (
  acts.Accepted c.args.place c.in-Accepted.peer,
  λ past s. refl,
  record {
    asked = None;
    failed = false;
    did = c.in-Accepted.ensures.act;
    heard = λ n past s st. heard_as _ n past s _ _ _ _ c.requires.wish (c.hear.ensures.act c.args.config.now n past s st);
    own = λ n past s st. tt;
    here = λ n past s st. at_own _ s c.args.place _ (λ p. refl) refl (own_by _ n past s _ _ st c.requires.wish).1;
    closes = closes_as _ _ c.args.session.now c.requires.wish refl;
    reads = reads_as _ _ c.args.session.now c.requires.wish refl;
    no_turn = record { turns_same = λ past. refl; stops_same = λ past. refl };
    rose = c.in-Accepted.ensures.cause;
    blameless = λ e past. refl;
    waitless = c.in-Accepted.ensures.waitless;
    over = λ n past s st e. c.hear.ensures.over c.args.config.now n past s st e;
    ending = λ n past s st e. c.hear.ensures.ending c.args.config.now n past s st e;
  },
)

pub returns-in-NoPeer : goal.returns-in-NoPeer
returns-in-NoPeer g c = (
  acts.NoPeer c.args.door,
  λ past s. refl,
  record {
    asked = None;
    failed = false;
    did = c.in-NoPeer.ensures.act;
    heard = λ n past s st. heard_as _ n past s _ _ _ _ c.requires.wish (c.hear-in-NoPeer.ensures.act c.args.config.now n past s st);
    own = λ n past s st. tt;
    here = λ n past s st. at_own _ s c.args.door _ (λ p. refl) refl (own_by _ n past s _ _ st c.requires.wish).0;
    closes = closes_as _ _ c.args.session.now c.requires.wish refl;
    reads = reads_as _ _ c.args.session.now c.requires.wish refl;
    no_turn = record { turns_same = λ past. refl; stops_same = λ past. refl };
    rose = c.in-NoPeer.ensures.cause;
    blameless = λ e past. refl;
    waitless = c.in-NoPeer.ensures.waitless;
    over = λ n past s st e. c.hear-in-NoPeer.ensures.over c.args.config.now n past s st e;
    ending = λ n past s st e. c.hear-in-NoPeer.ensures.ending c.args.config.now n past s st e;
  },
)

pub returns-in-Failed : goal.returns-in-Failed
returns-in-Failed g c = (
  acts.AcceptFailed c.args.door,
  λ past s. refl,
  record {
    asked = None;
    failed = true;
    did = c.in-Failed.ensures.act;
    heard = λ n past s st. heard_as _ n past s _ _ _ _ c.requires.wish (c.hear-in-Failed.ensures.act c.args.config.now n past s st);
    own = λ n past s st. tt;
    here = λ n past s st. at_own _ s c.args.door _ (λ p. refl) refl (own_by _ n past s _ _ st c.requires.wish).0;
    closes = closes_as _ _ c.args.session.now c.requires.wish refl;
    reads = reads_as _ _ c.args.session.now c.requires.wish refl;
    no_turn = record { turns_same = λ past. refl; stops_same = λ past. refl };
    rose = c.in-Failed.ensures.cause;
    blameless = λ e past. absurd (true≢false e);
    waitless = c.in-Failed.ensures.waitless;
    over = λ n past s st e. c.hear-in-Failed.ensures.over c.args.config.now n past s st e;
    ending = λ n past s st e. c.hear-in-Failed.ensures.ending c.args.config.now n past s st e;
  },
)

pub returns-in-Memory : goal.returns-in-Memory
returns-in-Memory g c = rw c.want.ensures.memory (
  record {
    did = c.in-Memory.ensures.act;
    stands = λ n past s st. c.want.ensures.cut.stands c.args.config.now n past s st c.requires.going;
    ending = λ n past s st e. absurd (true≢false (sym e ∙ c.requires.going));
    rose = c.in-Memory.ensures.cause;
    waitless = c.in-Memory.ensures.waitless;
  },
  c.requires.going,
  c.want.ensures.cut.over,
  c.want.ensures.cut.left,
  c.want.ensures.cut.ending,
)
