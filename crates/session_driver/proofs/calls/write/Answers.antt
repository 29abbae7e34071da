use Rattle.std.proofs.Common.{refl, ap, true, false, None, sym, ◌∙◌}
use Rattle.std.proofs.lemmas.Bool.{true≢false}
use Rattle.relay_model.specs.declared.acts.Act.TheVariants as acts
use Rattle.relay_session.specs.Conditions.{is_writing}
use Rattle.session_driver.proofs.Hearing.{heard_as, heard_bytes, front_taken}
use Rattle.session_driver.proofs.Owning.{own_by, at_own, closes_as, reads_as}
use Rattle.session_driver.proofs.calls.write.Goals as goal

pub returns-in-Took : goal.returns-in-Took
returns-in-Took g c = (
  _,
  λ past s. refl,
  record {
    asked = None;
    failed = false;
    did = c.in-Took.ensures.act;
    heard = λ n past s st. heard_bytes _ n past s c.args.place _ _ _ _ (front_taken c.pending.result.now _ c.in-Took.count c.pending.ensures.front c.in-Took.ensures.fits.1) (heard_as _ n past s _ _ _ _ c.requires.wish (c.hear.ensures.act c.args.config.now n past s st));
    own = λ n past s st. tt;
    here = λ n past s st. at_own _ s c.args.place _ (λ p. refl) refl (own_by _ n past s _ _ st c.requires.wish);
    closes = closes_as _ _ c.args.session.now c.requires.wish refl;
    reads = reads_as _ _ c.args.session.now c.requires.wish refl;
    no_turn = record { turns_same = λ past. refl; stops_same = λ past. refl };
    rose = c.in-Took.ensures.cause;
    blameless = λ e past. refl;
    waitless = c.in-Took.ensures.waitless;
    over = λ n past s st e. c.hear.ensures.over c.args.config.now n past s st e;
    ending = λ n past s st e. c.hear.ensures.ending c.args.config.now n past s st e;
  },
)

pub returns-in-NotYet : goal.returns-in-NotYet
returns-in-NotYet g c = (
  acts.WriteNotYet c.args.place,
  λ past s. refl,
  record {
    asked = None;
    failed = false;
    did = c.in-NotYet.ensures.act;
    heard = λ n past s st. heard_as _ n past s _ _ _ _ c.requires.wish (c.hear-in-NotYet.ensures.act c.args.config.now n past s st);
    own = λ n past s st. tt;
    here = λ n past s st. at_own _ s c.args.place _ (λ p. refl) refl (own_by _ n past s _ _ st c.requires.wish);
    closes = closes_as _ _ c.args.session.now c.requires.wish refl;
    reads = reads_as _ _ c.args.session.now c.requires.wish refl;
    no_turn = record { turns_same = λ past. refl; stops_same = λ past. refl };
    rose = c.in-NotYet.ensures.cause;
    blameless = λ e past. refl;
    waitless = c.in-NotYet.ensures.waitless;
    over = λ n past s st e. c.hear-in-NotYet.ensures.over c.args.config.now n past s st e;
    ending = λ n past s st e. c.hear-in-NotYet.ensures.ending c.args.config.now n past s st e;
  },
)

pub returns-in-Failed : goal.returns-in-Failed
returns-in-Failed g c = (
  c.requires.own,
  record {
    asked = None;
    failed = true;
    did = c.in-Failed.ensures.act;
    heard = λ n past s st. heard_as _ n past s _ _ _ _ c.requires.wish (c.hear-in-Failed.ensures.act c.args.config.now n past s st);
    own = λ n past s st. tt;
    here = λ n past s st. at_own _ s c.args.place _ (λ p. refl) refl (own_by _ n past s _ _ st c.requires.wish);
    closes = closes_as _ _ c.args.session.now c.requires.wish refl;
    reads = reads_as _ _ c.args.session.now c.requires.wish refl;
    no_turn = record { turns_same = λ past. refl; stops_same = λ past. refl };
    rose = c.in-Failed.ensures.cause;
    blameless = λ e past. absurd (true≢false e);
    waitless = c.in-Failed.ensures.waitless;
    over = λ n past s st e. c.hear-in-Failed.ensures.over c.args.config.now n past s st e;
    ending = λ n past s st e. c.hear-in-Failed.ensures.ending c.args.config.now n past s st e;
  },
)

pub returns-in-Memory : goal.returns-in-Memory
returns-in-Memory g c = rw c.want.ensures.memory (
  record {
    did = c.in-Memory.ensures.act;
    stands = λ n past s st. c.want.ensures.cut.stands c.args.config.now n past s st c.requires.going;
    ending = λ n past s st e. absurd (true≢false (sym e ∙ c.requires.going));
    rose = c.in-Memory.ensures.cause;
    waitless = c.in-Memory.ensures.waitless;
  },
  c.requires.going,
  c.want.ensures.cut.over,
  c.want.ensures.cut.left,
  c.want.ensures.cut.ending,
)

pub write-requires-clause-some : goal.write-requires-clause-some
write-requires-clause-some g c = let at = c.requires.meets in c.pending.ensures.offers c.args.config.now at.n at.past at.s at.stands (ap is_writing c.requires.wish)
