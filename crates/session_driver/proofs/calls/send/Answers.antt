use Rattle.std.proofs.Common.{refl, ap, true, false, length, None, sym, ◌∙◌}
use Rattle.std.proofs.lemmas.Bool.{true≢false}
use Rattle.relay_model.specs.declared.acts.Act.TheVariants as acts
use Rattle.relay_session.specs.Conditions.{is_writing}
use Rattle.session_driver.proofs.Hearing.{heard_as, heard_bytes, fits_as}
use Rattle.session_driver.proofs.Owning.{own_by, at_own, closes_as, reads_as}
use Rattle.session_driver.proofs.calls.send.Goals as goal

pub returns-in-Sent : goal.returns-in-Sent
returns-in-Sent g c = (
  _,
  λ past s. refl,
  record {
    asked = None;
    failed = false;
    did = c.in-Sent.ensures.act;
    heard = λ n past s st. heard_bytes _ n past s c.args.place _ _ _ _ c.pending-packet.ensures.front (heard_as _ n past s _ _ _ _ c.requires.wish (c.hear.ensures.act c.args.config.now n past s st));
    own = λ n past s st. tt;
    here = λ n past s st. at_own _ s c.args.place _ (λ p. refl) refl (own_by _ n past s _ _ st c.requires.wish);
    closes = closes_as _ _ c.args.session.now c.requires.wish refl;
    reads = reads_as _ _ c.args.session.now c.requires.wish refl;
    no_turn = record { turns_same = λ past. refl; stops_same = λ past. refl };
    rose = c.in-Sent.ensures.cause;
    blameless = λ e past. refl;
    waitless = c.in-Sent.ensures.waitless;
    over = λ n past s st e. c.hear.ensures.over c.args.config.now n past s st e;
    ending = λ n past s st e. c.hear.ensures.ending c.args.config.now n past s st e;
  },
)

pub returns-in-NotYet : goal.returns-in-NotYet
returns-in-NotYet g c = (
  acts.WriteNotYet c.args.place,
  λ past s. refl,
  record {
    asked = None;
    failed = false;
    did = c.in-NotYet.ensures.act;
    heard = λ n past s st. heard_as _ n past s _ _ _ _ c.requires.wish (c.hear-in-NotYet.ensures.act c.args.config.now n past s st);
    own = λ n past s st. tt;
    here = λ n past s st. at_own _ s c.args.place _ (λ p. refl) refl (own_by _ n past s _ _ st c.requires.wish);
    closes = closes_as _ _ c.args.session.now c.requires.wish refl;
    reads = reads_as _ _ c.args.session.now c.requires.wish refl;
    no_turn = record { turns_same = λ past. refl; stops_same = λ past. refl };
    rose = c.in-NotYet.ensures.cause;
    blameless = λ e past. refl;
    waitless = c.in-NotYet.ensures.waitless;
    over = λ n past s st e. c.hear-in-NotYet.ensures.over c.args.config.now n past s st e;
    ending = λ n past s st e. c.hear-in-NotYet.ensures.ending c.args.config.now n past s st e;
  },
)

pub returns-in-Failed : goal.returns-in-Failed
returns-in-Failed g c = (
  c.requires.own,
  record {
    asked = None;
    failed = true;
    did = c.in-Failed.ensures.act;
    heard = λ n past s st. heard_as _ n past s _ _ _ _ c.requires.wish (c.hear-in-Failed.ensures.act c.args.config.now n past s st);
    own = λ n past s st. tt;
    here = λ n past s st. at_own _ s c.args.place _ (λ p. refl) refl (own_by _ n past s _ _ st c.requires.wish);
    closes = closes_as _ _ c.args.session.now c.requires.wish refl;
    reads = reads_as _ _ c.args.session.now c.requires.wish refl;
    no_turn = record { turns_same = λ past. refl; stops_same = λ past. refl };
    rose = c.in-Failed.ensures.cause;
    blameless = λ e past. absurd (true≢false e);
    waitless = c.in-Failed.ensures.waitless;
    over = λ n past s st e. c.hear-in-Failed.ensures.over c.args.config.now n past s st e;
    ending = λ n past s st e. c.hear-in-Failed.ensures.ending c.args.config.now n past s st e;
  },
)

pub returns-in-Memory : goal.returns-in-Memory
returns-in-Memory g c = rw c.want.ensures.memory (
  record {
    did = c.in-Memory.ensures.act;
    stands = λ n past s st. c.want.ensures.cut.stands c.args.config.now n past s st c.requires.going;
    ending = λ n past s st e. absurd (true≢false (sym e ∙ c.requires.going));
    rose = c.in-Memory.ensures.cause;
    waitless = c.in-Memory.ensures.waitless;
  },
  c.requires.going,
  c.want.ensures.cut.over,
  c.want.ensures.cut.left,
  c.want.ensures.cut.ending,
)

pub send-requires-clause-some : goal.send-requires-clause-some
send-requires-clause-some g c = let at = c.requires.meets in c.pending-packet.ensures.offers c.args.config.now at.n at.past at.s at.stands (ap is_writing c.requires.wish)

pub send-requires-clause-packet : goal.send-requires-clause-packet
send-requires-clause-packet g c = let at = c.requires.meets in (c.pending-packet.ensures.packet c.args.config.now at.n at.past at.s c.args.place at.stands at.legal c.requires.wish).1

pub hear-requires : goal.hear-requires
hear-requires g c =
    let at = c.requires.meets in
    let whole = (c.pending-packet.ensures.packet c.args.config.now at.n at.past at.s c.args.place at.stands at.legal c.requires.wish).0 in
    fits_as _ _ c.args.session.now c.requires.wish (c.pending-packet.ensures.offers c.args.config.now at.n at.past at.s at.stands (ap is_writing c.requires.wish), ap length whole)
