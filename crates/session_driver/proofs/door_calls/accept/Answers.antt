use Rattle.std.proofs.Common.{refl, sym, ◌∙◌, inl, false, None}
use Rattle.relay_model.specs.declared.acts.Act.TheVariants as acts
use Rattle.relay_model.specs.Configs.{program_door}
use Rattle.session_driver.proofs.Doors.{door_apart, next_apart, permitted_by}
use Rattle.session_driver.proofs.door_calls.accept.Goals as goal

pub returns-then-admitted_count-before : goal.returns-then-admitted_count-before
returns-then-admitted_count-before g c = (
  acts.Accepted c.args.place c.in-Accepted.peer,
  record {
    asked = None;
    failed = false;
    did = c.in-Accepted.ensures.act;
    own = tt;
    heard = λ n past f. c.hear.ensures c.args.config.now n past f.stands f.wished f.legal f.at_is;
    apart = λ n past f s below. next_apart c.args.config.now past s c.args.place (acts.Accepted c.args.place c.in-Accepted.peer) f.wished.0 below (λ p. refl);
    untimed = refl;
    unread = refl;
    no_turn = record { turns_same = λ past. refl; stops_same = λ past. refl };
    rose = c.in-Accepted.ensures.cause;
    blameless = λ e past. refl;
    waitless = c.in-Accepted.ensures.waitless;
  },
  λ n past f. record {
    ends_none = inl refl;
    admitted_same = (
        let h = c.hear.ensures c.args.config.now n past f.stands f.wished f.legal f.at_is in
        sym (c.admitted_count.ensures c.args.config.now _ h.stands) ∙ c.if-admitted_count-before.true ∙ c.admitted_count-before.ensures c.args.config.now past f.stands);
  },
)

pub returns-else-admitted_count-before : goal.returns-else-admitted_count-before
returns-else-admitted_count-before g c = (
  c.args.place,
  record {
    asked = None;
    failed = false;
    did = c.in-Accepted.ensures.act;
    own = tt;
    heard = λ n past f. c.hear.ensures c.args.config.now n past f.stands f.wished f.legal f.at_is;
    apart = λ n past f s below. next_apart c.args.config.now past s c.args.place (acts.Accepted c.args.place c.in-Accepted.peer) f.wished.0 below (λ p. refl);
    untimed = refl;
    unread = refl;
    no_turn = record { turns_same = λ past. refl; stops_same = λ past. refl };
    rose = c.in-Accepted.ensures.cause;
    blameless = λ e past. refl;
    waitless = c.in-Accepted.ensures.waitless;
  },
  λ n past f. record {
    place_is = f.wished.0;
    called = f.wished.1;
    permitted = permitted_by c.args.config.now past c.args.place c.in-Accepted.peer (λ e.
        let h = c.hear.ensures c.args.config.now n past f.stands f.wished f.legal f.at_is in
        c.if-admitted_count-before.false (c.admitted_count.ensures c.args.config.now _ h.stands ∙ e ∙ sym (c.admitted_count-before.ensures c.args.config.now past f.stands)));
  },
)

pub returns-in-NoPeer : goal.returns-in-NoPeer
returns-in-NoPeer g c = (
  acts.NoPeer program_door,
  record {
    asked = None;
    failed = false;
    did = rw c.program_door.ensures at c.in-NoPeer.ensures.act;
    own = tt;
    heard = λ n past f. c.hear-in-NoPeer.ensures c.args.config.now n past f.stands f.wished f.legal f.at_is;
    apart = λ n past f s below. door_apart c.args.config.now s (acts.NoPeer program_door) f.stands.fork (λ p. refl);
    untimed = refl;
    unread = refl;
    no_turn = record { turns_same = λ past. refl; stops_same = λ past. refl };
    rose = c.in-NoPeer.ensures.cause;
    blameless = λ e past. refl;
    waitless = c.in-NoPeer.ensures.waitless;
  },
  λ n past f. record { ends_none = inl refl; admitted_same = refl },
)
