use Rattle.std.proofs.Common.{refl, inl, true, false, Some}
use Rattle.std.proofs.lemmas.Bool.{true≢false}
use Rattle.relay_model.specs.declared.acts.Act.TheVariants as acts
use Rattle.relay_model.specs.Configs.{program_door}
use Rattle.session_driver.proofs.Doors.{door_apart}
use Rattle.session_driver.proofs.door_calls.listen.Goals as goal

pub returns-in-Listening : goal.returns-in-Listening
returns-in-Listening g c = (
  acts.Listening program_door,
  record {
    asked = Some (program_door, c.single.result.now);
    failed = false;
    did = rw c.program_door-place.ensures at c.in-Listening.ensures.act;
    own = (refl, rw c.program_door-place.ensures at c.single.ensures);
    heard = λ n past f. c.hear.ensures c.args.config.now n past f.stands f.wished f.legal f.at_is;
    apart = λ n past f s below. door_apart c.args.config.now s (acts.Listening program_door) f.stands.fork (λ p. refl);
    untimed = refl;
    unread = refl;
    no_turn = record { turns_same = λ past. refl; stops_same = λ past. refl };
    rose = c.in-Listening.ensures.cause;
    blameless = λ e past. refl;
    waitless = c.in-Listening.ensures.waitless;
  },
  λ n past f. record { ends_none = inl refl; admitted_same = refl },
)

pub returns-in-Failed : goal.returns-in-Failed
returns-in-Failed g c = (
  acts.ListenFailed program_door,
  record {
    asked = Some (program_door, c.single.result.now);
    failed = true;
    did = rw c.program_door-place.ensures at c.in-Failed.ensures.act;
    own = (refl, rw c.program_door-place.ensures at c.single.ensures);
    heard = λ n past f. c.hear-in-Failed.ensures c.args.config.now n past f.stands f.wished f.legal f.at_is;
    apart = λ n past f s below. door_apart c.args.config.now s (acts.ListenFailed program_door) f.stands.fork (λ p. refl);
    untimed = refl;
    unread = refl;
    no_turn = record { turns_same = λ past. refl; stops_same = λ past. refl };
    rose = c.in-Failed.ensures.cause;
    blameless = λ e past. absurd (true≢false e);
    waitless = c.in-Failed.ensures.waitless;
  },
  λ n past f. record { ends_none = inl refl; admitted_same = refl },
)
