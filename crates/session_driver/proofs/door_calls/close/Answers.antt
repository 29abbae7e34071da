use Rattle.std.proofs.Common.{refl, false, None}
use Rattle.std.proofs.lemmas.Bool.{false≢true}
use Rattle.relay_model.specs.declared.acts.Act.TheVariants as acts
use Rattle.program_door.specs.declared.wishes.DoorAnswer.TheVariants as answers
use Rattle.session_driver.proofs.Doors.{closing, heard_as}
use Rattle.session_driver.proofs.door_calls.close.Goals as goal

pub returns : goal.returns
returns g c = (
  acts.Closed c.args.place c.args.why,
  record {
    asked = None;
    failed = false;
    did = c.close.ensures.act;
    own = tt;
    heard = λ n past f. heard_as c.args.config.now n past c.args.wish answers.Closed _ _ _ c.requires.act (c.hear.ensures c.args.config.now n past f.stands f.wished f.legal f.at_is);
    apart = λ n past f. (closing c.args.config.now past c.args.wish _ f.stands.fork f.wished c.requires.act).apart;
    untimed = refl;
    unread = refl;
    no_turn = record { turns_same = λ past. refl; stops_same = λ past. refl };
    rose = record { later = c.close.ensures.faults; rose = λ e. absurd (false≢true e) };
    blameless = λ e past. refl;
    waitless = c.close.ensures.waitless;
  },
  λ n past f. record { ends_none = (closing c.args.config.now past c.args.wish _ f.stands.fork f.wished c.requires.act).ends_none; admitted_same = refl },
)
