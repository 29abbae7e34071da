use Rattle.std.proofs.Common.{arith}
use Rattle.std.proofs.lemmas.Grind.{common_steps}
use Rattle.place_openings.proofs.Named.{woken_more, armed_more}
use Rattle.place_openings.proofs.one_place.Opening.hear_entry.Goals as goal

pub returns-clause-goes : goal.returns-clause-goes
returns-clause-goes c = λ cfg past p until at names i.
    record {
      no_door = i.no_door;
      place_is = i.place_is;
      listens_is = i.listens_is;
      has_door_is = i.has_door_is;
      is_child_is = i.is_child_is;
      filter_is = i.filter_is;
      stage_is = i.stage_is;
      woken_is = rw (woken_more past until at names c.args.entry p) (grind (arith, common_steps));
      door_is = i.door_is;
      armed_is = λ h. rw (armed_more past until at names c.args.entry _) (grind (arith, common_steps, i.armed_is h));
      asked_is = i.asked_is;
      tries_are = i.tries_are;
      tried_is = i.tried_is;
      untried = i.untried;
      closed_is = i.closed_is;
      asked_child_is = i.asked_child_is;
    }
