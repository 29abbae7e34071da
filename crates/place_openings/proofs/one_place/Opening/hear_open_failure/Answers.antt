use Rattle.std.proofs.Common.{◌≡◌, true, sym, ◌∙◌, arith}
use Rattle.std.proofs.lemmas.Grind.{common_steps}
use Rattle.relay_model.specs.Places.{same_place}
use Rattle.place_openings.specs.Stands.{tried_at}
use Rattle.place_openings.proofs.Failing.{noted_here, last_here, none_elsewhere}
use Rattle.place_openings.proofs.PlaceLemmas.{apart_by_kind}
use Rattle.place_openings.proofs.one_place.Opening.hear_open_failure.Goals as goal

pub returns-then-is-clause-goes : goal.returns-then-is-clause-goes
returns-then-is-clause-goes c = λ cfg past p i unlisten same.
    let here : same_place c.args.place (tried_at c.args.self.now.has_door p) ≡ true = cc in
    record {
      no_door = i.no_door;
      place_is = i.place_is;
      listens_is = i.listens_is;
      has_door_is = i.has_door_is;
      is_child_is = i.is_child_is;
      filter_is = i.filter_is;
      stage_is = grind (arith, common_steps);
      woken_is = i.woken_is;
      door_is = grind (arith, common_steps);
      armed_is = i.armed_is;
      asked_is = i.asked_is;
      tries_are = rw (noted_here _ _ _ _ here same) (c.failed.ensures _ _ _ _ i.tries_are);
      tried_is = λ _. last_here _ _ _ here;
      untried = λ h. none_elsewhere _ _ _ (apart_by_kind cfg c.args.place p unlisten (sym i.listens_is ∙ h)) (i.untried h);
      closed_is = i.closed_is;
      asked_child_is = i.asked_child_is;
    }
