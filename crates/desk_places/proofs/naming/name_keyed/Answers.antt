use Rattle.std.proofs.Common.{inl, subst, true, length, ◌≡◌, ◌<◌, ◌∙◌, arith}
use Rattle.relay_model.specs.declared.places.Place.{Place}
use Rattle.relay_model.specs.Readiness.{names}
use Rattle.port_table.specs.declared.bases.Base.TheVariants as bases
use Rattle.desk_places.specs.PlaceTables.{hold_at}
use Rattle.desk_places.proofs.NamingLemmas.{based_held, grown_same, keyed_all, keyed_more, taken_out, taken_place}
use Rattle.desk_places.proofs.naming.name_keyed.Goals.{in-Some, in_default}
use Rattle.desk_places.proofs.naming.name_keyed.Goals as goal

pub loop-i-preserved : goal.loop-i-preserved
loop-i-preserved g c =
    let keys = c.args.keys.now.entries in
    let entries = c.args.places.now.entries in
    let key = c.get-key.result in
    let xs = c.loop-i.ready.entries in
    let before = c.loop-i.invariant in
    elim c.match-place_on.branch [
      | in-Some w ↦
          let ys = w.name.new.ready.entries in
          let fits : length xs < 256 = omega (arith, before.most, c.loop-i-test.true, c.len-i-end.ensures.bounded) in
          rw w.ready-is (record {
            room = w.name.ensures.list.room ∙ before.room;
            held = w.name.ensures.list.held (hold_at entries) (based_held entries w.in-Some.place (bases.Made key.0) w.in-Some.ensures.on) before.held;
            most = omega (arith, before.most, w.name.ensures.most);
            named = keyed_more keys entries c.loop-i.i key xs ys c.get-key.ensures w.name.ensures.list.grown before.named
                (λ p based. subst (λ (q : Place). names ys q key.1 ≡ true) (taken_place c.place_on.result w.in-Some.place p w.in-Some.is (c.place_on.ensures.only p based)) (w.name.ensures.fits fits));
            only = λ told. w.name.ensures.only keys told entries (inl (record { index = c.loop-i.i; key = key.0; entry = c.get-key.ensures; based = w.in-Some.ensures.on })) (before.only told);
          })
      | in_default w ↦
          rw w.ready-is (record {
            room = before.room;
            held = before.held;
            most = omega (arith, before.most);
            named = keyed_more keys entries c.loop-i.i key xs xs c.get-key.ensures (grown_same xs) before.named
                (λ p based. absurd (taken_out c.place_on.result p w.in_default.is (c.place_on.ensures.only p based)));
            only = before.only;
          })
    ]

pub returns-clause-named : goal.returns-clause-named
returns-clause-named g c = keyed_all c.args.keys.now.entries c.args.places.now.entries c.loop-i.i c.loop-i.ready.entries (omega (arith, c.loop-i-test.false, c.len-i-end.ensures.len)) c.loop-i.invariant.named
