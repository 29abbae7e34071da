use Rattle.std.proofs.Common.{refl, ap, ◌∙◌}
use Rattle.relay_model.specs.Configs.{program_door}
use Rattle.relay_model.specs.Holding.{is_free}
use Rattle.relay_model.specs.declared.stages.Stage.TheVariants.{Waiting}
use Rattle.relay_session.proofs.Possible.{unheld_free, held_taken, door_unshut}
use Rattle.relay_session.proofs.Standings.{standing_at, open_where_unshut}
use Rattle.program_door.specs.declared.wishes.DoorWish.TheVariants as wishes
use Rattle.program_door.proofs.Held.{tells}
use Rattle.session_driver.proofs.Doors.{step_for, wish_for}
use Rattle.session_driver.proofs.door_steps.step_door.Goals as goal

pub listen-requires : goal.listen-requires
listen-requires g c =
    let at = c.requires in let m = at.meets in
    at.holds program_door ∙ unheld_free c.args.config.now at.n at.past program_door m.legal (tells c.args.config.now at.past wishes.Listen (c.in-Listen.ensures c.args.config.now at.past m.stands m.at_is m.live_is))

pub accept-requires-clause-door : goal.accept-requires-clause-door
accept-requires-clause-door g c =
    let at = c.requires in let m = at.meets in
    let t = tells c.args.config.now at.past (wishes.Accept c.in-Accept.place) (c.in-Accept.ensures c.args.config.now at.past m.stands m.at_is m.live_is) in
    at.holds program_door ∙ open_where_unshut at.past program_door (standing_at c.args.config.now at.n at.past program_door Waiting m.legal t.0) (door_unshut c.args.config.now at.n at.past program_door refl m.legal)

pub accept-requires-clause-place : goal.accept-requires-clause-place
accept-requires-clause-place g c =
    let at = c.requires in let m = at.meets in
    let t = tells c.args.config.now at.past (wishes.Accept c.in-Accept.place) (c.in-Accept.ensures c.args.config.now at.past m.stands m.at_is m.live_is) in
    at.holds c.in-Accept.place ∙ unheld_free c.args.config.now at.n at.past c.in-Accept.place m.legal t.1

pub close-requires-clause-held : goal.close-requires-clause-held
close-requires-clause-held g c =
    let at = c.requires in let m = at.meets in
    let t = tells c.args.config.now at.past (wishes.Refuse c.in-Refuse.place) (c.in-Refuse.ensures c.args.config.now at.past m.stands m.at_is m.live_is) in
    ap is_free (at.holds c.in-Refuse.place) ∙ held_taken c.args.config.now at.n at.past c.in-Refuse.place m.legal t

pub close-requires-in-Serve-clause-held : goal.close-requires-in-Serve-clause-held
close-requires-in-Serve-clause-held g c =
    let at = c.requires in let m = at.meets in
    let t = tells c.args.config.now at.past wishes.Serve (c.in-Serve.ensures c.args.config.now at.past m.stands m.at_is m.live_is) in
    rw c.program_door.ensures (ap is_free (at.holds program_door) ∙ held_taken c.args.config.now at.n at.past program_door m.legal t)

pub close-requires-in-End-clause-held : goal.close-requires-in-End-clause-held
close-requires-in-End-clause-held g c =
    let at = c.requires in let m = at.meets in
    let t = tells c.args.config.now at.past (wishes.End c.in-End.place c.in-End.why) (c.in-End.ensures c.args.config.now at.past m.stands m.at_is m.live_is) in
    ap is_free (at.holds c.in-End.place) ∙ held_taken c.args.config.now at.n at.past c.in-End.place m.legal t

pub returns-in-Listen : goal.returns-in-Listen
returns-in-Listen g c = step_for c.args.config.now _ _ _ _ _ _ _ (λ n past f. wish_for c.args.config.now n past c.args.now c.args.live wishes.Listen c.args.door.now f (c.in-Listen.ensures c.args.config.now past f.stands f.at_is f.live_is)) c.listen.ensures

pub returns-in-Accept : goal.returns-in-Accept
returns-in-Accept g c = step_for c.args.config.now _ _ _ _ _ _ _ (λ n past f. wish_for c.args.config.now n past c.args.now c.args.live (wishes.Accept c.in-Accept.place) c.args.door.now f (c.in-Accept.ensures c.args.config.now past f.stands f.at_is f.live_is)) c.accept.ensures

pub returns-in-Refuse : goal.returns-in-Refuse
returns-in-Refuse g c = step_for c.args.config.now _ _ _ _ _ _ _ (λ n past f. wish_for c.args.config.now n past c.args.now c.args.live (wishes.Refuse c.in-Refuse.place) c.args.door.now f (c.in-Refuse.ensures c.args.config.now past f.stands f.at_is f.live_is)) c.close.ensures

pub returns-in-Serve : goal.returns-in-Serve
returns-in-Serve g c = step_for c.args.config.now _ _ _ _ _ _ _ (λ n past f. wish_for c.args.config.now n past c.args.now c.args.live wishes.Serve c.args.door.now f (c.in-Serve.ensures c.args.config.now past f.stands f.at_is f.live_is)) c.close-in-Serve.ensures

pub returns-in-End : goal.returns-in-End
returns-in-End g c = step_for c.args.config.now _ _ _ _ _ _ _ (λ n past f. wish_for c.args.config.now n past c.args.now c.args.live (wishes.End c.in-End.place c.in-End.why) c.args.door.now f (c.in-End.ensures c.args.config.now past f.stands f.at_is f.live_is)) c.close-in-End.ensures
