use Rattle.std.proofs.Common.{sym, ap, ◌∙◌, slice_get, arith}
use Rattle.relay_model.specs.Readiness.{Listed}
use Rattle.event_loop.proofs.Hearing.{none_named, door_named, row_named}
use Rattle.event_loop.proofs.all_sessions.Sessions.hear_named.Goals.{then-not-is_program_door, else-not-is_program_door}
use Rattle.event_loop.proofs.all_sessions.Sessions.hear_named.Goals as goal

pub loop-i-init : goal.loop-i-init
loop-i-init g c = record { heard = none_named c.args.config.now c.args.self.now; looks = omega arith }

pub loop-i-preserved : goal.loop-i-preserved
loop-i-preserved g c =
    let got = (ap (λ (l : Listed). slice_get l.entries c.loop-i.i) (sym c.loop-i.invariant.heard.same.ready_same) ∙ c.get.ensures) in
    elim c.if-not-is_program_door.branch [
      | then-not-is_program_door w ↦ rw (w.self-is, w.steps-is) (record { heard = row_named c.args.config.now c.args.self.now c.loop-i.self w.hear_row.new.self c.loop-i.i c.get.result c.requires got (sym c.is_program_door.ensures ∙ w.if-not-is_program_door.true) c.loop-i.invariant.heard w.hear_row.ensures.heard; looks = (let l = c.loop-i.invariant.looks in let m = w.hear_row.ensures.looks in omega (arith, l, m)) })
      | else-not-is_program_door w ↦ rw (w.self-is, w.steps-is) (record { heard = door_named c.args.config.now c.args.self.now c.loop-i.self c.loop-i.i c.get.result got (sym c.is_program_door.ensures ∙ w.if-not-is_program_door.false) c.loop-i.invariant.heard; looks = (let l = c.loop-i.invariant.looks in omega (arith, l)) })
    ]
