use Rattle.std.proofs.Common.{refl, ap, ◌∙◌, arith}
use Rattle.relay_model.specs.declared.commands.Options.{Options}
use Rattle.event_loop.proofs.Begun.{begun, door_asked}
use Rattle.event_loop.proofs.all_sessions.Sessions.new.Goals as goal

pub returns-clause-begins : goal.returns-clause-begins
returns-clause-begins c = λ n start free. begun c.args.config.now n start _ c.requires c.new-door.ensures refl refl refl (omega (arith, c.in_ok-scratch.ensures)) c.new-table.ensures.admitted (c.new-table.ensures.children ∙ ap (λ (o : Options). o.sessions.max_children) (door_asked c.args.config.now _ _ c.program_door.ensures c.options_of-options.ensures)) (c.new-table.ensures.stop ∙ ap (λ (o : Options). o.sessions.stop_after) (door_asked c.args.config.now _ _ c.program_door.ensures c.options_of-options.ensures)) c.new-table.ensures.rows c.new-timers.ensures.moments free
