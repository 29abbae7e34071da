use Rattle.std.proofs.Common.{refl, sym, ap, ◌∙◌, ◌+◌}
use Rattle.socat_top.specs.Scripts.{session_writes, taking_line, waiting_line}
use Rattle.socat_top.proofs.ScriptLemmas.{script-writes, writes-more, writes-none}
use Rattle.socat_top.proofs.load_worlds.add_writes.Goals as goal

pub loop-init : goal.loop-init
loop-init c = record {
  script = ap (λ lines. record c.args.world.now.script { writes = lines }) (sym (writes-none c.args.world.now.script.writes c.args.session));
  told = refl;
  held = λ p. refl;
}

pub loop-preserved : goal.loop-preserved
loop-preserved c =
    let k = c.loop.counter in
    let s = c.args.session in
    let first = c.args.world.now.script in
    record {
      script = script-writes first c.loop.world.script c.add_write.new.self.script c.add_write-in-loop.new.self.script (session_writes s k) (session_writes s (k + 1)) (taking_line s) (waiting_line s) c.loop.invariant.script (rw c.place_of-place.ensures at c.in_ok-add_write.ensures.added) (rw c.place_of-place.ensures at c.in_ok-add_write-2.ensures.added) (writes-more first.writes s k);
      told = c.add_write-in-loop.ensures.run.told ∙ c.add_write.ensures.run.told ∙ c.loop.invariant.told;
      held = λ p. c.add_write-in-loop.ensures.run.held p ∙ c.add_write.ensures.run.held p ∙ c.loop.invariant.held p;
    }
