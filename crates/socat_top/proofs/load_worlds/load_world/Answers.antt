use Rattle.std.proofs.Common.{sym, ap, ◌∙◌, ◌++◌}
use Rattle.socat_top.specs.Scripts.{pieces}
use Rattle.socat_top.specs.Stream.{state_after}
use Rattle.socat_top.proofs.ScriptLemmas.{script-more, script-none, state-more}
use Rattle.socat_top.proofs.StreamLemmas.{state_after-none}
use Rattle.socat_top.proofs.load_worlds.load_world.Goals as goal

pub loop-session-init : goal.loop-session-init
loop-session-init c = record {
  script = c.new-world.ensures.script ∙ script-none c.args.number;
  state = c.new-generator.ensures ∙ sym (state_after-none _);
  told = c.new-world.ensures.told;
  held = c.new-world.ensures.fresh.held;
}

pub loop-session-preserved : goal.loop-session-preserved
loop-session-preserved c =
    let n = c.args.number in
    let s = c.loop-session.session in
    record {
      script = script-more n s c.loop-session.world.script c.add_peer.new.world.script c.add_pieces.new.world.script c.add_ends.new.world.script c.add_writes.new.world.script c.loop-session.invariant.script c.in_ok-add_peer.ensures.script (c.in_ok-add_pieces.ensures.script ∙ ap (λ x. record c.add_peer.new.world.script { reads = c.add_peer.new.world.script.reads ++ pieces s 128 x }) c.loop-session.invariant.state) c.in_ok-add_ends.ensures.script c.in_ok-add_writes.ensures.script;
      state = c.in_ok-add_pieces.ensures.state ∙ ap (state_after 65536) c.loop-session.invariant.state ∙ state-more n s;
      told = c.add_writes.ensures.told ∙ c.add_ends.ensures.told ∙ c.add_pieces.ensures.told ∙ c.add_peer.ensures.told ∙ c.loop-session.invariant.told;
      held = λ p. c.add_writes.ensures.held p ∙ c.add_ends.ensures.held p ∙ c.add_pieces.ensures.held p ∙ c.add_peer.ensures.held p ∙ c.loop-session.invariant.held p;
    }
