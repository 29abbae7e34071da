use Rattle.std.proofs.Common.{refl, sym, ap, ◌∙◌, ◌≡◌, ◌+◌, ◌*◌, arith, length}
use Rattle.socat_top.specs.Scripts.{piece_line, pieces}
use Rattle.socat_top.specs.Stream.{bytes_after, state_after}
use Rattle.socat_top.proofs.ScriptLemmas.{piece_state-more, pieces-more, pieces-none, script-reads}
use Rattle.socat_top.proofs.StreamLemmas.{length-bytes_after, state_after-none}
use Rattle.socat_top.proofs.load_worlds.add_pieces.Goals as goal

pub loop-moment-init : goal.loop-moment-init
loop-moment-init c = record {
  script = ap (λ lines. record c.args.world.now.script { reads = lines }) (sym (pieces-none c.args.world.now.script.reads c.args.session c.args.generator.now.state));
  state = sym (state_after-none c.args.generator.now.state);
  told = refl;
  held = λ p. refl;
}

pub add_read-requires : goal.add_read-requires
add_read-requires c =
    let some : length c.in_ok-piece.piece ≡ 512 = ap length c.in_ok-piece.ensures.bytes ∙ length-bytes_after 512 c.loop-moment.generator.state in
    omega arith

pub loop-moment-preserved : goal.loop-moment-preserved
loop-moment-preserved c =
    let x = c.args.generator.now.state in
    let k = c.loop-moment.moment in
    let s = c.args.session in
    let first = c.args.world.now.script in
    let bytes = c.in_ok-piece.ensures.bytes ∙ ap (bytes_after 512) c.loop-moment.invariant.state in
    record {
      script = script-reads first c.loop-moment.world.script c.add_read.new.self.script (pieces s k x) (pieces s (k + 1) x) (piece_line s k (state_after (k * 512) x)) c.loop-moment.invariant.script (rw (← bytes) (rw c.place_of.ensures at c.in_ok-add_read.ensures.added)) (pieces-more first.reads s k x);
      state = c.in_ok-piece.ensures.state ∙ ap (state_after 512) c.loop-moment.invariant.state ∙ piece_state-more k x;
      told = c.add_read.ensures.run.told ∙ c.loop-moment.invariant.told;
      held = λ p. c.add_read.ensures.run.held p ∙ c.loop-moment.invariant.held p;
    }
