use Rattle.std.proofs.Common.{sym, ap, ◌∙◌, ◌++◌, ◌∷◌, []}
use Rattle.socat_top.specs.Stream.{byte_of, bytes_after, next_state}
use Rattle.socat_top.proofs.StreamLemmas.{bytes_after-none, bytes_after-push, state_after-none, state_after-push}
use Rattle.socat_top.proofs.streams.Generator.piece.Goals as goal

pub loop-init : goal.loop-init
loop-init c = record {
  state = sym (state_after-none c.args.self.now.state);
  bytes = c.in_ok-bytes.ensures.items ∙ sym (bytes_after-none c.args.self.now.state);
}

pub loop-preserved : goal.loop-preserved
loop-preserved c =
    let x = c.args.self.now.state in
    let k = c.loop.counter in
    record {
      state = c.byte.ensures.state ∙ ap next_state c.loop.invariant.state ∙ sym (state_after-push k x);
      bytes = c.in_ok-push.ensures.items ∙ ap (λ bs. bs ++ c.byte.result ∷ []) c.loop.invariant.bytes ∙ ap (λ b. bytes_after k x ++ b ∷ []) (c.byte.ensures.byte ∙ ap (λ y. byte_of (next_state y)) c.loop.invariant.state) ∙ sym (bytes_after-push k x);
    }
