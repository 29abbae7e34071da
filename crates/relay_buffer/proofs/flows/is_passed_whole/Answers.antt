use Rattle.std.proofs.Common.{◌≡◌, ℕ, Bool, true, false, not, List, refl, sym, ap, ◌∙◌}
use Rattle.relay_model.specs.Conversions.{read_converted, write_converted}
use Rattle.relay_model.specs.declared.commands.Conv.TheVariants.{Plain}
use Rattle.line_ends.specs.declared.Convs.{Convs}
use Rattle.line_ends.specs.Converted.{converted}
use Rattle.relay_buffer.proofs.EscapeLemmas.{before_escape-all}
use Rattle.relay_buffer.proofs.flows.is_passed_whole.Goals as goal

plain_converted : (how : Convs) (bytes : List ℕ) → how.read ≡ Plain → how.write ≡ Plain → converted how bytes ≡ bytes
plain_converted how bytes read write =
    ap (λ conv. write_converted how.write (read_converted conv bytes)) read
    ∙ ap (λ conv. write_converted conv bytes) write

is_off : (b : Bool) → not b ≡ true → b ≡ false
is_off true off = sym off
is_off false off = refl

pub returns-in-None-Plain-Plain : goal.returns-in-None-Plain-Plain
returns-in-None-Plain-Plain c = λ lacking.
    let arm = c.in-None-Plain-Plain in
    let lacks = sym c.up_to_escape.ensures.met ∙ is_off c.up_to_escape.result.1 lacking in record {
      stream = arm.is-0;
      plain = plain_converted c.args.lane.how c.args.bytes.now arm.is-1 arm.is-2;
      whole = before_escape-all c.args.lane.escape c.args.bytes.now lacks;
      lacks = lacks;
    }
