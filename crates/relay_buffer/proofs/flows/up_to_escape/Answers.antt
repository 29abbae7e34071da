use Rattle.std.proofs.Common.{None, Some, refl, sym, ap, ◌∙◌}
use Rattle.relay_model.specs.Conversions.{before_escape, holds_escape}
use Rattle.relay_buffer.proofs.EscapeLemmas.{escape_found, no_escape}
use Rattle.relay_buffer.proofs.flows.up_to_escape.Goals as goal

pub returns-in-None-clause-kept : goal.returns-in-None-clause-kept
returns-in-None-clause-kept c =
    sym (ap (λ o. before_escape o c.args.bytes.now) c.in-Some.is ∙ (no_escape c.in-Some.escape c.args.bytes.now None refl c.in-None.ensures).0)

pub returns-in-None-clause-met : goal.returns-in-None-clause-met
returns-in-None-clause-met c =
    sym (ap (λ o. holds_escape o c.args.bytes.now) c.in-Some.is ∙ (no_escape c.in-Some.escape c.args.bytes.now None refl c.in-None.ensures).1)

pub returns-in-Some-memchr-clause-kept : goal.returns-in-Some-memchr-clause-kept
returns-in-Some-memchr-clause-kept c =
    let at = c.in-Some-memchr.at in
    sym (ap (λ o. before_escape o c.args.bytes.now) c.in-Some.is ∙ (escape_found c.in-Some.escape c.args.bytes.now (Some at) at refl c.in-Some-memchr.ensures).0)
