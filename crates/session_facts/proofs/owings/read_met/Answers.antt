use Rattle.std.proofs.Common.{ap, ◌∙◌, cond}
use Rattle.relay_model.specs.Places.{same_place}
use Rattle.session_facts.proofs.Owed.{met_after}
use Rattle.session_facts.proofs.owings.read_met.Goals as goal

pub returns : goal.returns
returns c = rw (← c.config.ensures) (λ told p.
    c.in_ok-set.ensures p
    ∙ ap (λ b. cond (same_place c.args.place p) c.meets-after.result b) (told p)
    ∙ met_after c.config.result.now c.args.facts.now.acts c.args.place p c.args.bytes.now c.at-before.result c.meets-after.result c.got_length-count.result (c.at-before.ensures ∙ told c.args.place) c.got_length-count.ensures c.meets-after.ensures)
