use Rattle.std.proofs.Common.{◌≡◌, [], length, sum, ap, ◌∙◌, arith, subst}
use Rattle.relay_model.specs.declared.commands.Config.{Config}
use Rattle.session_loop.specs.Headline.{RelayHeadline}
use Rattle.socat_top.specs.Command.{load_turns}
use Rattle.socat_top.specs.Numbered.{named, told_named}
use Rattle.socat_top.specs.Summaries.{summary_of}
use Rattle.socat_top.specs.Sums.{delivered}
use Rattle.world_trait.specs.Recordings.{told_kept}
use Rattle.socat_top.proofs.Whole.{few_bytes, generated}
use Rattle.socat_top.proofs.generated.sum_up.Goals as goal

pub of-requires : goal.of-requires
of-requires c =
    let n = c.args.number in
    let world = c.relay.new.world in
    let P : Config → Type 0 = λ k. RelayHeadline k load_turns (named n (record { acts = []; asked = [] })) (told_named world.number (told_kept world.world.kept)) c.relay.result in
    let headline = subst P c.requires.command (c.relay.ensures.headline (named n (record { acts = []; asked = [] })) c.requires.told) in
    let few = few_bytes n world.number world.world.kept world.world.script.reads c.relay.result headline world.gives in
    let bytes : length (delivered c.journal.result.now.acts) ≡ length (delivered world.world.kept.journal.acts) = ap (λ acts. length (delivered acts)) c.journal.ensures in
    let sums : sum (delivered c.journal.result.now.acts) ≡ sum (delivered world.world.kept.journal.acts) = ap (λ acts. sum (delivered acts)) c.journal.ensures in
    record {
      bytes = omega (arith, few.0, bytes);
      sum = omega (arith, few.1, sums);
    }

pub returns-in_default : goal.returns-in_default
returns-in_default c =
    let n = c.args.number in
    let world = c.relay.new.world in
    let P : Config → Type 0 = λ k. RelayHeadline k load_turns (named n (record { acts = []; asked = [] })) (told_named world.number (told_kept world.world.kept)) c.relay.result in
    let headline = subst P c.requires.command (c.relay.ensures.headline (named n (record { acts = []; asked = [] })) c.requires.told) in
    generated n world.number world.world.kept world.world.script.reads c.relay.result c.of.result headline c.in_default.not-Memory world.gives (c.of.ensures ∙ ap (summary_of n) c.journal.ensures)
