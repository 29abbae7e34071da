use Rattle.std.proofs.Common.{◌≡◌, ap, ◌∙◌}
use Rattle.relay_model.specs.Configs.{formed}
use Rattle.place_report.specs.Places.{title_of}
use Rattle.command_report.proofs.Endings.{both_told}
use Rattle.command_report.proofs.sections.dual_told.Goals as goal

pub returns : goal.returns
returns c =
    let read = c.is_formed.ensures ∙ ap (formed c.args.config.now) c.way_from.ensures in
    let written = c.is_formed-2.ensures ∙ ap (formed c.args.config.now) c.way_to.ensures in
    both_told (title_of c.args.side) _ _ _ _ _ _ _ _ _ _ _ c.in_ok-page.ensures c.in_ok-place_told.ensures read written c.in_ok-append.ensures c.in_ok-say_ending.ensures
