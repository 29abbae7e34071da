use Rattle.std.proofs.Common.{◌≡◌, ◌++◌, ap, ◌∙◌}
use Rattle.relay_model.specs.Configs.{formed}
use Rattle.place_report.specs.Shown.{said}
use Rattle.place_report.specs.Places.{title_of}
use Rattle.command_report.proofs.Endings.{one_told}
use Rattle.command_report.proofs.sections.single_told.Goals as goal

pub returns : goal.returns
returns c =
    let read = c.is_formed.ensures ∙ ap (formed c.args.config.now) c.way_from.ensures in
    let written = c.is_formed-2.ensures ∙ ap (formed c.args.config.now) c.way_to.ensures in
    one_told (title_of c.args.side ++ said ": ") _ _ _ _ _ _ _ _ c.in_ok-page.ensures read written c.in_ok-say_ending.ensures
