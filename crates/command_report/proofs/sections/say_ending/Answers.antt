use Rattle.std.proofs.Common.{◌≡◌, ◌++◌}
use Rattle.command_report.specs.Reports.{ending, ending_words}
use Rattle.place_report.proofs.Growing.{grown_by_three}
use Rattle.command_report.proofs.sections.say_ending.Goals as goal

pub returns : goal.returns
returns c =
    let words : c.say-2.new.self ≡ c.say.new.self ++ ending_words (ending c.args.config.now c.args.side) = cc (c.in_ok-say-2.ensures, c.ending_words.ensures, c.ending.ensures) in
    grown_by_three _ _ _ _ _ _ _ c.in_ok-say.ensures words c.in_ok-end_line.ensures
