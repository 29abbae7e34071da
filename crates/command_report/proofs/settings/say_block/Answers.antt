use Rattle.std.proofs.Common.{◌≡◌, ◌*◌, ◌++◌}
use Rattle.std.specs.Prelude.{decimal}
use Rattle.place_report.proofs.Growing.{grown_by_six}
use Rattle.command_report.proofs.settings.say_block.Goals as goal

pub returns : goal.returns
returns c =
    let one : c.number.new.self ≡ c.say.new.self ++ decimal c.args.block = cc (c.in_ok-number.ensures, c.from.ensures) in
    let two : c.number-2.new.self ≡ c.say-2.new.self ++ decimal (2 * c.args.block) = cc (c.in_ok-number-2.ensures, c.from-2.ensures) in
    grown_by_six _ _ _ _ _ _ _ _ _ _ _ _ _ c.in_ok-say.ensures one c.in_ok-say-2.ensures two c.in_ok-say-3.ensures c.in_ok-end_line.ensures
