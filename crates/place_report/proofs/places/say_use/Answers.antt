use Rattle.std.proofs.Common.{◌≡◌, ◌++◌}
use Rattle.place_report.specs.Places.{use_words}
use Rattle.place_report.proofs.Growing.{grown_by_three}
use Rattle.place_report.proofs.places.say_use.Goals as goal

pub returns : goal.returns
returns c =
    let words : c.say-2.new.self ≡ c.say.new.self ++ use_words c.args.used.read c.args.used.written = cc (c.in_ok-say-2.ensures, c.use_words.ensures) in
    grown_by_three _ _ _ _ _ _ _ c.in_ok-say.ensures words c.in_ok-end_line.ensures
