use Rattle.std.proofs.Common.{◌≡◌, ◌++◌}
use Rattle.std.specs.Prelude.{decimal}
use Rattle.place_report.specs.Shown.{quoted}
use Rattle.place_report.proofs.Growing.{adds_two}
use Rattle.place_report.proofs.naming.say_peer.Goals as goal

pub returns : goal.returns
returns c =
    let host : c.quote.new.self ≡ c.say.new.self ++ quoted c.args.host.now = cc (c.in_ok-quote.ensures, c.as_slice.ensures) in
    let port : c.number.new.self ≡ c.say-2.new.self ++ decimal c.args.port = cc (c.in_ok-number.ensures, c.from.ensures) in
    adds_two _ _ _ _ _ _ _ _ _ _ _ c.in_ok-say.ensures host c.in_ok-say-2.ensures port c.in_ok-say-3.ensures
