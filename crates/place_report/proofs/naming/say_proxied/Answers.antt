use Rattle.std.proofs.Common.{◌≡◌, ◌++◌}
use Rattle.std.specs.Prelude.{decimal}
use Rattle.place_report.specs.Shown.{quoted}
use Rattle.place_report.proofs.Growing.{adds_three}
use Rattle.place_report.proofs.naming.say_proxied.Goals as goal

pub returns : goal.returns
returns c =
    let server : c.quote.new.self ≡ c.say.new.self ++ quoted c.args.server.now = cc (c.in_ok-quote.ensures, c.as_slice.ensures) in
    let host : c.quote-2.new.self ≡ c.say-2.new.self ++ quoted c.args.host.now = cc (c.in_ok-quote-2.ensures, c.as_slice-2.ensures) in
    let port : c.number.new.self ≡ c.say-3.new.self ++ decimal c.args.port = cc (c.in_ok-number.ensures, c.from.ensures) in
    adds_three _ _ _ _ _ _ _ _ _ _ _ _ _ _ _ c.in_ok-say.ensures server c.in_ok-say-2.ensures host c.in_ok-say-3.ensures port c.in_ok-say-4.ensures
