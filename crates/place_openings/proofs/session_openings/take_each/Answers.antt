use Rattle.std.proofs.Common.{arith, add-one}
use Rattle.place_openings.proofs.Taking.{one_more, all_taken}
use Rattle.place_openings.proofs.session_openings.take_each.Goals as goal

pub loop-opening-preserved : goal.loop-opening-preserved
loop-opening-preserved c =
    let k = c.take.ensures in
    rw add-one (one_more c.args.step c.loop-opening.opening-index _ _ c.take.new.self c.opening-item.result c.loop-opening.invariant (omega arith) (record { goes = k.goes; apart = k.apart; fewer = k.fewer; asked = k.asked; still = k.still }))

pub returns : goal.returns
returns c = all_taken c.args.step c.loop-opening.opening-index _ _ c.loop-opening.invariant (omega arith)
