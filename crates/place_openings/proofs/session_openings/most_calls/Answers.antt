use Rattle.std.proofs.Common.{arith}
use Rattle.place_openings.proofs.Counting.{most_within}
use Rattle.place_openings.proofs.session_openings.most_calls.Goals as goal

pub loop-openings-init : goal.loop-openings-init
loop-openings-init c = (omega arith, omega (arith, most_within c.args.openings.now, c.requires))
