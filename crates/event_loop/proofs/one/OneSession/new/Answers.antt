use Rattle.std.proofs.Common.{arith}
use Rattle.event_loop.proofs.one.OneSession.new.Goals as goal

pub returns : goal.returns
returns c = λ n start free. record { course = c.in_ok-driver.ensures.1 n start free; within = (let e = c.in_ok-driver.ensures.0 in omega (arith, e)); room = omega (arith, c.in_ok-scratch.ensures) }
