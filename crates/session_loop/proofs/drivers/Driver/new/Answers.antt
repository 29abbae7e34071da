use Rattle.std.proofs.Common.{refl}
use Rattle.session_loop.proofs.Going.{begun}
use Rattle.session_loop.proofs.drivers.Driver.new.Goals as goal

pub returns : goal.returns
returns c = (refl, λ n start free. begun c.args.config.now n start _ c.requires (c.in_ok-session.ensures.stands n) refl refl c.new-3.ensures free)
