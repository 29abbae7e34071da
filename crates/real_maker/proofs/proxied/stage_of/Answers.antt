use Rattle.real_maker.proofs.Wants.{asks_now, asks_later}
use Rattle.real_maker.proofs.proxied.stage_of.Goals as goal

pub returns-in-Now : goal.returns-in-Now
returns-in-Now c = rw c.in-Now.is (rw c.new.ensures (asks_now c.args.inner c.in-Now.request))

pub returns-in-Once : goal.returns-in-Once
returns-in-Once c = rw c.in-Once.is (asks_later c.args.inner c.in-Once.lookup c.in-Once.port c.in-Once.user)
