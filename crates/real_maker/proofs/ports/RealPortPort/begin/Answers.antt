use Rattle.std.proofs.Common.{ap, ◌∙◌}
use Rattle.std.specs.Box.{with_value}
use Rattle.real_maker.specs.declared.ports.RealPort.TheVariants as ports
use Rattle.real_maker.proofs.ports.RealPortPort.begin.Goals as goal

pub returns-in-Socks-clause-again : goal.returns-in-Socks-clause-again
returns-in-Socks-clause-again c = rw c.in-Socks.is (λ begun. let same = c.begin-in-Socks.ensures.again (rw c.deref_mut.ensures.value begun) in (same.0, ap (λ port. ports.Socks (with_value c.in-Socks.port port)) (same.1 ∙ c.deref_mut.ensures.value)))
