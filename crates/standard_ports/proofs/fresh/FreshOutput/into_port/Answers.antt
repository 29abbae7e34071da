use Rattle.std.proofs.Common.{refl}
use Rattle.standard_ports.proofs.FirstBytes.{none_told, unwritten}
use Rattle.standard_ports.proofs.fresh.FreshOutput.into_port.Goals as goal

pub returns-clause-told : goal.returns-clause-told
returns-clause-told g c = unwritten _ _ c.args.self.port (λ _. refl) (λ _. refl) c.args.self.unwritten

pub returns-clause-none : goal.returns-clause-none
returns-clause-none g c = none_told _ (unwritten _ _ c.args.self.port (λ _. refl) (λ _. refl) c.args.self.unwritten)
