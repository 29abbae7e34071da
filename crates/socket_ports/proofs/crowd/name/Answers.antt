use Rattle.socket_ports.proofs.Appending.{extends_pushed}
use Rattle.socket_ports.proofs.crowd.name.Goals as goal

pub returns : goal.returns
returns c = extends_pushed c.push.result _ _ _ c.push.ensures.pushed c.push.ensures.refused
