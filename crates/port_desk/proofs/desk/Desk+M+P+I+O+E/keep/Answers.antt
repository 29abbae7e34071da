use Rattle.port_desk.proofs.Unheld.{no_entry}
use Rattle.port_desk.proofs.desk.Desk+M+P+I+O+E.keep.Goals as goal

pub keep-requires : goal.keep-requires
keep-requires g c = no_entry c.args.self.now.log.places.entries c.requires.free
