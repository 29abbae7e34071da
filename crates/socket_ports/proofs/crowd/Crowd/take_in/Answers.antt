use Rattle.socket_ports.proofs.crowd.Crowd.take_in.Goals as goal

pub returns-clause-gathered : goal.returns-clause-gathered
returns-clause-gathered g c =
    let told = c.fill-filled.ensures.taken in
    rw (c.turn_away.ensures.link, ← c.self.view_is) (c.fill-filled.new.self.table, told.0, told.1, c.turn_away.ensures.table)
