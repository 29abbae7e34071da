use Rattle.desk_places.specs.PlaceTables.{base_at}
use Rattle.port_desk.proofs.FollowLemmas.{starts_from, unbased}
use Rattle.port_desk.proofs.desk.Desk+M+P+I+O+E.follow.Goals as goal

pub with_beginning-requires : goal.with_beginning-requires
with_beginning-requires g c =
    let desk = c.args.self in
    starts_from g.B.Beginning.start desk.log.recording.told (base_at desk.log.places.entries) desk.ports.table.input.port.gave desk.ports.table.output.port.took desk.ports.table.errors.port.took desk.ports.table.input.port.ended c.requires.start (unbased desk.log.places.entries c.requires.free)
