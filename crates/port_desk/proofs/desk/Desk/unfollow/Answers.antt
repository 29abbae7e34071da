use Rattle.desk_places.specs.PlaceTables.{base_at}
use Rattle.port_desk.proofs.FollowLemmas.{passed_since}
use Rattle.port_desk.proofs.desk.Desk.unfollow.Goals as goal

pub with_beginning-requires : goal.with_beginning-requires
with_beginning-requires g c = record { follows = λ never. absurd never }

pub returns-clause-passed : goal.returns-clause-passed
returns-clause-passed g c =
    let desk = c.args.self in
    rw (c.with_beginning.ensures.0, c.with_beginning.ensures.2) (passed_since g.B.Beginning.start desk.log.recording.told (base_at desk.log.places.entries) desk.ports.table.input.port.gave desk.ports.table.output.port.took desk.ports.table.errors.port.took desk.ports.table.input.port.ended desk.follows)
