use Rattle.port_desk.proofs.desk.Desk.prepare_port.Goals as goal

pub invariant_of-self-4-clause-sound : goal.invariant_of-self-4-clause-sound
invariant_of-self-4-clause-sound g c = rw c.reserve-2.ensures.entries (c.reserve-3.ensures.sound _ (rw c.reserve.ensures.rest.places c.args.self.now.sound))

pub invariant_of-self-4-clause-follows : goal.invariant_of-self-4-clause-follows
invariant_of-self-4-clause-follows g c =
    let streams = c.reserve-3.ensures.streams in
    rw (c.reserve.ensures.rest.told, c.reserve-2.ensures.entries, c.reserve.ensures.rest.places, streams.input, streams.output, streams.errors) c.args.self.now.follows
