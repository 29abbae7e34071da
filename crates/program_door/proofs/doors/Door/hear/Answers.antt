use Rattle.program_door.proofs.doors.Door.hear.Goals as goal

pub returns-in-Listen-Listening : goal.returns-in-Listen-Listening
returns-in-Listen-Listening c = λ cfg n past s w legal now.
    let k = rw c.in-Listen-Listening.is-0 at w in
    rw (c.in-Listen-Listening.is-0, c.in-Listen-Listening.is-1) (c.hear_listening.ensures cfg n past s k)

pub returns-in-Listen-Failed : goal.returns-in-Listen-Failed
returns-in-Listen-Failed c = λ cfg n past s w legal now.
    let k = rw c.in-Listen-Failed.is-0 at w in
    rw (c.in-Listen-Failed.is-0, c.in-Listen-Failed.is-1) (c.hear_listen_failure.ensures cfg n past s k now)

pub returns-in-Accept-Accepted : goal.returns-in-Accept-Accepted
returns-in-Accept-Accepted c = λ cfg n past s w legal now.
    let k = rw c.in-Accept-Accepted.is-0 at w in
    rw (c.in-Accept-Accepted.is-0, c.in-Accept-Accepted.is-1, k.0) (c.hear_peer.ensures cfg n past s k.1 k.2 legal)

pub returns-in-Accept-NoPeer : goal.returns-in-Accept-NoPeer
returns-in-Accept-NoPeer c = λ cfg n past s w legal now.
    let k = rw c.in-Accept-NoPeer.is-0 at w in
    rw (c.in-Accept-NoPeer.is-0, c.in-Accept-NoPeer.is-1) (c.hear_no_peer.ensures cfg n past s k.1 k.2)

pub returns-in-Accept-Failed : goal.returns-in-Accept-Failed
returns-in-Accept-Failed c = λ cfg n past s w legal now.
    let k = rw c.in-Accept-Failed.is-0 at w in
    rw (c.in-Accept-Failed.is-0, c.in-Accept-Failed.is-1) (c.hear_accept_failure.ensures cfg n past s k.1 k.2)

pub returns-in-Refuse-Closed : goal.returns-in-Refuse-Closed
returns-in-Refuse-Closed c = λ cfg n past s w legal now.
    let k = rw c.in-Refuse-Closed.is-0 at w in
    rw (c.in-Refuse-Closed.is-0, c.in-Refuse-Closed.is-1, k.0) (c.hear_refusal.ensures cfg n past s k.1)

pub returns-in-Serve-Closed : goal.returns-in-Serve-Closed
returns-in-Serve-Closed c = λ cfg n past s w legal now.
    let k = rw c.in-Serve-Closed.is-0 at w in
    rw (c.in-Serve-Closed.is-0, c.in-Serve-Closed.is-1) (c.hear_serving.ensures cfg n past s k)

pub returns-in-End-Closed : goal.returns-in-End-Closed
returns-in-End-Closed c = λ cfg n past s w legal now.
    let k = rw c.in-End-Closed.is-0 at w in
    rw (c.in-End-Closed.is-0, c.in-End-Closed.is-1) (c.hear_ending.ensures cfg n past _ s k)
