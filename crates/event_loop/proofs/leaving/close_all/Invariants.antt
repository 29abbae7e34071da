use Rattle.std.proofs.Common.{◌≡◌, vec_len}
use Rattle.relay_session.specs.Sessions.{left_of}
use Rattle.event_loop.specs.Closings.{LeavesOn}
use Rattle.event_loop.proofs.leaving.close_all.Given as goal

abbrev pub invariant-loop-why : goal.invariant-loop-why
invariant-loop-why g l = record {
  leaves : LeavesOn l.config (g.W.World.seen l.initial.world) (g.W.World.seen l.world) l.why l.initial.session l.session l.initial.door l.door;
  room : vec_len l.scratch ≡ vec_len l.initial.scratch;
}

abbrev pub decreases-loop-why : goal.decreases-loop-why
decreases-loop-why g l = left_of l.session
