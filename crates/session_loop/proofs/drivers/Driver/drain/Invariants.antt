use Rattle.std.proofs.Common.{◌≡◌, vec_len, true}
use Rattle.relay_session.specs.Sessions.{has_ended}
use Rattle.session_loop.specs.Courses.{KeepsFor, rank}
use Rattle.session_loop.proofs.drivers.Driver.drain.Given as goal

abbrev pub invariant-loop-pause : goal.invariant-loop-pause
invariant-loop-pause g l = record {
  keeps : KeepsFor l.config (g.W.World.seen l.initial.world) (g.W.World.seen l.world) l.initial.self l.self;
  over : has_ended l.initial.self.session ≡ true → has_ended l.self.session ≡ true;
  made : l.self.made ≡ l.initial.self.made;
  room : vec_len l.scratch ≡ vec_len l.initial.scratch;
}

abbrev pub decreases-loop-pause : goal.decreases-loop-pause
decreases-loop-pause g l = rank l.self
