use Rattle.std.proofs.Common.{◌≡◌, vec_len}
use Rattle.session_loop.specs.Runs.{RunsOn, rank}
use Rattle.session_loop.proofs.drains.drain.Given as goal

abbrev pub invariant-loop-pause : goal.invariant-loop-pause
invariant-loop-pause g l = record {
  runs : RunsOn l.config (g.W.World.seen l.initial.world) (g.W.World.seen l.world) l.initial.member l.member;
  room : vec_len l.scratch ≡ vec_len l.initial.scratch;
}

abbrev pub decreases-loop-pause : goal.decreases-loop-pause
decreases-loop-pause g l = rank l.member.session
