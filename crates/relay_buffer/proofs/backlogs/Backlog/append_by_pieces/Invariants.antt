use Rattle.std.proofs.Common.{◌≡◌, ◌++◌, length}
use Rattle.line_ends.specs.Converted.{converted}
use Rattle.relay_buffer.specs.Backlogs.{held_bytes, IsSameStore}
use Rattle.relay_buffer.proofs.backlogs.Backlog.append_by_pieces.Given as goal

abbrev pub invariant-loop-rest : goal.invariant-loop-rest
invariant-loop-rest l = record {
  bytes : held_bytes l.self ++ converted l.how l.rest ≡ held_bytes l.initial.self ++ converted l.how l.bytes;
  store : IsSameStore l.initial.self l.self;
}

abbrev pub decreases-loop-rest : goal.decreases-loop-rest
decreases-loop-rest l = length l.rest
