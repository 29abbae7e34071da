use Rattle.std.specs.Prelude.{ℕ, List, length, ◌+◌, ◌≤◌}
use Rattle.relay_model.specs.declared.acts.Act.{Act}
use Rattle.world_trait.specs.Seen.{Seen}
use Rattle.event_loop.specs.Courses.{SessionsCourse, Keeps, SameRest}
use Rattle.event_loop.specs.Paid.{Paid}
use Rattle.event_loop.proofs.Paying.{RowsOn}
use Rattle.event_loop.proofs.all_sessions.Sessions.run_rows.Given as goal

abbrev pub invariant-loop-number : goal.invariant-loop-number
invariant-loop-number g l = record {
  keeps : Keeps l.config (g.W.World.seen l.initial.world) (g.W.World.seen l.world) l.initial.self l.self;
  same : SameRest l.initial.self l.self;
  looks : l.steps.ticks + length l.self.work.items ≤ l.initial.steps.ticks + length l.initial.self.work.items;
  paid : (n : ℕ) (start : Seen) (past : List Act) (k : ℕ) → SessionsCourse l.config n start (g.W.World.seen l.initial.world) past l.initial.self → Paid l.config past l.initial.self.work.items k → RowsOn l.config n start (g.W.World.seen l.world) past k l.initial.steps.ticks l.steps.ticks l.self;
}

abbrev pub decreases-loop-number : goal.decreases-loop-number
decreases-loop-number g l = length l.self.work.items
