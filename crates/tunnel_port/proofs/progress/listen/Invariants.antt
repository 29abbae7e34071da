use Rattle.std.proofs.Common.{◌≡◌, ◌-◌, true, length}
use Rattle.port_trait.specs.Counting.{Grew}
use Rattle.tunnel_port.specs.Talks.{IsOnly, StillHears, nothing_of}
use Rattle.tunnel_port.proofs.progress.listen.Given as goal

-- the reply goes on
abbrev pub invariant-loop-stage : goal.invariant-loop-stage
invariant-loop-stage g l =
    StillHears (g.T.Talk.judges l.talk) (g.T.Talk.heard l.talk) g.T.Talk.limit
    × IsOnly (g.T.Talk.heard l.talk) (g.P.Port.seen l.inner).gave
    × Grew (g.P.Port.seen l.fn.inner).counts (g.P.Port.seen l.inner).counts
    × (nothing_of (g.P.Port.seen l.inner).gave ≡ nothing_of (g.P.Port.seen l.fn.inner).gave)
    × (g.T.Talk.asks l.talk ≡ g.T.Talk.asks l.fn.talk)
    × ((g.P.Port.seen l.inner).took ≡ (g.P.Port.seen l.fn.inner).took)
    × ((g.P.Port.seen l.inner).ended ≡ true → (g.P.Port.seen l.fn.inner).ended ≡ true)
    × ((g.P.Port.seen l.inner).empty_packets ≡ (g.P.Port.seen l.fn.inner).empty_packets)
    × ((g.P.Port.seen l.inner).shuts ≡ (g.P.Port.seen l.fn.inner).shuts)
    × ((g.P.Port.seen l.inner).begun ≡ (g.P.Port.seen l.fn.inner).begun)
    × ((g.P.Port.seen l.inner).child ≡ (g.P.Port.seen l.fn.inner).child)

abbrev pub decreases-loop-stage : goal.decreases-loop-stage
decreases-loop-stage g l = g.T.Talk.limit - length (g.T.Talk.heard l.talk)
