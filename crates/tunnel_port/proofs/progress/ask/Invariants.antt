use Rattle.std.proofs.Common.{◌≡◌, ◌-◌, ◌≤◌, length, take}
use Rattle.port_trait.specs.Counting.{Grew}
use Rattle.tunnel_port.specs.Talks.{IsOnly, nothing_of}
use Rattle.tunnel_port.proofs.progress.ask.Given as goal

-- what is written so far is a front of the request
abbrev pub invariant-loop-count : goal.invariant-loop-count
invariant-loop-count g l =
    (l.count ≤ length l.request)
    × IsOnly (take l.count l.request) (g.P.Port.seen l.inner).took
    × Grew (g.P.Port.seen l.fn.inner).counts (g.P.Port.seen l.inner).counts
    × (nothing_of (g.P.Port.seen l.inner).took ≡ nothing_of (g.P.Port.seen l.fn.inner).took)
    × ((g.P.Port.seen l.inner).gave ≡ (g.P.Port.seen l.fn.inner).gave)
    × ((g.P.Port.seen l.inner).ended ≡ (g.P.Port.seen l.fn.inner).ended)
    × ((g.P.Port.seen l.inner).empty_packets ≡ (g.P.Port.seen l.fn.inner).empty_packets)
    × ((g.P.Port.seen l.inner).shuts ≡ (g.P.Port.seen l.fn.inner).shuts)
    × ((g.P.Port.seen l.inner).begun ≡ (g.P.Port.seen l.fn.inner).begun)
    × ((g.P.Port.seen l.inner).child ≡ (g.P.Port.seen l.fn.inner).child)

abbrev pub decreases-loop-count : goal.decreases-loop-count
decreases-loop-count g l = length l.request - l.count
