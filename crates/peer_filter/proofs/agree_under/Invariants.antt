use Rattle.std.proofs.Common.{◌≡◌, drop}
use Rattle.relay_model.specs.Permits.{is_same_under}
use Rattle.peer_filter.proofs.agree_under.Given as goal

abbrev pub invariant-loop-i : goal.invariant-loop-i
invariant-loop-i l = is_same_under l.mask l.one l.other ≡ is_same_under (drop l.i l.mask) (drop l.i l.one) (drop l.i l.other)
