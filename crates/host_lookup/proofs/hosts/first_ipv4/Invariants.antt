use Rattle.std.proofs.Common.{◌≡◌, drop}
use Rattle.std.specs.List.{find}
use Rattle.host_lookup.specs.Found.{has_ipv4}
use Rattle.host_lookup.proofs.hosts.first_ipv4.Given as goal

abbrev pub invariant-loop-addr : goal.invariant-loop-addr
invariant-loop-addr l = find has_ipv4 (drop l.addr-index l.addrs) ≡ find has_ipv4 l.addrs
