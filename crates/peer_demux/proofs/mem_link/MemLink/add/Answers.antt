use Rattle.std.proofs.Common.{arith}
use Rattle.std.proofs.lemmas.List.{length-append}
use Rattle.peer_demux.specs.declared.mem_link.LinkItem.{LinkItem}
use Rattle.peer_demux.proofs.Given.{fit_push}
use Rattle.peer_demux.proofs.mem_link.MemLink.add.Goals as goal

pub invariant_of-self-2 : goal.invariant_of-self-2
invariant_of-self-2 c =
    let held = c.self.invariant in
    rw c.in_ok-push.ensures.items (fit_push _ _ held.0 c.requires, omega (arith, held.1, length-append {A = LinkItem}))
