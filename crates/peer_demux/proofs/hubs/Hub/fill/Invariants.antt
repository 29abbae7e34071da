use Rattle.std.proofs.Common.{◌≡◌, ℕ, List, length, false}
use Rattle.peer_demux.specs.Hubs.{Absorbs, risen_by}
use Rattle.peer_demux.specs.Links.{Adds, Packet}
use Rattle.peer_demux.specs.Tables.{IsLive}
use Rattle.peer_demux.proofs.hubs.Hub.fill.Given as goal

abbrev pub invariant-loop : goal.invariant-loop
invariant-loop g l = record {
  taken : (more : List Packet) × Absorbs l.fn.self.table more l.self.table × Adds (g.L.Link.gave l.fn.self.link) (g.L.Link.gave l.self.link) more × (length more ≡ l.counter);
  lives : (row : ℕ) → IsLive l.fn.self.table.rows row → IsLive l.self.table.rows row;
  left_off : l.self.left_off ≡ false;
  faults : g.L.Link.faults l.self.link ≡ g.L.Link.faults l.fn.self.link;
  stalls : g.L.Link.stalls l.self.link ≡ g.L.Link.stalls l.fn.self.link;
  packets : g.L.Link.packets l.self.link ≡ risen_by l.counter (g.L.Link.packets l.fn.self.link);
  sent : g.L.Link.sent l.self.link ≡ g.L.Link.sent l.fn.self.link;
}
