-- What a script gives to acceptings, and what is left of it then.
use Rattle.std.specs.Prelude.{ℕ, List, Option, None, Some, nat_lt, if◌then◌else◌}
use Rattle.relay_model.specs.{Place}
use Rattle.scripted_world.specs.declared.lines.PlacedItem.{PlacedItem}
use Rattle.scripted_world.specs.declared.items.PeerItem.{PeerItem}
use Rattle.scripted_world.specs.declared.items.PeerItem.TheVariants as items
use Rattle.scripted_world.specs.declared.accepting.DuePeer.{DuePeer}
use Rattle.scripted_world.specs.declared.accepting.Coming.{Coming}
use Rattle.scripted_world.specs.declared.accepting.Coming.TheVariants as coming
use Rattle.scripted_world.specs.Lines.{used_up}

-- what an item of peers brings
abbrev pub comes_due : PeerItem → Coming
comes_due (items.Comes peer) = coming.Comes peer
comes_due items.Fails = coming.Fault

-- an item of peers from a moment on
abbrev pub due_peer : ℕ → PeerItem → DuePeer
due_peer at item = record { at = at; item = item }

-- what an accepting gives at this moment, by the next item of its door: no peer before its moment
abbrev pub peer_given : Option DuePeer → ℕ → Coming
peer_given None now = coming.NoPeer
peer_given (Some line) now = if nat_lt now line.at then coming.NoPeer else comes_due line.item

-- the items after an accepting gave this
abbrev pub peers_left : Coming → List (PlacedItem DuePeer) → Place → List (PlacedItem DuePeer)
peers_left (coming.Comes peer) lines door = used_up lines door
peers_left coming.NoPeer lines door = lines
peers_left coming.Fault lines door = used_up lines door
