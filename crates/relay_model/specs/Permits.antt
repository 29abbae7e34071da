-- Which peers an address permits: by the network that they come from, and by their port.
use Rattle.std.specs.Prelude.{ℕ, Bool, true, false, not, ◌&&◌, ◌||◌, ◌==◌, nat_le, bit_and, List, [], ◌∷◌, Option, Some, None}
use Rattle.relay_model.specs.declared.acts.Peer.{Peer}
use Rattle.relay_model.specs.declared.acts.Peer.TheVariants as peers
use Rattle.relay_model.specs.declared.commands.Admission.{Admission}
use Rattle.relay_model.specs.declared.commands.Range.{Range}
use Rattle.relay_model.specs.declared.commands.Range.TheVariants as ranges

-- whether two addresses are the same under a mask, byte by byte
abbrev pub is_same_under : List ℕ → List ℕ → List ℕ → Bool
is_same_under [] one other = true
is_same_under (m ∷ mask) [] other = true
is_same_under (m ∷ mask) (a ∷ one) [] = true
is_same_under (m ∷ mask) (a ∷ one) (b ∷ other) = bit_and a m == bit_and b m && is_same_under mask one other

-- whether a peer comes from the range; one of the other family doesn't
abbrev pub is_in_range : Option Range → Peer → Bool
is_in_range None peer = true
is_in_range (Some (ranges.V4 net mask)) (peers.V4 addr port) = is_same_under mask addr net
is_in_range (Some (ranges.V4 net mask)) (peers.V6 addr port) = false
is_in_range (Some (ranges.V4 net mask)) peers.Local = false
is_in_range (Some (ranges.V6 net mask)) (peers.V4 addr port) = false
is_in_range (Some (ranges.V6 net mask)) (peers.V6 addr port) = is_same_under mask addr net
is_in_range (Some (ranges.V6 net mask)) peers.Local = false

-- whether a peer may have this port
abbrev pub is_port_permitted : Admission → ℕ → Bool
is_port_permitted admission port = is_source_port admission.sourceport port && (not admission.lowport || nat_le port 1023)
  where
    is_source_port : Option ℕ → ℕ → Bool
    is_source_port None port = true
    is_source_port (Some wanted) port = port == wanted

-- whether a peer is permitted; one at a Unix socket always is
abbrev pub is_permitted : Admission → Peer → Bool
is_permitted admission (peers.V4 addr port) = is_in_range admission.range (peers.V4 addr port) && is_port_permitted admission port
is_permitted admission (peers.V6 addr port) = is_in_range admission.range (peers.V6 addr port) && is_port_permitted admission port
is_permitted admission peers.Local = true
