-- A read asks for no more than a block.
use Rattle.std.specs.Prelude.{ℕ, ◌≤◌, ◌==◌, ◌-◌, ◌*◌, ◌/◌, List, length, Bool, true, false, Option, None, Some, min, if◌then◌else◌}
use Rattle.std.proofs.Common.{arith}
use Rattle.relay_model.specs.Conversions.{at_most_left, read_size, packet_size, packet_cap}
use Rattle.relay_model.specs.Configs.{input, output, options_of, keeps_borders, way_from}
use Rattle.relay_model.specs.History.{got}
use Rattle.relay_model.specs.Transfers.{greatest_read, backlog}
use Rattle.relay_model.specs.declared.acts.Act.{Act}
use Rattle.relay_model.specs.declared.commands.Config.{Config}
use Rattle.relay_model.specs.declared.places.Place.{Place}
use Rattle.relay_model.specs.declared.places.Way.{Way}
use Rattle.relay_session.specs.Lanes.{ReadsAt}

left_within : (readbytes : Option ℕ) (count n m : ℕ) → n ≤ m → at_most_left readbytes count n ≤ m
left_within None count n m h = h
left_within (Some most) count n m h = omega (arith, h)

least_within : (n m : ℕ) → min n m ≤ n
least_within n m = omega (arith)

packet_within : (is_none : Bool) (block cap : ℕ) (readbytes : Option ℕ) (count : ℕ)
    → (if is_none then at_most_left readbytes count (min block cap) else 0) ≤ block
packet_within true block cap readbytes count = left_within readbytes count (min block cap) block (least_within block cap)
packet_within false block cap readbytes count = omega (arith)

size_within : (keeps : Bool) (c : Config) (past : List Act) (s : ℕ) (w : Way)
    → (if keeps
    then packet_size c.block (packet_cap (options_of c (output c 0 w)).conv) (options_of c (input c 0 w)).input.readbytes (length (got past (input c s w))) (backlog c past s w)
    else read_size c.block (options_of c (input c 0 w)).input.readbytes (length (got past (input c s w))) (backlog c past s w)) ≤ c.block
size_within true c past s w = packet_within (backlog c past s w == 0) c.block (packet_cap (options_of c (output c 0 w)).conv) (options_of c (input c 0 w)).input.readbytes (length (got past (input c s w)))
size_within false c past s w = left_within (options_of c (input c 0 w)).input.readbytes (length (got past (input c s w))) _ c.block (least_within c.block ((2 * c.block - backlog c past s w) / 2))

read_within : (c : Config) (past : List Act) (s : ℕ) (w : Way) → greatest_read c past s w ≤ c.block
read_within c past s w = size_within (keeps_borders c w) c past s w

-- a wished read fits into what holds a block
pub wish_fits : (c : Config) (past : List Act) (s : ℕ) (p : Place) (n room : ℕ) → ReadsAt c past s p n → c.block ≤ room → n ≤ room
wish_fits c past s p n room wished fits = let size = wished.size in omega (arith, size, read_within c past s (way_from p.side), fits)
