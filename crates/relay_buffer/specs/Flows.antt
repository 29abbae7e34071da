-- What a flow stands for: the bytes that were filled in, and those that were taken.
use Rattle.std.specs.Prelude.{◌≡◌, ℕ, ◌-◌, ◌*◌, ◌/◌, Bool, false, ◌||◌, ◌==◌, List, ◌++◌, length, drop, min, Option, None, Some, if◌then◌else◌}
use Rattle.relay_model.specs.{before_escape, due_of, holds_escape, is_met, is_over, packet_size, read_size}
use Rattle.line_ends.specs.{converted}
use Rattle.relay_buffer.specs.declared.lanes.Lane.{Lane}

-- what contracts see of a flow: its lane, how many bytes may still be read, whether the escape byte was met,
-- and the converted bytes that wait
pub record Flowing : Type 0 where
  pub lane : Lane
  pub left : Option ℕ
  pub met : Bool
  pub backlog : List ℕ

-- what is to be written of the bytes x, all in all
abbrev pub due : Lane → List ℕ → List ℕ
due lane x = due_of lane.how.read lane.how.write lane.readbytes lane.escape x

-- how many bytes wait where x was filled in and y was taken
abbrev pub waiting : Lane → List ℕ → List ℕ → ℕ
waiting lane x y = length (due lane x) - length y

-- the bytes go out as they are, into a stream: none is converted, and none is the escape byte
pub record IsPassedWhole (lane : Lane) (bytes : List ℕ) : Type 0 where
  pub stream : lane.packets ≡ None
  pub plain : converted lane.how bytes ≡ bytes
  pub whole : before_escape lane.escape bytes ≡ bytes
  pub lacks : holds_escape lane.escape bytes ≡ false

-- how many bytes may still be read, after so many more
abbrev pub lowered : Option ℕ → ℕ → Option ℕ
lowered None count = None
lowered (Some left) count = Some (left - count)

-- the flow stands for x filled in and y taken
pub record IsFlow (lane : Lane) (x y : List ℕ) (flow : Flowing) : Type 0 where
  pub lane_is : flow.lane ≡ lane
  pub left_is : flow.left ≡ lowered lane.readbytes (length x)
  pub met_is : flow.met ≡ is_met lane.readbytes lane.escape x
  pub bytes : y ++ flow.backlog ≡ due lane x

-- the read size where x was filled in and y was taken
abbrev pub size_by : Option ℕ → Lane → ℕ → ℕ → ℕ
size_by None lane count backlog = read_size lane.block lane.readbytes count backlog
size_by (Some cap) lane count backlog = packet_size lane.block cap lane.readbytes count backlog

-- how many bytes may be filled in next: none where the input is over
abbrev pub room_of : Lane → List ℕ → List ℕ → ℕ
room_of lane x y = if is_over lane.readbytes lane.escape x then 0 else size_by lane.packets lane (length x) (waiting lane x y)

-- the same, from what a flow keeps
abbrev pub at_most : Option ℕ → ℕ → ℕ
at_most None n = n
at_most (Some left) n = min n left

-- how many bytes a read may bring, by the block and what waits
abbrev pub most_at_once : Option ℕ → ℕ → ℕ → ℕ
most_at_once None block backlog = min block ((2 * block - backlog) / 2)
most_at_once (Some cap) block backlog = if backlog == 0 then min block cap else 0

-- no byte may be read any more
abbrev pub none_left : Option ℕ → Bool
none_left None = false
none_left (Some left) = left == 0

-- the bytes filled in have ended the input
abbrev pub over_in : Flowing → Bool
over_in flow = none_left flow.left || flow.met

-- how many bytes may be filled in next
abbrev pub room_in : Flowing → ℕ
room_in flow = if over_in flow then 0 else at_most flow.left (most_at_once flow.lane.packets flow.lane.block (length flow.backlog))

-- the same flow without its first n bytes
abbrev pub taken : ℕ → Flowing → Flowing
taken n flow = record flow { backlog = drop n flow.backlog }
