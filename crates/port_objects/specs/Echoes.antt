-- The echo pipe: what it holds, and what its calls answer.
use Rattle.std.specs.Prelude.{◌≡◌, ℕ, zero, suc, ◌-◌, min, Bool, true, false, nat_lt, nat_le, ◌||◌, List, [], ◌∷◌, ◌++◌, length, take, if◌then◌else◌}
use Rattle.relay_model.specs.{Shut}
use Rattle.relay_model.specs.declared.acts.Shut.TheVariants as hows
use Rattle.port_trait.specs.{PortCounts, Hint, Got, Took}
use Rattle.port_trait.specs.declared.answers.Got.TheVariants as reads
use Rattle.port_trait.specs.declared.answers.Took.TheVariants as writes

-- `held` stands oldest first
pub record EchoState : Type 0 where
  pub held : List ℕ
  pub capacity : ℕ
  pub is_shut : Bool
  pub counts : PortCounts
  pub begun : Bool
  pub ended : Bool

-- an echo pipe that was just made
abbrev pub fresh_echo : ℕ → EchoState
fresh_echo capacity = record { held = []; capacity = capacity; is_shut = false; counts = record { faults = 0; ends = 0; empties = 0; stalls = 0 }; begun = false; ended = false }

-- how many more bytes fit
abbrev pub room_of : EchoState → ℕ
room_of port = port.capacity - length port.held

-- what a read with so much room answers
abbrev pub echo_read : List ℕ → Bool → ℕ → Got
echo_read [] true room = reads.End
echo_read [] false room = reads.NotYet
echo_read (b ∷ bs) is_shut room = reads.Bytes (min room (length (b ∷ bs)))

-- what a write of so many bytes answers
abbrev pub echo_write : ℕ → ℕ → Took
echo_write zero count = writes.NotYet
echo_write (suc room) count = writes.Took (min count (suc room))

-- the answer where all bytes are to be put at once
abbrev pub echo_put_all : ℕ → ℕ → Took
echo_put_all room count = if nat_le count room then writes.Took count else writes.Failed

-- what an echo pipe hints at
abbrev pub echo_hint : EchoState → Hint
echo_hint port = record { readable = port.is_shut || nat_lt 0 (length port.held); writable = nat_lt (length port.held) port.capacity }

-- the bytes that a read handed out
abbrev pub got_front : List ℕ → Got → List ℕ
got_front into (reads.Bytes n) = take n into
got_front into reads.Empty = []
got_front into reads.End = []
got_front into reads.NotYet = []
got_front into reads.Failed = []

-- what is held after a write
abbrev pub held_after : List ℕ → List ℕ → Took → List ℕ
held_after held bytes (writes.Took n) = held ++ take n bytes
held_after held bytes writes.NotYet = held
held_after held bytes writes.Failed = held

-- whether the pipe is shut after an end was passed on so
abbrev pub shut_after : Bool → Shut → Bool
shut_after before hows.Nothing = before
shut_after before hows.Down = true
shut_after before hows.Close = true
shut_after before hows.Null = before

-- what no read and no write changes
pub record KeptByTransfer (before now : EchoState) : Type 0 where
  pub capacity : now.capacity ≡ before.capacity
  pub is_shut : now.is_shut ≡ before.is_shut
  pub begun : now.begun ≡ before.begun
  pub empties : now.counts.empties ≡ before.counts.empties
