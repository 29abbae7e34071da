-- What contracts see of a poller, and what a poll names.
use Rattle.std.specs.Prelude.{◌≡◌, ℕ, nat_le, ◌-◌, ◌*◌, ◌^◌, ◌==◌, Bool, ◌||◌, ◌/◌, min, max, List, [], ◌∷◌, ◌++◌, Option, None, option_map, Result, Ok, Err, if◌then◌else◌}
use Rattle.std.specs.List.{flat_map}
use Rattle.std.specs.Duration.{as_nanos}
use Rattle.std.specs.declared.time.Duration.{Duration}
use Rattle.std.specs.declared.io.Error.{Error}
use Rattle.mio.specs.declared.event.event.Event.{Event}
use Rattle.port_trait.specs.{Making}
use Rattle.port_trait.specs.declared.makers.Making.TheVariants as makings
use Rattle.mio.specs.Event.{event_token, is_readable, is_writable, is_error, is_read_closed, is_write_closed}
use Rattle.relay_model.specs.{Half}
use Rattle.relay_model.specs.declared.places.Half.TheVariants as halves

-- the system that it waits with, the moment of its last poll, and the one until which it was asked to wait at most
pub record MioPollerState (S : Type 0) : Type 0 where
  pub system : S
  pub clock : ℕ
  pub asked : Option ℕ

-- the same of a poller that only keeps time
pub record TickState : Type 0 where
  pub clock : ℕ
  pub asked : Option ℕ

-- before its first poll
abbrev pub fresh_ticks : TickState
fresh_ticks = record { clock = 0; asked = None }

-- a fact of the poller, where one was made
abbrev pub IfMade : {T : Type 0} → Making T → (T → Type 0) → Type 0
IfMade (makings.Made poller) P = P poller
IfMade (makings.Later poller) P = P poller
IfMade makings.Failed P = Unit {0}
IfMade makings.Memory P = Unit {0}

-- the whole milliseconds that have passed, or the last moment where that is later or the clock can't be read
abbrev pub later_moment : ℕ → Result Duration Error → ℕ
later_moment last (Ok elapsed) = max last (min (as_nanos elapsed / 1_000_000) (2 ^ 64 - 1))
later_moment last (Err error) = last

-- the moment is the one that the system's clock gives behind this last one
abbrev pub IsMoment : {S : Type 0} → (S → Result Duration Error → Type 0) → ℕ → S → ℕ → Type 0
IsMoment tells last system moment = (told : Result Duration Error) × tells system told × (moment ≡ later_moment last told)

-- the time from this moment to that one, which is none where that has passed
abbrev pub IsTimeLeft : ℕ → Option ℕ → Option Duration → Type 0
IsTimeLeft now until most = option_map as_nanos most ≡ option_map (λ moment. (moment - now) * 1_000_000) until

-- the system was asked for one wait, no longer than from its moment to the one asked for
abbrev pub WaitsOnce : {S : Type 0} → (S → Result Duration Error → Type 0) → (S → Option Duration → S → Type 0) → ℕ → Option ℕ → S → S → Type 0
WaitsOnce tells waits last until before now = (moment : ℕ) × (most : Option Duration) × IsMoment tells last before moment × IsTimeLeft moment until most × waits before most now

-- bytes, an end or a fault can be read
abbrev pub to_read : Event → Bool
to_read event = is_readable event || is_read_closed event || is_error event

-- there is room, or a fault to be answered
abbrev pub to_write : Event → Bool
to_write event = is_writable event || is_write_closed event || is_error event

-- this half of the key, where it is ready
abbrev pub half_key : Bool → ℕ → Half → List (ℕ × Half)
half_key ready key half = if ready then (key, half) ∷ [] else []

-- the halves that an event names; the wake's event names none
abbrev pub event_keys : Event → List (ℕ × Half)
event_keys event = if (event_token event).0 == 2 ^ 64 - 1 then [] else half_key (to_read event) (event_token event).0 halves.ToRead ++ half_key (to_write event) (event_token event).0 halves.ToWrite

-- the keys and halves that events name
abbrev pub named : List Event → List (ℕ × Half)
named events = flat_map event_keys events

-- the key of the watch for a descriptor that is read, and of that for one that is written; no port has them
abbrev pub watch_key : Half → ℕ
watch_key halves.ToRead = 2 ^ 64 - 2
watch_key halves.ToWrite = 2 ^ 64 - 3

-- the key is one of those that no port has
abbrev pub is_reserved : ℕ → Bool
is_reserved key = nat_le (2 ^ 64 - 5) key
