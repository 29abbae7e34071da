-- What a session hears of a history, and that nothing else decides what is said of it.
use Rattle.std.specs.Prelude.{◌≡◌, ◌<◌, ℕ, Bool, true, false, not, ◌&&◌, ◌||◌, ◌==◌, ◌↔◌, List, [], ◌∷◌, filter, Option, Some, None, if◌then◌else◌}
use Rattle.relay_model.specs.{Place, ReadyAt, Config, Why, Act, only_if, is_program_door, same_why, stop_said, memory_said, put, numbers, owed}
use Rattle.relay_model.specs.{SameSession}
use Rattle.relay_model.specs.declared.acts.Why.TheVariants as whys
use Rattle.relay_model.specs.declared.acts.Act.TheVariants.{Turn, Opened, OpenLater, OpenFailed, Listening, ListenFailed, Accepted, NoPeer, AcceptFailed, Read, ReadEmpty, ReadEnd, ReadNotYet, ReadFault, Wrote, WriteNotYet, WriteFault, Shut, ShutFault, Closed, Reaped, Note, NoteFault}
use Rattle.relay_model.specs.May.{May}

-- the place or door is the session's own
abbrev pub is_own_place : Config → ℕ → Place → Bool
is_own_place c s q = q.session == s && not (is_program_door c q)

-- the act is at a place or door of the session's own
abbrev pub is_own : Config → ℕ → Act → Bool
is_own c s (Turn until at ready stop) = false
is_own c s (Opened q) = is_own_place c s q
is_own c s (OpenLater q) = is_own_place c s q
is_own c s (OpenFailed q) = is_own_place c s q
is_own c s (Listening q) = is_own_place c s q
is_own c s (ListenFailed q) = is_own_place c s q
is_own c s (Accepted q peer) = is_own_place c s q
is_own c s (NoPeer q) = is_own_place c s q
is_own c s (AcceptFailed q) = is_own_place c s q
is_own c s (Read q bytes) = is_own_place c s q
is_own c s (ReadEmpty q) = is_own_place c s q
is_own c s (ReadEnd q) = is_own_place c s q
is_own c s (ReadNotYet q) = is_own_place c s q
is_own c s (ReadFault q) = is_own_place c s q
is_own c s (Wrote q bytes) = is_own_place c s q
is_own c s (WriteNotYet q) = is_own_place c s q
is_own c s (WriteFault q) = is_own_place c s q
is_own c s (Shut q way) = is_own_place c s q
is_own c s (ShutFault q way) = is_own_place c s q
is_own c s (Closed q why) = is_own_place c s q
is_own c s (Reaped q end) = is_own_place c s q
is_own c s (Note text) = false
is_own c s (NoteFault text) = false

-- what reaches a session: each act at its own places and doors; of a turn the moment, what it named of these and whether
-- it said stop; that an accepting failed at the program door; that a stop or want of memory closed something elsewhere
pub data StoryEvent : Type 0 where
  Own : Act → StoryEvent
  Turned : (at : ℕ) (entries : List ReadyAt) (stop : Bool) → StoryEvent
  AcceptingFailed : StoryEvent
  Ending : Why → StoryEvent

-- what a turn named of the session's own places and doors
abbrev pub own_entries : Config → ℕ → List ReadyAt → List ReadyAt
own_entries c s entries = filter (λ e. is_own_place c s e.place) entries

-- a closing with this reason is the first to tell of a stop, or of want of memory
abbrev pub is_news : List Act → Why → Bool
is_news past why = same_why why whys.Stopped && not (stop_said past) || same_why why whys.Memory && not (memory_said past)

-- what reaches the session of an act that is none of its own
abbrev pub reaches : Config → ℕ → List Act → Act → Option StoryEvent
reaches c s past (Turn until at ready stop) = Some (Turned at (own_entries c s ready.entries) stop)
reaches c s past (AcceptFailed q) = only_if (is_program_door c q) AcceptingFailed
reaches c s past (Closed q why) = only_if (is_news past why) (Ending why)
reaches c s past act = None

-- the event that an act makes for a session, if it makes one
abbrev pub event : Config → ℕ → List Act → Act → Option StoryEvent
event c s past act = if is_own c s act then Some (Own act) else reaches c s past act

-- the list with the event at its head, where there is one
abbrev pub and_event : Option StoryEvent → List StoryEvent → List StoryEvent
and_event None events = events
and_event (Some e) events = e ∷ events

-- all that reaches the session of a history, newest first
abbrev pub story : Config → ℕ → List Act → List StoryEvent
story c s [] = []
story c s (act ∷ past) = and_event (event c s past act) (story c s past)

-- two histories of which the same reaches a session say the same of it, whatever else they hold
abbrev pub SessionIsItsOwn : Type 0
SessionIsItsOwn =
    (c : Config) (one other : List Act) (s : ℕ) → s < numbers c one → s < numbers c other → story c s one ≡ story c s other → SameSession c s one other

-- the session has written the same in both
abbrev pub OutputIsOwn : Type 0
OutputIsOwn =
    (c : Config) (one other : List Act) (s : ℕ) (p : Place) → story c s one ≡ story c s other → p.session ≡ s → is_program_door c p ≡ false →
    put one p ≡ put other p

-- the act reads, writes or passes an end on, or tries to
abbrev pub transfers : Act → Bool
transfers (Read q bytes) = true
transfers (ReadEmpty q) = true
transfers (ReadEnd q) = true
transfers (ReadNotYet q) = true
transfers (ReadFault q) = true
transfers (Wrote q bytes) = true
transfers (WriteNotYet q) = true
transfers (WriteFault q) = true
transfers (Shut q way) = true
transfers (ShutFault q way) = true
transfers act = false

-- while no dump is owed, the session may read, write and pass ends on after one as after the other
abbrev pub MovesAlike : Type 0
MovesAlike =
    (c : Config) (n m : ℕ) (one other : List Act) (s : ℕ) (act : Act) → s < numbers c one → s < numbers c other → story c s one ≡ story c s other →
    owed c one ≡ None → owed c other ≡ None → is_own c s act ≡ true → transfers act ≡ true → May c n one act ↔ May c m other act
