-- What the calls of the program door make of the loop.
use Rattle.std.specs.Prelude.{vec_len, ◌≡◌, ◌≢◌, ℕ, ◌<◌, ◌+◌, List, ◌∷◌, Option, Some, None, is_some, true}
use Rattle.relay_model.specs.{Config, Act, Peer, Side, admitted, now as moment}
use Rattle.relay_model.specs.declared.acts.Act.TheVariants as acts
use Rattle.relay_session.specs.{BeginsSession, Hears, Session, home}
use Rattle.session_driver.specs.{counted_at}
use Rattle.program_door.specs.declared.wishes.DoorWish.TheVariants as wishes
use Rattle.program_door.specs.{steps_of, Wished}
use Rattle.fork_table.specs.{HasRoom, SameBounds, row_of}
use Rattle.world_trait.specs.Seen.{Seen}
use Rattle.event_loop.specs.declared.all_sessions.Row.{Row}
use Rattle.event_loop.specs.declared.all_sessions.Sessions.{Sessions}
use Rattle.event_loop.specs.declared.asked.DoorAsked.{DoorAsked}
use Rattle.event_loop.specs.declared.asked.DoorAsked.TheVariants as asks
use Rattle.event_loop.specs.Courses.{NextIs, SessionsCourse, Keeps, NoWork, SameLists}
use Rattle.event_loop.specs.Endings.{MayEnd}

-- a next session may have been made where there was none, and nothing else changed
pub record SameButNext (c : Config) (before after : Sessions) : Type 0 where
  pub door_same : after.door ≡ before.door
  pub clock_same : after.clock ≡ before.clock
  pub made_same : after.made ≡ before.made
  pub scratch_same : vec_len after.scratch ≡ vec_len before.scratch
  pub admitted_same : after.table.admitted ≡ before.table.admitted
  pub bounds_same : SameBounds before.table after.table
  pub rows_same : (s : ℕ) → row_of after.table s ≡ row_of before.table s
  pub lists : SameLists before after
  pub next : (past : List Act) → before.table.admitted ≡ admitted c past → NextIs c past before.pending_session → NextIs c past after.pending_session

-- the next session stands, and there is room for it
pub record HasNext (sessions : Sessions) : Type 0 where
  pub ready : is_some sessions.pending_session ≡ true
  pub room : HasRoom sessions.table

-- the table has one row more, of a session that has read nothing
pub record OneMore (born : Row) (before after : Sessions) : Type 0 where
  pub clock_same : after.clock ≡ before.clock
  pub made_same : after.made ≡ before.made
  pub scratch_same : vec_len after.scratch ≡ vec_len before.scratch
  pub pending_session_is : after.pending_session ≡ None
  pub row : row_of after.table before.table.admitted ≡ Some born
  pub heard : born.turn ≡ before.made
  pub unread : (side : Side) → counted_at born.member.dumper side ≡ 0
  pub lists : SameLists before after
  pub others : (s : ℕ) → s ≢ before.table.admitted → row_of after.table s ≡ row_of before.table s
  pub admitted_is : after.table.admitted ≡ before.table.admitted + 1
  pub bounds_same : SameBounds before.table after.table

-- the session that its peer makes of the next one
abbrev pub BornAs : Config → Sessions → Peer → Session → Type 0
BornAs c before peer session = (n : ℕ) (past : List Act) → BeginsSession c n past (admitted c past) peer → before.table.admitted ≡ admitted c past → before.clock ≡ moment past → Hears c n (acts.Accepted (home c (admitted c past)) peer ∷ past) (admitted c past) session

-- the peer has the session that stood ready, in the one row more
pub record GivesNext (peer : Peer) (before after : Sessions) : Type 0 where
  pub born : Row
  pub more : OneMore born before after
  pub begun : (c : Config) → ((past : List Act) → before.table.admitted ≡ admitted c past → NextIs c past before.pending_session) → BornAs c before peer born.member.session

-- the door waits until this moment
pub record DoorWaits (c : Config) (n : ℕ) (start now : Seen) (until : Option ℕ) (sessions : Sessions) : Type 0 where
  pub past : List Act
  pub course : SessionsCourse c n start now past sessions
  pub wished : Wished c past (wishes.Sleep until)

-- the door is over
pub record DoorIsOver (c : Config) (n : ℕ) (start now : Seen) (sessions : Sessions) : Type 0 where
  pub past : List Act
  pub course : SessionsCourse c n start now past sessions
  pub wished : Wished c past wishes.Done

-- the door and all sessions came to this
abbrev pub AskedIs : Config → Seen → Seen → Sessions → Sessions → DoorAsked → Type 0
AskedIs c old new before after (asks.Waits until) = ((n : ℕ) (start : Seen) (past : List Act) → SessionsCourse c n start old past before → DoorWaits c n start new until after) × NoWork after × (after.made ≡ before.made)
AskedIs c old new before after asks.Over = ((n : ℕ) (start : Seen) (past : List Act) → SessionsCourse c n start old past before → DoorIsOver c n start new after) × NoWork after × (after.made ≡ before.made)
AskedIs c old new before after (asks.Ends why) = (n : ℕ) (start : Seen) (past : List Act) → SessionsCourse c n start old past before → MayEnd c n start new why after

-- they did, or one more call of the door was made
abbrev pub GoesOn : Config → Seen → Seen → Sessions → Sessions → Option DoorAsked → Type 0
GoesOn c old new before after None = Keeps c old new before after × NoWork after × (steps_of after.door < steps_of before.door) × (after.made ≡ before.made)
GoesOn c old new before after (Some asked) = AskedIs c old new before after asked
