-- What the state of a session says of the history, and which calls the history allows.
use Rattle.std.specs.Prelude.{◌≡◌, ◌⊎◌, ℕ, ◌<◌, ◌+◌, true, false, List, Option, Some, None, is_some}
use Rattle.relay_model.specs.{Place, Way, Config, Act, Why, has_fork, is_of, parts, place_at, Fit, now, held, asked_to_accept, holds, numbers}
use Rattle.relay_model.specs.{first_part, moved_at, closed_why, fault_stands, running, call, SessionRests, MayReap, Licensed}
use Rattle.relay_model.specs.declared.acts.Why.TheVariants as whys
use Rattle.relay_model.specs.declared.places.Side.TheVariants.{Left}
use Rattle.relay_model.specs.declared.calls.Call.TheVariants as calls
use Rattle.session_direction.specs.{WantsNothing}
use Rattle.place_openings.specs.{AreOpenings, steps_in, first_of, child_by}
use Rattle.relay_session.specs.declared.states.State.{State}
use Rattle.relay_session.specs.declared.wishes.Wish.{Wish}
use Rattle.relay_session.specs.declared.wishes.Wish.TheVariants as wishes
use Rattle.relay_session.specs.Endings.{Ends, EndingIs}
use Rattle.relay_session.specs.Timers.{session_until}
use Rattle.relay_session.specs.Lanes.{AreLanes, ReadsAt, Offers, ShutsAt, can_read_at, can_write_at, lanes_steps}

-- with `fork` the place of the peer that a session was begun for
abbrev pub home : Config → ℕ → Place
home c s = place_at s Left (first_part (parts c Left))

-- all fields but `ending` are what the history says; what began a session is held while nothing of it was closed
pub record Ground (c : Config) (past : List Act) (s : ℕ) (st : State) : Type 0 where
  -- what the command and its beginning say
  pub fit : Fit c
  pub begun : s < numbers c past
  pub home_held : has_fork c ≡ true → closed_why c past s ≡ None → held past (home c s) ≡ true
  -- its places and directions
  pub openings_are : AreOpenings c past s st.openings
  pub lanes_are : AreLanes c past s st.lanes
  -- its clock, its last move and its first fault
  pub clock_is : st.clock ≡ now past
  pub moved_is : st.moved ≡ moved_at c past s
  pub faulted_is : st.faulted ≡ fault_stands c past s
  -- what the command says of its times and faults
  pub closing_is : st.closing ≡ c.closing
  pub idle_is : st.idle ≡ c.idle
  pub sloppy_is : st.sloppy ≡ c.sloppy

-- each field of a state is what the acts say
pub record Fields (c : Config) (n : ℕ) (past : List Act) (s : ℕ) (st : State) : Type 0 where
  pub ground : Ground c past s st
  pub ending_is : EndingIs c n past s st.ending

-- ---- calls

-- a thing of the session may be closed for this reason
pub record Closes (c : Config) (n : ℕ) (past : List Act) (s : ℕ) (q : Place) (why : Why) : Type 0 where
  pub is_held : held past q ≡ true
  pub own : is_of c s q ≡ true
  pub licensed : Licensed c n past q why

-- a session that reads ahead has asked each input that it could read from, too
pub record Sleeps (c : Config) (past : List Act) (s : ℕ) (until : Option ℕ) : Type 0 where
  pub rests : SessionRests c past s
  pub until_is : until ≡ session_until c past s
  pub read_ahead : (w : Way) → running c past s ≡ true → WantsNothing c past s w

-- the child of a closed place, of which nothing is known yet
pub record ReapsAt (c : Config) (past : List Act) (s : ℕ) (p : Place) : Type 0 where
  pub own : p.session ≡ s
  pub among : is_of c s p ≡ true
  pub may : MayReap c past p

-- the session holds nothing and may end for this reason
pub record IsDone (c : Config) (n : ℕ) (past : List Act) (s : ℕ) (why : Why) : Type 0 where
  pub nothing_held : holds c past s ≡ false
  pub ends : Ends c n past s why

-- what a wish promises of the history: the call that it wishes for may be made, and a sleep comes only at rest
abbrev pub Wished : Config → ℕ → List Act → ℕ → Wish → Type 0
Wished c n past s (wishes.Open p) = call c past s ≡ calls.Open p
Wished c n past s (wishes.Settle p) = call c past s ≡ calls.Settle p
Wished c n past s (wishes.Listen d) = call c past s ≡ calls.Listen d
Wished c n past s (wishes.Accept d p) = (call c past s ≡ calls.Accept d p) × (asked_to_accept c past d ≡ false)
Wished c n past s (wishes.Read p at_most) = ReadsAt c past s p at_most
Wished c n past s (wishes.Write p) = Offers c past s p false
Wished c n past s (wishes.Send p) = Offers c past s p true
Wished c n past s (wishes.Shut p how) = ShutsAt c past s p how
Wished c n past s (wishes.Close q why) = Closes c n past s q why
Wished c n past s (wishes.Reap p) = ReapsAt c past s p
Wished c n past s (wishes.Sleep until) = Sleeps c past s until
Wished c n past s (wishes.Done why) = IsDone c n past s why

-- a closing is one that was called for, or the session has ended for its reason
abbrev pub ClosesFor : Config → List Act → ℕ → Option Why → Place → Why → Type 0
ClosesFor c past s None q why = ((why ≡ whys.Refused) × (call c past s ≡ calls.Refuse q)) ⊎ ((why ≡ whys.Served) × (call c past s ≡ calls.Serve q))
ClosesFor c past s (Some end) q why = end ≡ why

-- what a wish says of whether the session has ended; a place is read or written that wasn't asked since the last turn or
-- can be paid for, and a child is reaped that wasn't asked for yet,
-- and none is left at the end
abbrev pub Stage : Config → List Act → ℕ → State → Wish → Type 0
Stage c past s st (wishes.Close q why) = ClosesFor c past s st.ending q why
Stage c past s st (wishes.Reap p) = (is_some st.ending ≡ true) × (first_of child_by st.openings ≡ Some p)
Stage c past s st (wishes.Done why) = (st.ending ≡ Some why) × (first_of child_by st.openings ≡ None)
Stage c past s st (wishes.Read p at_most) = (st.ending ≡ None) × (can_read_at st.lanes p ≡ true)
Stage c past s st (wishes.Write p) = (st.ending ≡ None) × (can_write_at st.lanes p ≡ true)
Stage c past s st (wishes.Send p) = (st.ending ≡ None) × (can_write_at st.lanes p ≡ true)
Stage c past s st wish = st.ending ≡ None

-- the wish is one of the acts, and fits whether something has ended the session
abbrev pub Allowed : Config → ℕ → List Act → ℕ → State → Wish → Type 0
Allowed c n past s st wish = Wished c n past s wish × Stage c past s st wish

-- how many steps it takes at most before the next turn
abbrev pub steps_of : State → ℕ
steps_of st = steps_in st.openings + lanes_steps st.lanes
