-- What a session is before it begins, and when it does with `fork`.
use Rattle.std.specs.Prelude.{◌≡◌, ℕ, true, false, List, [], None}
use Rattle.std.specs.List.{list_any}
use Rattle.relay_model.specs.{Place, Config, Peer, Act, Fit, has_fork, program_door, is_of, admitted, next_place, permits, door_call, Legal}
use Rattle.relay_model.specs.declared.calls.Call.TheVariants.{Accept}
use Rattle.relay_laws.specs.{is_named_by}
use Rattle.place_openings.specs.{AreOpenings, has_asked}
use Rattle.relay_session.specs.declared.states.State.{State}
use Rattle.relay_session.specs.Lanes.{AreLanes}
use Rattle.relay_session.specs.States.{home}

-- the state of the session with this number, to which nothing has happened
pub record IsNew (c : Config) (s : ℕ) (st : State) : Type 0 where
  pub fit : Fit c
  pub openings_are : AreOpenings c [] s st.openings
  pub lanes_are : AreLanes c [] s st.lanes
  pub clock_is : st.clock ≡ 0
  pub moved_is : st.moved ≡ 0
  pub faulted_is : st.faulted ≡ false
  pub ending_is : st.ending ≡ None
  pub closing_is : st.closing ≡ c.closing
  pub idle_is : st.idle ≡ c.idle
  pub sloppy_is : st.sloppy ≡ c.sloppy
  pub unasked : (p : Place) → has_asked st.openings p ≡ false

-- the program door calls for the accepting of a peer for the first place of this session, this peer is permitted there,
-- and no turn ever named a thing of the session
pub record BeginsSession (c : Config) (n : ℕ) (past : List Act) (s : ℕ) (peer : Peer) : Type 0 where
  pub fork : has_fork c ≡ true
  pub legal : Legal c n past
  pub next : s ≡ admitted c past
  pub called : door_call c past ≡ Accept program_door (next_place c past)
  pub permitted : permits c (home c s) peer ≡ true
  pub unnamed : (q : Place) → is_of c s q ≡ true → list_any (is_named_by q) past ≡ false
