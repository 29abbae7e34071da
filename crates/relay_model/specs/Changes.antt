-- What acts change, kind by kind.
use Rattle.std.specs.Prelude.{◌≡◌, ℕ, suc, Bool, true, false, ◌||◌, List, [], ◌∷◌, ◌++◌, Option, Some, if◌then◌else◌}
use Rattle.relay_model.specs.declared.places.Half.TheVariants.{ToRead, ToWrite}
use Rattle.relay_model.specs.declared.places.Way.{Way}
use Rattle.relay_model.specs.declared.places.Place.{Place}
use Rattle.relay_model.specs.declared.commands.Config.{Config}
use Rattle.relay_model.specs.declared.acts.Peer.{Peer}
use Rattle.relay_model.specs.declared.acts.Why.{Why}
use Rattle.relay_model.specs.declared.acts.Why.TheVariants as whys
use Rattle.relay_model.specs.declared.acts.Act.{Act}
use Rattle.relay_model.specs.declared.acts.Act.TheVariants.{Turn, Opened, OpenLater, OpenFailed, Listening, ListenFailed, Accepted, NoPeer, AcceptFailed, Read, ReadEmpty, ReadEnd, ReadNotYet, ReadFault, Wrote, WriteNotYet, WriteFault, Shut, ShutFault, Closed, Reaped}
use Rattle.relay_model.specs.Readiness.{Listed, names}
use Rattle.relay_model.specs.Holding.{Free, Settling, Open, ShutDown, standing}
use Rattle.relay_model.specs.Choices.{one_more, or_else}
use Rattle.relay_model.specs.Configs.{input, is_of, is_place_of, accepting_door}
use Rattle.relay_model.specs.History.{now, turns, stop_said, memory_said, same_why, stage, failures, woken, accept_failed, was_closed, was_reaped, reaped_since, got, put, sent, met_end, met_empty, shut_at, read_fault_at, write_fault_at}
use Rattle.relay_model.specs.declared.stages.Stage.TheVariants.{Usable, Unsettled, Failed, Met, Waiting, Gone}
use Rattle.relay_model.specs.Arming.{read_arming, armed_to_write, armed_to_accept, asked_to_read, asked_to_write, asked_to_accept}
use Rattle.relay_model.specs.declared.armings.Arming.TheVariants.{Armed, Disarmed, AtEnd}
use Rattle.relay_model.specs.Sessions.{admitted, is_admission}
use Rattle.relay_model.specs.Transfers.{due_part, due_pieces, is_empty}
use Rattle.relay_model.specs.Moments.{moved_at}
use Rattle.relay_model.specs.Cause.{closed_why, is_end}
use Rattle.relay_model.specs.Outcome.{first_fault}
use Rattle.relay_model.specs.declared.outcomes.RunOutcome.TheVariants.{Faulted}

-- a turn sets the clock, counts, may say stop, arms and wakes what it names, and forgets what was asked
pub record TurnMakes (until : Option ℕ) (at : ℕ) (ready : Listed) (stop : Bool) (past : List Act) : Type 0 where
  pub now_is : now (Turn until at ready stop ∷ past) ≡ at
  pub turns_are : turns (Turn until at ready stop ∷ past) ≡ suc (turns past)
  pub stop_is : stop_said (Turn until at ready stop ∷ past) ≡ (stop || stop_said past)
  pub woken_is : (p : Place) → woken (Turn until at ready stop ∷ past) p ≡ (names ready.entries p ToRead || names ready.entries p ToWrite || woken past p)
  pub read_arming_is : (p : Place) → read_arming (Turn until at ready stop ∷ past) p ≡ (if names ready.entries p ToRead then Armed else read_arming past p)
  pub write_arming_is : (p : Place) → armed_to_write (Turn until at ready stop ∷ past) p ≡ (names ready.entries p ToWrite || armed_to_write past p)
  pub accept_arming_is : (d : Place) → armed_to_accept (Turn until at ready stop ∷ past) d ≡ (names ready.entries d ToRead || armed_to_accept past d)
  pub read_unasked : (p : Place) → asked_to_read (Turn until at ready stop ∷ past) p ≡ false
  pub write_unasked : (i o : Place) → asked_to_write (Turn until at ready stop ∷ past) i o ≡ false
  pub accept_unasked : (c : Config) (d : Place) → asked_to_accept c (Turn until at ready stop ∷ past) d ≡ false

-- an opening makes the place usable and arms both of its halves
pub record OpenedMakes (p : Place) (past : List Act) : Type 0 where
  pub stage_is : stage (Opened p ∷ past) p ≡ Usable
  pub standing_is : standing (Opened p ∷ past) p ≡ Open
  pub read_arming_is : read_arming (Opened p ∷ past) p ≡ Armed
  pub write_arming_is : armed_to_write (Opened p ∷ past) p ≡ true
  pub moved_is : (c : Config) (s : ℕ) → is_place_of c s p ≡ true → moved_at c (Opened p ∷ past) s ≡ now past

-- one that is under way waits for a turn that names it
pub record OpenLaterMakes (p : Place) (past : List Act) : Type 0 where
  pub stage_is : stage (OpenLater p ∷ past) p ≡ Unsettled
  pub standing_is : standing (OpenLater p ∷ past) p ≡ Settling
  pub not_woken : woken (OpenLater p ∷ past) p ≡ false

-- an opening that failed: nothing is held, and the failure stands at this moment
pub record OpenFailedMakes (p : Place) (past : List Act) : Type 0 where
  pub stage_is : stage (OpenFailed p ∷ past) p ≡ Failed
  pub standing_is : standing (OpenFailed p ∷ past) p ≡ Free
  pub failures_are : failures (OpenFailed p ∷ past) p ≡ now past ∷ failures past p

-- a listening holds the door and arms it
pub record ListeningMakes (d : Place) (past : List Act) : Type 0 where
  pub stage_is : stage (Listening d ∷ past) d ≡ Waiting
  pub standing_is : standing (Listening d ∷ past) d ≡ Open
  pub accept_arming_is : armed_to_accept (Listening d ∷ past) d ≡ true

-- a listening that failed: nothing is held, and the failure stands at this moment
pub record ListenFailedMakes (d : Place) (past : List Act) : Type 0 where
  pub stage_is : stage (ListenFailed d ∷ past) d ≡ Failed
  pub standing_is : standing (ListenFailed d ∷ past) d ≡ Free
  pub failures_are : failures (ListenFailed d ∷ past) d ≡ now past ∷ failures past d

-- an accepting gives the place its peer, arms it, has asked the door, and may begin a session
pub record AcceptedMakes (p : Place) (peer : Peer) (past : List Act) : Type 0 where
  pub stage_is : stage (Accepted p peer ∷ past) p ≡ Met peer
  pub standing_is : standing (Accepted p peer ∷ past) p ≡ Open
  pub read_arming_is : read_arming (Accepted p peer ∷ past) p ≡ Armed
  pub write_arming_is : armed_to_write (Accepted p peer ∷ past) p ≡ true
  pub accept_asked : (c : Config) → asked_to_accept c (Accepted p peer ∷ past) (accepting_door c p) ≡ true
  pub moved_is : (c : Config) (s : ℕ) → is_place_of c s p ≡ true → moved_at c (Accepted p peer ∷ past) s ≡ now past
  pub admitted_is : (c : Config) → admitted c (Accepted p peer ∷ past) ≡ one_more (is_admission c p peer) (admitted c past)

-- no peer was there: the door is disarmed and was asked
pub record NoPeerMakes (d : Place) (past : List Act) : Type 0 where
  pub accept_arming_is : armed_to_accept (NoPeer d ∷ past) d ≡ false
  pub accept_asked : (c : Config) → asked_to_accept c (NoPeer d ∷ past) d ≡ true

-- an accepting failed at the door, which was asked
pub record AcceptFailedMakes (d : Place) (past : List Act) : Type 0 where
  pub accept_failed_is : accept_failed (AcceptFailed d ∷ past) d ≡ true
  pub accept_asked : (c : Config) → asked_to_accept c (AcceptFailed d ∷ past) d ≡ true

-- a read adds its bytes to what was got and its piece to what is due, and its output may be asked anew
pub record ReadMakes (p : Place) (bytes : List ℕ) (past : List Act) : Type 0 where
  pub got_is : got (Read p bytes ∷ past) p ≡ got past p ++ bytes
  pub read_asked : asked_to_read (Read p bytes ∷ past) p ≡ true
  pub write_unasked : (o : Place) → asked_to_write (Read p bytes ∷ past) p o ≡ false
  pub moved_is : (c : Config) (s : ℕ) → is_place_of c s p ≡ true → moved_at c (Read p bytes ∷ past) s ≡ now past
  pub due_pieces_are :
      (c : Config) (s : ℕ) (w : Way) → p ≡ input c s w → is_empty (due_part c w (got past p) bytes) ≡ false →
      due_pieces c (Read p bytes ∷ past) s w ≡ due_pieces c past s w ++ due_part c w (got past p) bytes ∷ []

-- an empty datagram came, and the input was asked
pub record ReadEmptyMakes (p : Place) (past : List Act) : Type 0 where
  pub met_empty_is : met_empty (ReadEmpty p ∷ past) p ≡ true
  pub read_asked : asked_to_read (ReadEmpty p ∷ past) p ≡ true

-- an end disarms its input for a while
pub record ReadEndMakes (p : Place) (past : List Act) : Type 0 where
  pub met_end_is : met_end (ReadEnd p ∷ past) p ≡ true
  pub read_arming_is : read_arming (ReadEnd p ∷ past) p ≡ AtEnd (now past)
  pub read_asked : asked_to_read (ReadEnd p ∷ past) p ≡ true

-- nothing was there yet: the input is disarmed and was asked
pub record ReadNotYetMakes (p : Place) (past : List Act) : Type 0 where
  pub read_arming_is : read_arming (ReadNotYet p ∷ past) p ≡ Disarmed
  pub read_asked : asked_to_read (ReadNotYet p ∷ past) p ≡ true

-- a read failed at this moment, and the input was asked
pub record ReadFaultMakes (p : Place) (past : List Act) : Type 0 where
  pub read_fault_is : read_fault_at (ReadFault p ∷ past) p ≡ Some (now past)
  pub read_asked : asked_to_read (ReadFault p ∷ past) p ≡ true
  pub first_fault_is : (c : Config) (s : ℕ) → is_place_of c s p ≡ true → first_fault c (ReadFault p ∷ past) s ≡ or_else (first_fault c past s) (Some (Faulted p ToRead))

-- a write adds its bytes to what was put and sent
pub record WroteMakes (p : Place) (bytes : List ℕ) (past : List Act) : Type 0 where
  pub put_is : put (Wrote p bytes ∷ past) p ≡ put past p ++ bytes
  pub sent_is : sent (Wrote p bytes ∷ past) p ≡ sent past p ++ bytes ∷ []
  pub write_asked : (i : Place) → asked_to_write (Wrote p bytes ∷ past) i p ≡ true
  pub moved_is : (c : Config) (s : ℕ) → is_place_of c s p ≡ true → moved_at c (Wrote p bytes ∷ past) s ≡ now past

-- nothing was taken yet: the output is disarmed and was asked
pub record WriteNotYetMakes (p : Place) (past : List Act) : Type 0 where
  pub write_arming_is : armed_to_write (WriteNotYet p ∷ past) p ≡ false
  pub write_asked : (i : Place) → asked_to_write (WriteNotYet p ∷ past) i p ≡ true

-- a write failed at this moment, and the output was asked
pub record WriteFaultMakes (p : Place) (past : List Act) : Type 0 where
  pub write_fault_is : write_fault_at (WriteFault p ∷ past) p ≡ Some (now past)
  pub write_asked : (i : Place) → asked_to_write (WriteFault p ∷ past) i p ≡ true
  pub first_fault_is : (c : Config) (s : ℕ) → is_place_of c s p ≡ true → first_fault c (WriteFault p ∷ past) s ≡ or_else (first_fault c past s) (Some (Faulted p ToWrite))

-- an end that is passed on, or fails to be, stands from then on
pub record ShutMakes (act : Act) (p : Place) (past : List Act) : Type 0 where
  pub shut_is : shut_at (act ∷ past) p ≡ Some (now past)
  pub standing_is : standing (act ∷ past) p ≡ ShutDown

-- a closing ends the holding, and may end the session
pub record ClosedMakes (p : Place) (why : Why) (past : List Act) : Type 0 where
  pub stage_is : stage (Closed p why ∷ past) p ≡ Gone why
  pub standing_is : standing (Closed p why ∷ past) p ≡ Free
  pub was_closed_is : was_closed (Closed p why ∷ past) p ≡ true
  pub reaped_since_is : reaped_since (Closed p why ∷ past) p ≡ false
  pub stop_is : stop_said (Closed p why ∷ past) ≡ (same_why why whys.Stopped || stop_said past)
  pub memory_is : memory_said (Closed p why ∷ past) ≡ (same_why why whys.Memory || memory_said past)
  pub closed_why_is : (c : Config) (s : ℕ) → is_of c s p ≡ true → is_end p why ≡ true → closed_why c (Closed p why ∷ past) s ≡ Some why

-- the child of the place was reaped, since its last closing too
pub record ReapedMakes (act : Act) (p : Place) (past : List Act) : Type 0 where
  pub was_reaped_is : was_reaped (act ∷ past) p ≡ true
  pub reaped_since_is : reaped_since (act ∷ past) p ≡ true

-- what an act makes of what is said; a note changes nothing of it
abbrev pub Makes : Act → List Act → Type 0
Makes (Turn until at ready stop) past = TurnMakes until at ready stop past
Makes (Opened p) past = OpenedMakes p past
Makes (OpenLater p) past = OpenLaterMakes p past
Makes (OpenFailed p) past = OpenFailedMakes p past
Makes (Listening d) past = ListeningMakes d past
Makes (ListenFailed d) past = ListenFailedMakes d past
Makes (Accepted p peer) past = AcceptedMakes p peer past
Makes (NoPeer d) past = NoPeerMakes d past
Makes (AcceptFailed d) past = AcceptFailedMakes d past
Makes (Read p bytes) past = ReadMakes p bytes past
Makes (ReadEmpty p) past = ReadEmptyMakes p past
Makes (ReadEnd p) past = ReadEndMakes p past
Makes (ReadNotYet p) past = ReadNotYetMakes p past
Makes (ReadFault p) past = ReadFaultMakes p past
Makes (Wrote p bytes) past = WroteMakes p bytes past
Makes (WriteNotYet p) past = WriteNotYetMakes p past
Makes (WriteFault p) past = WriteFaultMakes p past
Makes (Shut p way) past = ShutMakes (Shut p way) p past
Makes (ShutFault p way) past = ShutMakes (ShutFault p way) p past
Makes (Closed p why) past = ClosedMakes p why past
Makes (Reaped p end) past = ReapedMakes (Reaped p end) p past
Makes act past = Unit {0}

-- the step laws: what each kind of act changes
abbrev pub StepsChange : Type 0
StepsChange = (act : Act) (past : List Act) → Makes act past
