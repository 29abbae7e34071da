-- Which act may come after a list of acts, and which lists are legal.
use Rattle.std.specs.Prelude.{◌≡◌, ℕ, ◌<◌, ◌≤◌, Bool, true, false, ◌⊎◌, List, [], ◌∷◌, ◌++◌, length, Option, Some, None}
use Rattle.relay_model.specs.declared.places.Place.{Place}
use Rattle.relay_model.specs.declared.commands.Config.{Config}
use Rattle.relay_model.specs.declared.acts.Why.{Why}
use Rattle.relay_model.specs.declared.acts.Why.TheVariants as whys
use Rattle.relay_model.specs.declared.acts.Shut.{Shut as Shutting}
use Rattle.relay_model.specs.declared.acts.Act.{Act}
use Rattle.relay_model.specs.declared.acts.Act.TheVariants.{Turn, Opened, OpenLater, OpenFailed, Listening, ListenFailed, Accepted, NoPeer, AcceptFailed, Read, ReadEmpty, ReadEnd, ReadNotYet, ReadFault, Wrote, WriteNotYet, WriteFault, Shut, ShutFault, Closed, Reaped, Note, NoteFault}
use Rattle.relay_model.specs.Places.{same_place}
use Rattle.relay_model.specs.Configs.{input, output, way_from, way_to, is_program_door, program_door, medium_of, is_program, keeps_borders, how}
use Rattle.relay_model.specs.History.{turns, held, got, put, sent, stop_said, memory_said, accept_failed, was_closed, was_reaped}
use Rattle.relay_model.specs.Arming.{armed_to_read, armed_to_write}
use Rattle.relay_model.specs.Transfers.{due, due_pieces, over, backlog, greatest_read, is_spent}
use Rattle.relay_model.specs.Moments.{passed}
use Rattle.relay_model.specs.declared.calls.Call.TheVariants.{Open, Settle, Listen, Accept, Refuse, Serve}
use Rattle.relay_model.specs.Cause.{cause, closed_why}
use Rattle.relay_model.specs.Calls.{called_at}
use Rattle.relay_model.specs.Rest.{owed, is_going, Rest, until_of}

-- ---- reads and writes

-- the place is the input of a direction that can be read on
pub record MayAsk (c : Config) (past : List Act) (p : Place) : Type 0 where
  pub is_input : same_place p (input c p.session (way_from p.side)) ≡ true
  pub moving : is_going c past p.session (way_from p.side) ≡ true
  pub not_passed : passed c past p.session (way_from p.side) ≡ false
  pub not_over : over c past p ≡ false
  pub armed : armed_to_read past p ≡ true

-- so many bytes may be read, of as many as there is room for
pub record MayRead (c : Config) (past : List Act) (p : Place) (n : ℕ) : Type 0 where
  pub asks : MayAsk c past p
  pub some_bytes : 1 ≤ n
  pub in_room : n ≤ greatest_read c past p.session (way_from p.side)

-- the place is the output of a direction that can be written on
pub record MayOffer (c : Config) (past : List Act) (p : Place) : Type 0 where
  pub is_output : same_place p (output c p.session (way_to p.side)) ≡ true
  pub moving : is_going c past p.session (way_to p.side) ≡ true
  pub not_passed : passed c past p.session (way_to p.side) ≡ false
  pub armed : armed_to_write past p ≡ true

-- the list begins with these items
abbrev pub BeginsWith : {T : Type 0} → List T → List T → Type 0
BeginsWith {T} first list = (rest : List T) × (list ≡ first ++ rest)

-- where borders are kept, the pieces written are the pieces due
abbrev pub KeepsBorders : Bool → List (List ℕ) → List (List ℕ) → Type 0
KeepsBorders true pieces due = BeginsWith pieces due
KeepsBorders false pieces due = Unit {0}

-- these bytes may be taken at the place: with those before them they begin what is due, and keep its borders
pub record MayWrite (c : Config) (past : List Act) (p : Place) (bytes : List ℕ) : Type 0 where
  pub offers : MayOffer c past p
  pub some_bytes : 1 ≤ length bytes
  pub is_due : BeginsWith (put past p ++ bytes) (due c (way_to p.side) (got past (input c p.session (way_to p.side))))
  pub pieces : KeepsBorders (keeps_borders c (way_to p.side)) (sent past p ++ bytes ∷ []) (due_pieces c past p.session (way_to p.side))

-- bytes wait, and the output is armed
pub record MayTryWrite (c : Config) (past : List Act) (p : Place) : Type 0 where
  pub offers : MayOffer c past p
  pub waiting : 1 ≤ backlog c past p.session (way_to p.side)

-- the end of the direction is passed on at this place, in this way
pub record MayShut (c : Config) (past : List Act) (p : Place) (way : Shutting) : Type 0 where
  pub is_output : same_place p (output c p.session (way_to p.side)) ≡ true
  pub moving : is_going c past p.session (way_to p.side) ≡ true
  pub spent : is_spent c past p.session (way_to p.side) ≡ true
  pub not_passed : passed c past p.session (way_to p.side) ≡ false
  pub is_how : way ≡ how c p

-- ---- openings

-- an opening or a settling of the place is called for
abbrev pub MayOpen : Config → List Act → Place → Type 0
MayOpen c past p = (called_at c past p ≡ Open p) ⊎ (called_at c past p ≡ Settle p)

-- an accepting at the door is called for
abbrev pub MayAccept : Config → List Act → Place → Type 0
MayAccept c past d = (p : Place) × (called_at c past d ≡ Accept d p)

-- ---- closings

-- why the program door of `fork` has to end
pub data DoorEnds (past : List Act) (why : Why) : Type 0 where
  for_memory : why ≡ whys.Memory → memory_said past ≡ true → DoorEnds past why
  for_stop : why ≡ whys.Stopped → stop_said past ≡ true → DoorEnds past why
  for_accept : why ≡ whys.AcceptFailed → accept_failed past program_door ≡ true → DoorEnds past why

-- what licenses a closing
pub data Licensed (c : Config) (n : ℕ) (past : List Act) (q : Place) (why : Why) : Type 0 where
  by_cause : is_program_door c q ≡ false → cause c past q.session ≡ Some why → Licensed c n past q why
  by_refusal : why ≡ whys.Refused → called_at c past q ≡ Refuse q → Licensed c n past q why
  by_service : why ≡ whys.Served → called_at c past q ≡ Serve q → Licensed c n past q why
  by_door : is_program_door c q ≡ true → DoorEnds past why → Licensed c n past q why
  by_memory : why ≡ whys.Memory → (is_program_door c q ≡ true) ⊎ (closed_why c past q.session ≡ None) → Licensed c n past q why
  by_turns : why ≡ whys.Stopped → turns past ≡ n → Rest c past → Licensed c n past q why

-- the thing is held, its closing is licensed, and no dump is owed, but for want of memory
pub record MayClose (c : Config) (n : ℕ) (past : List Act) (q : Place) (why : Why) : Type 0 where
  pub is_held : held past q ≡ true
  pub licensed : Licensed c n past q why
  pub timely : (owed c past ≡ None) ⊎ (why ≡ whys.Memory)

-- ---- all acts

-- a turn is left, a wait is in order, and it is asked to last until the moment that is due
pub record MayTurn (c : Config) (n : ℕ) (past : List Act) (until : Option ℕ) : Type 0 where
  pub turns_left : turns past < n
  pub rests : Rest c past
  pub is_until : until ≡ until_of c past

-- what is known of the child of a closed place, once
pub record MayReap (c : Config) (past : List Act) (p : Place) : Type 0 where
  pub is_child : is_program (medium_of c p) ≡ true
  pub closed : was_closed past p ≡ true
  pub first : was_reaped past p ≡ false

-- an act while no dump is owed
abbrev pub Timely : Config → List Act → Type 0 → Type 0
Timely c past Claim = (owed c past ≡ None) × Claim

-- an act may come after these
abbrev pub May : Config → ℕ → List Act → Act → Type 0
May c n past (Turn until at ready stop) = Timely c past (MayTurn c n past until)
May c n past (Opened p) = Timely c past (MayOpen c past p)
May c n past (OpenLater p) = Timely c past (MayOpen c past p)
May c n past (OpenFailed p) = Timely c past (MayOpen c past p)
May c n past (Listening d) = Timely c past (called_at c past d ≡ Listen d)
May c n past (ListenFailed d) = Timely c past (called_at c past d ≡ Listen d)
May c n past (Accepted p peer) = Timely c past ((d : Place) × (called_at c past p ≡ Accept d p))
May c n past (NoPeer d) = Timely c past (MayAccept c past d)
May c n past (AcceptFailed d) = Timely c past (MayAccept c past d)
May c n past (Read p bytes) = Timely c past (MayRead c past p (length bytes))
May c n past (ReadEmpty p) = Timely c past (MayRead c past p 1)
May c n past (ReadEnd p) = Timely c past (MayRead c past p 1)
May c n past (ReadNotYet p) = Timely c past (MayRead c past p 1)
May c n past (ReadFault p) = Timely c past (MayRead c past p 1)
May c n past (Wrote p bytes) = Timely c past (MayWrite c past p bytes)
May c n past (WriteNotYet p) = Timely c past (MayTryWrite c past p)
May c n past (WriteFault p) = Timely c past (MayTryWrite c past p)
May c n past (Shut p way) = Timely c past (MayShut c past p way)
May c n past (ShutFault p way) = Timely c past (MayShut c past p way)
May c n past (Closed q why) = MayClose c n past q why
May c n past (Reaped p end) = Timely c past (MayReap c past p)
May c n past (Note text) = owed c past ≡ Some text
May c n past (NoteFault text) = owed c past ≡ Some text

-- each act might come after the acts before it
abbrev pub Legal : Config → ℕ → List Act → Type 0
Legal c n [] = Unit {0}
Legal c n (act ∷ past) = May c n past act × Legal c n past
