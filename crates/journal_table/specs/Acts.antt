-- The acts of a run in plain words, a line each.
use Rattle.std.specs.Prelude.{ℕ, Bool, true, false, List, [], ◌∷◌, ◌++◌, length, codes, decimal, Option, Some, None}
use Rattle.relay_model.specs.{Part, Place, Shut as Shutting, Act, now, newline}
use Rattle.relay_model.specs.declared.places.Part.TheVariants.{Both, Reading, Writing}
use Rattle.relay_model.specs.declared.acts.Shut.TheVariants as shuts
use Rattle.relay_model.specs.declared.acts.Act.TheVariants.{Turn, Opened, OpenLater, OpenFailed, Listening, ListenFailed, Accepted, NoPeer, AcceptFailed, Read, ReadEmpty, ReadEnd, ReadNotYet, ReadFault, Wrote, WriteNotYet, WriteFault, Shut, ShutFault, Closed, Reaped, Note, NoteFault}
use Rattle.place_report.specs.{shown, said}
use Rattle.journal_table.specs.Cells.{to_right, moment_text, peer_text, child_text, why_text}
use Rattle.journal_table.specs.Tables.{side_words}

-- the half that a place serves for, in words
abbrev pub part_text : Part → List ℕ
part_text Both = codes ""
part_text Reading = codes ", reading"
part_text Writing = codes ", writing"

-- whether it is a door, in words
abbrev pub door_text : Bool → List ℕ
door_text true = codes ", its door"
door_text false = codes ""

-- the place or door that an act is at
abbrev pub place_of : Act → Option Place
place_of (Turn until at ready stop) = None
place_of (Opened p) = Some p
place_of (OpenLater p) = Some p
place_of (OpenFailed p) = Some p
place_of (Listening p) = Some p
place_of (ListenFailed p) = Some p
place_of (Accepted p peer) = Some p
place_of (NoPeer p) = Some p
place_of (AcceptFailed p) = Some p
place_of (Read p bytes) = Some p
place_of (ReadEmpty p) = Some p
place_of (ReadEnd p) = Some p
place_of (ReadNotYet p) = Some p
place_of (ReadFault p) = Some p
place_of (Wrote p bytes) = Some p
place_of (WriteNotYet p) = Some p
place_of (WriteFault p) = Some p
place_of (Shut p how) = Some p
place_of (ShutFault p how) = Some p
place_of (Closed p why) = Some p
place_of (Reaped p end) = Some p
place_of (Note bytes) = None
place_of (NoteFault bytes) = None

-- an address of a session
abbrev pub address_text : Place → List ℕ
address_text p = codes "session " ++ (decimal p.session ++ (codes ", " ++ (side_words p.side ++ codes " address")))

-- what an act is of
abbrev pub subject : Option Place → List ℕ
subject None = codes "run"
subject (Some p) =
    address_text p ++ part_text p.part ++ door_text p.door

-- what happened, in words
abbrev pub verb : Act → List ℕ
verb (Turn until at ready stop) = codes "waited, ready: "
verb (Opened p) = codes "opened"
verb (OpenLater p) = codes "its opening is under way"
verb (OpenFailed p) = codes "its opening failed"
verb (Listening p) = codes "listens"
verb (ListenFailed p) = codes "its listening failed"
verb (Accepted p peer) = codes "a peer came: "
verb (NoPeer p) = codes "no peer yet"
verb (AcceptFailed p) = codes "an accepting failed"
verb (Read p bytes) = codes "bytes read: "
verb (ReadEmpty p) = codes "an empty datagram read"
verb (ReadEnd p) = codes "the end read"
verb (ReadNotYet p) = codes "nothing to read yet"
verb (ReadFault p) = codes "a read failed"
verb (Wrote p bytes) = codes "bytes written: "
verb (WriteNotYet p) = codes "no room to write yet"
verb (WriteFault p) = codes "a write failed"
verb (Shut p how) = codes "the end passed on by "
verb (ShutFault p how) = codes "the end couldn't be passed on by "
verb (Closed p why) = codes "closed: "
verb (Reaped p end) = codes "its child: "
verb (Note bytes) = codes "bytes noted: "
verb (NoteFault bytes) = codes "bytes that couldn't be noted: "

-- how an end is passed on
abbrev pub shut_text : Shutting → List ℕ
shut_text shuts.Nothing = codes "nothing"
shut_text shuts.Down = codes "ending the writing half"
shut_text shuts.Close = codes "closing"
shut_text shuts.Null = codes "an empty datagram"

-- how many entries a turn named, and whether it said stop
abbrev pub turn_detail : ℕ → Bool → List ℕ
turn_detail count true = decimal count ++ codes ", and a stop"
turn_detail count false = decimal count

-- what more is known of an act
abbrev pub detail : Act → List ℕ
detail (Turn until at ready stop) = turn_detail (length ready.entries) stop
detail (Accepted p peer) = peer_text peer
detail (Read p bytes) = decimal (length bytes)
detail (Wrote p bytes) = decimal (length bytes)
detail (Note bytes) = decimal (length bytes)
detail (NoteFault bytes) = decimal (length bytes)
detail (Shut p how) = shut_text how
detail (ShutFault p how) = shut_text how
detail (Closed p why) = why_text why
detail (Reaped p end) = child_text end
detail act = codes ""

-- the line of an act that came at this moment
abbrev pub act_line : ℕ → Act → List ℕ
act_line at act =
    to_right 10 (moment_text (Some at)) ++ (shown (subject (place_of act)) ++ (said ": "
    ++ (shown (verb act) ++ (shown (detail act) ++ newline))))

-- a line for each act, the oldest first
abbrev pub acts_text : List Act → List ℕ
acts_text [] = []
acts_text (act ∷ past) = acts_text past ++ act_line (now (act ∷ past)) act
