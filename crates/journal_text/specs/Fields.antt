-- How each field of a line is spelt. A byte is two lower-case hexadecimal digits, and a number has no zeros in front.
use Rattle.std.specs.Prelude.{ℕ, Bool, true, false, List, [], ◌∷◌, ◌++◌, map, codes, Option, Some, None}
use Rattle.std.specs.Fmt.{decimal, signed_decimal}
use Rattle.std.specs.List.{flat_map, join_with_byte}
use Rattle.std.specs.Str.{byte}
use Rattle.relay_model.specs.{hex_byte, Side, Part, Half, Place, ReadyAt, Peer, Shut, Why, ChildEnd}
use Rattle.relay_model.specs.declared.places.Side.TheVariants.{Left, Right}
use Rattle.relay_model.specs.declared.places.Part.TheVariants.{Both, Reading, Writing}
use Rattle.relay_model.specs.declared.places.Half.TheVariants.{ToRead, ToWrite}
use Rattle.relay_model.specs.declared.acts.Peer.TheVariants.{V4, V6, Local}
use Rattle.relay_model.specs.declared.acts.Shut.TheVariants.{Nothing, Down, Close, Null}
use Rattle.relay_model.specs.declared.acts.Why.TheVariants as reason
use Rattle.relay_model.specs.declared.acts.ChildEnd.TheVariants.{Running, Ended, Killed}

-- the letter of a side
abbrev pub side_letter : Side → ℕ
side_letter Left = byte "L"
side_letter Right = byte "R"

-- the letter of a part
abbrev pub part_letter : Part → ℕ
part_letter Both = byte "B"
part_letter Reading = byte "I"
part_letter Writing = byte "O"

-- the letter of a door, or of none
abbrev pub door_letter : Bool → ℕ
door_letter true = byte "d"
door_letter false = byte "-"

-- the letter of a half
abbrev pub half_letter : Half → ℕ
half_letter ToRead = byte "r"
half_letter ToWrite = byte "w"

-- 1 or 0
abbrev pub flag_text : Bool → List ℕ
flag_text true = codes "1"
flag_text false = codes "0"

-- a number, or a dash for none
abbrev pub optional_text : Option ℕ → List ℕ
optional_text None = codes "-"
optional_text (Some n) = decimal n

-- the session and three letters
abbrev pub place_text : Place → List ℕ
place_text p = decimal p.session ++ side_letter p.side ∷ part_letter p.part ∷ door_letter p.door ∷ []

-- a place and its half
abbrev pub entry_text : ReadyAt → List ℕ
entry_text entry = place_text entry.place ++ half_letter entry.half ∷ []

-- what a turn names, with one comma between
abbrev pub ready_text : List ReadyAt → List ℕ
ready_text [] = codes "-"
ready_text (entry ∷ entries) = join_with_byte (byte ",") (map entry_text (entry ∷ entries))

-- two hexadecimal digits for each byte
abbrev pub digits_text : List ℕ → List ℕ
digits_text bytes = flat_map hex_byte bytes

-- bytes as a field
abbrev pub bytes_text : List ℕ → List ℕ
bytes_text bytes = byte "x" ∷ digits_text bytes

-- a peer as a field
abbrev pub peer_text : Peer → List ℕ
peer_text (V4 addr port) = codes "4:" ++ digits_text addr ++ codes ":" ++ decimal port
peer_text (V6 addr port) = codes "6:" ++ digits_text addr ++ codes ":" ++ decimal port
peer_text Local = codes "l"

-- the word for how an end is passed on
abbrev pub shut_text : Shut → List ℕ
shut_text Nothing = codes "nothing"
shut_text Down = codes "down"
shut_text Close = codes "close"
shut_text Null = codes "null"

-- the word for the reason of a closing
abbrev pub why_text : Why → List ℕ
why_text reason.Finished = codes "finished"
why_text reason.ClosingTime = codes "closingtime"
why_text reason.Idle = codes "idle"
why_text reason.Faulted = codes "faulted"
why_text reason.OpenFailed = codes "openfailed"
why_text reason.ListenFailed = codes "listenfailed"
why_text reason.AcceptFailed = codes "acceptfailed"
why_text reason.Refused = codes "refused"
why_text reason.Served = codes "served"
why_text reason.Stopped = codes "stopped"
why_text reason.Memory = codes "memory"

-- the words for what became of a child
abbrev pub child_text : ChildEnd → List ℕ
child_text Running = codes "running"
child_text Killed = codes "killed"
child_text (Ended status) = codes "ended " ++ signed_decimal status
