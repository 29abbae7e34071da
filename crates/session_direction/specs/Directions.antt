-- What a direction stands for after a list of acts, and what its wants say of it.
use Rattle.std.specs.Prelude.{◌≡◌, ℕ, ◌≤◌, Bool, true, false, not, ◌&&◌, ◌||◌, List, [], ◌∷◌, ◌++◌, is_some}
use Rattle.relay_model.specs.{Way, Config, Act, ReadyAt, Listed, only_if, input, output, formed, options_of, medium_of, keeps_borders, how}
use Rattle.relay_model.specs.{Medium, packet_cap, got, put, sent, met_end, met_empty, read_arming, armed_to_read, armed_to_write, asked_to_read}
use Rattle.relay_model.specs.{asked_to_write, due_pieces, over, backlog, greatest_read, passed_at, broken_at, is_going, owes_read, owes_write}
use Rattle.relay_model.specs.{must_pass, MayRead, MayTryWrite, MayShut}
use Rattle.relay_model.specs.declared.media.Medium.TheVariants.{Standard, Storage, Program, Connection, Datagrams}
use Rattle.relay_buffer.specs.{Lane, IsFlow, room_in}
use Rattle.session_direction.specs.declared.directions.Want.{Want}
use Rattle.session_direction.specs.declared.directions.Want.TheVariants as wants
use Rattle.session_direction.specs.States.{DirectionState, can_read, can_write}

-- how the direction passes bytes on; the options of a place are the same in each session
abbrev pub terms_of : Config → Way → Lane
terms_of c w =
    record {
      block = c.block;
      how = record { read = (options_of c (input c 0 w)).conv; write = (options_of c (output c 0 w)).conv };
      readbytes = (options_of c (input c 0 w)).input.readbytes;
      escape = (options_of c (input c 0 w)).input.escape;
      packets = only_if (keeps_borders c w) (packet_cap (options_of c (output c 0 w)).conv);
    }

-- bytes from such a medium come in small pieces, which are gathered up to a block before they are written
abbrev pub is_gathered : Medium → Bool
is_gathered Standard = true
is_gathered Storage = true
is_gathered Program = true
is_gathered Connection = false
is_gathered Datagrams = false

-- an end that counts was met: one of the input, or an empty packet
abbrev pub met_last : Config → List Act → ℕ → Way → Bool
met_last c past s w =
    met_end past (input c s w) && not (options_of c (input c s w)).input.ignoreeof
    || met_empty past (input c s w) && (options_of c (input c s w)).input.null_eof

-- the bytes as one piece, or no piece where there are none
abbrev pub as_pieces : List ℕ → List (List ℕ)
as_pieces [] = []
as_pieces (b ∷ bs) = (b ∷ bs) ∷ []

-- where the end was passed on, nothing waits and the input is over
pub record IsSpent (c : Config) (past : List Act) (s : ℕ) (w : Way) (d : DirectionState) : Type 0 where
  pub emptied : d.flow.backlog ≡ []
  pub is_over : over c past (input c s w) ≡ true

-- each field is what the list of acts says
pub record IsDirection (c : Config) (past : List Act) (s : ℕ) (w : Way) (d : DirectionState) : Type 0 where
  -- what the command says of it
  pub is_formed : formed c w ≡ true
  pub source_is : d.source ≡ input c s w
  pub sink_is : d.sink ≡ output c s w
  pub ignores_end_is : d.ignores_end ≡ (options_of c (input c s w)).input.ignoreeof
  pub ends_at_empty_is : d.ends_at_empty ≡ (options_of c (input c s w)).input.null_eof
  pub sloppy_is : d.sloppy ≡ c.sloppy
  pub how_is : d.how ≡ how c (output c s w)
  pub gathers_is : d.gathers ≡ is_gathered (medium_of c (input c s w))
  -- its bytes
  pub flow_is : IsFlow (terms_of c w) (got past (input c s w)) (put past (output c s w)) d.flow
  -- what may be asked, and what was asked
  pub arming_is : d.arming ≡ read_arming past (input c s w)
  pub armed_out_is : d.armed_out ≡ armed_to_write past (output c s w)
  pub asked_in_is : d.asked_in ≡ asked_to_read past (input c s w)
  pub asked_out_is : d.asked_out ≡ asked_to_write past (input c s w) (output c s w)
  -- whether its end was met and passed on, and whether it is broken
  pub ended_is : d.ended ≡ met_last c past s w
  pub passed_is : d.passed_at ≡ passed_at c past s w
  pub broken_is : d.broken_at ≡ broken_at c past s w
  -- the pieces that wait, and what a passed end leaves
  pub pieces_are : keeps_borders c w ≡ true → due_pieces c past s w ≡ sent past (output c s w) ++ as_pieces d.flow.backlog
  pub passed_is_spent : is_some d.passed_at ≡ true → IsSpent c past s w d

-- a list of entries as a turn keeps it
abbrev pub listed : List ReadyAt → Listed
listed entries = record { entries = entries; room = 0 }

-- ---- wants

-- bytes may be offered to the output
pub record WantsWrite (c : Config) (past : List Act) (s : ℕ) (w : Way) (keeps : Bool) : Type 0 where
  pub may : MayTryWrite c past (output c s w)
  pub borders : keeps_borders c w ≡ keeps

-- so many bytes may be read, as many as there is room for
pub record WantsRead (c : Config) (past : List Act) (s : ℕ) (w : Way) (n : ℕ) : Type 0 where
  pub may : MayRead c past (input c s w) n
  pub size : n ≡ greatest_read c past s w

-- nothing is left to be done before the next turn
pub record WantsNothing (c : Config) (past : List Act) (s : ℕ) (w : Way) : Type 0 where
  pub read_tried : owes_read c past s w ≡ true → asked_to_read past (input c s w) ≡ true
  pub write_tried : owes_write c past s w ≡ true → asked_to_write past (input c s w) (output c s w) ≡ true
  pub passed_on : must_pass c past s w ≡ false
  pub read_ahead : is_going c past s w ≡ true → armed_to_read past (input c s w) ≡ true → over c past (input c s w) ≡ false → backlog c past s w ≤ c.block → 1 ≤ greatest_read c past s w → asked_to_read past (input c s w) ≡ true

-- what a want says of the acts: what is wanted may come, or nothing is left to be done before the next turn
abbrev pub Wants : Config → List Act → ℕ → Way → Want → Type 0
Wants c past s w (wants.Shut way) = MayShut c past (output c s w) way
Wants c past s w wants.Write = WantsWrite c past s w false
Wants c past s w wants.Send = WantsWrite c past s w true
Wants c past s w (wants.Read n) = WantsRead c past s w n
Wants c past s w wants.Nothing = WantsNothing c past s w

-- what is wanted can be paid for
abbrev pub Affords : DirectionState → (extra : ℕ) → Want → Type 0
Affords d extra (wants.Read n) = can_read d extra ≡ true
Affords d extra wants.Write = can_write d extra ≡ true
Affords d extra wants.Send = can_write d extra ≡ true
Affords d extra other = Unit {0}

-- what is wanted to be read has room
abbrev pub FitsRoom : DirectionState → Want → Type 0
FitsRoom d (wants.Read n) = n ≡ room_in d.flow
FitsRoom d other = Unit {0}
