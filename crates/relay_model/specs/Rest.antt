-- When a wait is in order, and until when.
use Rattle.std.specs.Prelude.{◌≡◌, ℕ, ◌-◌, ◌^◌, min, Bool, true, false, not, ◌&&◌, ◌||◌, ◌==◌, nat_lt, List, [], ◌∷◌, length, Option, Some, None, is_some, if◌then◌else◌}
use Rattle.relay_model.specs.declared.places.Way.{Way}
use Rattle.relay_model.specs.declared.places.Way.TheVariants.{LeftToRight, RightToLeft}
use Rattle.relay_model.specs.declared.commands.Config.{Config}
use Rattle.relay_model.specs.declared.commands.Dump.{Dump}
use Rattle.relay_model.specs.declared.commands.Dump.TheVariants as dumps
use Rattle.relay_model.specs.declared.acts.Act.{Act}
use Rattle.relay_model.specs.declared.acts.Act.TheVariants.{Read}
use Rattle.relay_model.specs.Choices.{earlier, later, some_below, least_below}
use Rattle.relay_model.specs.Configs.{input, output, formed, way_from, has_fork, program_door}
use Rattle.relay_model.specs.Dumps.{dump_of}
use Rattle.relay_model.specs.History.{now, got, held}
use Rattle.relay_model.specs.Arming.{read_arming, armed_to_read, armed_to_write, arming_moment, asked_to_read, asked_to_write, asked_to_accept}
use Rattle.relay_model.specs.Sessions.{holds, numbers}
use Rattle.relay_model.specs.Transfers.{over, backlog, is_spent}
use Rattle.relay_model.specs.Moments.{passed, broken, closing_moment, idle_moment}
use Rattle.relay_model.specs.declared.calls.Call.{Call}
use Rattle.relay_model.specs.declared.calls.Call.TheVariants.{Nothing, TryAt, Open, Settle, Listen, Accept, Refuse, Serve}
use Rattle.relay_model.specs.Cause.{cause, running}
use Rattle.relay_model.specs.Calls.{call, door_call, door_cut}
use Rattle.relay_model.specs.Outcome.{outcome}

-- ---- dumps

-- the text that has to be noted at once: that of a `Read` which nothing has followed yet; the count of the bytes
-- before it stops at the greatest one
abbrev pub owed : Config → List Act → Option (List ℕ)
owed c [] = None
owed c (Read q bytes ∷ past) = owed_text c.dump (dump_of c.dump (way_from q.side) (min (length (got past q)) (2 ^ 64 - 1)) bytes)
  where
    owed_text : Dump → List ℕ → Option (List ℕ)
    owed_text dumps.Off text = None
    owed_text dumps.Text text = Some text
    owed_text dumps.Hex text = Some text
    owed_text dumps.Mixed text = Some text
owed c (act ∷ past) = None

-- ---- work

-- a formed direction that no fault has broken goes
abbrev pub goes : Config → List Act → ℕ → Way → Bool
goes c past s w = formed c w && not (broken c past s w)

-- a direction of a running session that goes
abbrev pub is_going : Config → List Act → ℕ → Way → Bool
is_going c past s w = goes c past s w && running c past s

-- an armed input that may bring more, where nothing waits to be written
abbrev pub owes_read : Config → List Act → ℕ → Way → Bool
owes_read c past s w = is_going c past s w && armed_to_read past (input c s w) && not (over c past (input c s w)) && backlog c past s w == 0

-- an armed output for which bytes wait
abbrev pub owes_write : Config → List Act → ℕ → Way → Bool
owes_write c past s w = is_going c past s w && armed_to_write past (output c s w) && nat_lt 0 (backlog c past s w)

-- the end is to be passed on
abbrev pub must_pass : Config → List Act → ℕ → Way → Bool
must_pass c past s w = is_going c past s w && is_spent c past s w && not (passed c past s w)

-- an accepting is called for
abbrev pub accepts : Call → Bool
accepts (Accept door place) = true
accepts other = false

-- an opening, a settling, a listening or a closing is called for
abbrev pub presses : Call → Bool
presses Nothing = false
presses (TryAt m) = false
presses (Open p) = true
presses (Settle p) = true
presses (Listen d) = true
presses (Accept door place) = false
presses (Refuse p) = true
presses (Serve door) = true

-- ---- rest

-- an accepting that is called for was tried since the last turn
abbrev pub AcceptTried : Config → List Act → Call → Type 0
AcceptTried c past (Accept door place) = asked_to_accept c past door ≡ true
AcceptTried c past other = Unit {0}

-- a session with a cause holds nothing; nothing is called for at once; what is worth asking was asked
pub record SessionRests (c : Config) (past : List Act) (s : ℕ) : Type 0 where
  pub ended : is_some (cause c past s) ≡ true → holds c past s ≡ false
  pub no_call : presses (call c past s) ≡ false
  pub read_tried : (w : Way) → owes_read c past s w ≡ true → asked_to_read past (input c s w) ≡ true
  pub write_tried : (w : Way) → owes_write c past s w ≡ true → asked_to_write past (input c s w) (output c s w) ≡ true
  pub passed_on : (w : Way) → must_pass c past s w ≡ false
  pub accept_tried : AcceptTried c past (call c past s)

-- a program door that is cut is closed; nothing is called for at once; an accepting was tried
pub record DoorRests (c : Config) (past : List Act) : Type 0 where
  pub ended : (has_fork c && door_cut past) ≡ true → held past program_door ≡ false
  pub no_call : presses (door_call c past) ≡ false
  pub accept_tried : AcceptTried c past (door_call c past)

-- a wait is in order
pub record Rest (c : Config) (past : List Act) : Type 0 where
  pub no_outcome : outcome c past ≡ None
  pub no_dump : owed c past ≡ None
  pub sessions : (s : ℕ) → SessionRests c past s
  pub door : DoorRests c past

-- ---- until

-- a read or a write of the direction is armed
abbrev pub way_work : Config → List Act → ℕ → Way → Bool
way_work c past s w = owes_read c past s w || owes_write c past s w

-- armed work is left in the session
abbrev pub session_work : Config → List Act → ℕ → Bool
session_work c past s = way_work c past s LeftToRight || way_work c past s RightToLeft || accepts (call c past s)

-- the moment of a try that isn't due yet
abbrev pub try_moment : Call → Option ℕ
try_moment (TryAt m) = Some m
try_moment other = None

-- the moment at which an input that met an end is tried again
abbrev pub input_moment : Config → List Act → ℕ → Way → Option ℕ
input_moment c past s w =
    if is_going c past s w && not (over c past (input c s w))
    then arming_moment (read_arming past (input c s w))
    else None

-- the nearest later moment of the closing time or inactivity, of a session that runs
abbrev pub timer_moment : Config → List Act → ℕ → Option ℕ
timer_moment c past s =
    if running c past s
    then earlier (later (now past) (closing_moment c past s)) (later (now past) (idle_moment c past s))
    else None

-- the least moment, later than now, at which something of the session falls due
abbrev pub session_moment : Config → List Act → ℕ → Option ℕ
session_moment c past s =
    earlier (timer_moment c past s)
    (earlier (earlier (later (now past) (input_moment c past s LeftToRight)) (later (now past) (input_moment c past s RightToLeft)))
    (later (now past) (try_moment (call c past s))))

-- the moment of the program door's next try
abbrev pub door_moment : Config → List Act → Option ℕ
door_moment c past = later (now past) (try_moment (door_call c past))

-- until when the next wait may last: now where armed work is left, else the least moment ahead
abbrev pub until_of : Config → List Act → Option ℕ
until_of c past =
    if accepts (door_call c past) || some_below (session_work c past) (numbers c past) then Some (now past)
    else earlier (door_moment c past) (least_below (session_moment c past) (numbers c past))
