-- The row of a session in a table: when it began and ended, what passed each way, and how each way ended.
use Rattle.std.specs.Prelude.{◌≡◌, ℕ, ◌-◌, Bool, ◌||◌, nat_lt, List, length, Option, Some, None, is_some, unwrap_or, if◌then◌else◌}
use Rattle.relay_model.specs.{Way, Config, Act, input, output, formed, now, got, put, read_fault_at, write_fault_at, numbers, moved_at, passed}
use Rattle.relay_model.specs.{closed_why}
use Rattle.relay_model.specs.declared.places.Way.TheVariants.{LeftToRight, RightToLeft}
use Rattle.journal_table.specs.declared.rows.WayEnding.{WayEnding}
use Rattle.journal_table.specs.declared.rows.WayEnding.TheVariants.{Open, Passed, Failed, Cut}
use Rattle.journal_table.specs.declared.rows.WayTraffic.{WayTraffic}
use Rattle.journal_table.specs.declared.rows.SessionRow.{SessionRow}
use Rattle.journal_table.specs.Visits.{began_at, ended_at}

-- a read or a write of a direction failed
abbrev pub failed : Config → List Act → ℕ → Way → Bool
failed c past s w = is_some (read_fault_at past (input c s w)) || is_some (write_fault_at past (output c s w))

-- how far a direction came: its end was passed on, or something of it failed before, or its session was closed before
abbrev pub ending_of : Config → List Act → ℕ → Way → WayEnding
ending_of c past s w =
    if passed c past s w then Passed
    else (if failed c past s w then Failed
    else (if is_some (closed_why c past s) then Cut else Open))

-- what went through a direction, where the command forms it: how many bytes were read and how many were written
abbrev pub passage_of : Config → List Act → ℕ → Way → Option WayTraffic
passage_of c past s w =
    if formed c w
    then Some (record { read = length (got past (input c s w)); written = length (put past (output c s w)); ending = ending_of c past s w })
    else None

-- how long nothing of a session had moved when it ended, or else when the last turn was made
abbrev pub idle_of : Config → List Act → ℕ → ℕ
idle_of c past s = unwrap_or (ended_at c past s) (now past) - moved_at c past s

-- the row of a session
abbrev pub row_of : Config → List Act → ℕ → SessionRow
row_of c past s = record {
  session = s;
  began = began_at c past s;
  ended = ended_at c past s;
  idle = idle_of c past s;
  right = passage_of c past s LeftToRight;
  left = passage_of c past s RightToLeft;
  why = closed_why c past s;
}

-- the sessions that have begun are just those that have a moment at which they began
abbrev pub ASessionBeginsOnce : Type 0
ASessionBeginsOnce = (c : Config) (past : List Act) (s : ℕ) → is_some (began_at c past s) ≡ nat_lt s (numbers c past)
