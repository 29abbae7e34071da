-- What a timeline shows, and what a picture is made of.
use Rattle.std.specs.Prelude.{◌≡◌, ℕ, zero, suc, List, ◌++◌, length, decimal, Some}
use Rattle.relay_model.specs.{Config, Act, now, numbers, closed_why, newline}
use Rattle.place_report.specs.{said}
use Rattle.journal_table.specs.{to_left, to_right, moment_text, peers_cell, why_cell}

-- ---- timelines

-- a text grew by so many cells of one byte
pub record AddsCells (count : ℕ) (old new : List ℕ) : Type 0 where
  pub cells : List ℕ
  pub grew : new ≡ old ++ cells
  pub wide : length cells ≡ count

-- a text grew by the row of a session: its number, sixty signs, its peers, and why it was closed
pub record AddsRow (c : Config) (past : List Act) (s : ℕ) (old new : List ℕ) : Type 0 where
  pub signs : List ℕ
  pub wide : length signs ≡ 60
  pub grew : new ≡ old ++ (to_right 7 (decimal s) ++ (said "|" ++ (signs ++ (said "| " ++ (to_left 22 (peers_cell c past s) ++ (why_cell (closed_why c past s) ++ newline))))))

-- a text grew by the rows of the first sessions, so many
abbrev pub AddsRows : Config → List Act → ℕ → List ℕ → List ℕ → Type 0
AddsRows c past zero old new = new ≡ old
AddsRows c past (suc s) old new = (mid : List ℕ) × AddsRows c past s old mid × AddsRow c past s mid new

-- the first line: when the run began, and when its last turn was made
abbrev pub scale_line : ℕ → List ℕ
scale_line span = said "session |0 s" ++ (to_right 55 (moment_text (Some span)) ++ (said "s|" ++ newline))

-- the last line: what the signs stand for
abbrev pub legend : List ℕ
legend =
    said "o opened  ? an opening failed  > < = bytes passed  ) ( an end passed on  ! failed  | finished  x cut  - nothing" ++ newline

-- a row for each session that has begun, with time to the right
pub record TimelineTold (c : Config) (past : List Act) (text : List ℕ) : Type 0 where
  pub rows : List ℕ
  pub drawn : AddsRows c past (numbers c past) (scale_line (now past)) rows
  pub whole : text ≡ rows ++ legend
