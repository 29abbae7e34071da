-- The table: a row for each session that has begun, and the outcome.
use Rattle.std.specs.Prelude.{◌≡◌, ℕ, zero, suc, is_some, nat_lt, List, [], ◌∷◌, ◌++◌, codes, decimal, Option, Some, None}
use Rattle.relay_model.specs.{Side, Half, Place, Config, Why, Act, places, numbers, outcome, RunOutcome, newline}
use Rattle.relay_model.specs.declared.places.Side.TheVariants.{Left, Right}
use Rattle.relay_model.specs.declared.places.Half.TheVariants.{ToRead, ToWrite}
use Rattle.relay_model.specs.declared.outcomes.RunOutcome.TheVariants as outcomes
use Rattle.place_report.specs.{shown, said}
use Rattle.journal_table.specs.declared.rows.WayTraffic.{WayTraffic}
use Rattle.journal_table.specs.declared.rows.SessionRow.{SessionRow}
use Rattle.journal_table.specs.Visits.{met_at, child_at, began_at}
use Rattle.journal_table.specs.Rows.{row_of}
use Rattle.journal_table.specs.Cells.{to_left, to_right, moment_text, peer_cell, child_cell, beside, why_text, ending_text}

-- a text, or a dash where it is empty
abbrev pub or_dash : List ℕ → List ℕ
or_dash [] = said "-"
or_dash (byte ∷ bytes) = byte ∷ bytes

-- the peers that came to places, behind those before them
abbrev pub peers_beside : Config → List Act → List ℕ → List Place → List ℕ
peers_beside c past before [] = before
peers_beside c past before (p ∷ ps) = peers_beside c past (beside before (peer_cell (met_at c past p))) ps

-- the peers that came to the places of a session, or a dash
abbrev pub peers_cell : Config → List Act → ℕ → List ℕ
peers_cell c past s = or_dash (peers_beside c past [] (places c s))

-- what became of the children of places, behind those before them
abbrev pub children_beside : List Act → List ℕ → List Place → List ℕ
children_beside past before [] = before
children_beside past before (p ∷ ps) = children_beside past (beside before (child_cell (child_at past p))) ps

-- what became of the children of a session, or a dash
abbrev pub children_cell : Config → List Act → ℕ → List ℕ
children_cell c past s = or_dash (children_beside past [] (places c s))

-- a session, its peers, when it began and ended, and how long nothing had moved then
abbrev pub visit_cells : SessionRow → List ℕ → List ℕ
visit_cells row peers =
    to_right 7 (decimal row.session) ++ (to_left 22 peers ++ (to_right 10 (moment_text row.began)
    ++ (to_right 10 (moment_text row.ended) ++ to_right 10 (moment_text (Some row.idle)))))

-- what went through a direction, or dashes where the command doesn't form it
abbrev pub passage_cells : Option WayTraffic → List ℕ
passage_cells None = to_right 10 (said "-") ++ (to_right 10 (said "-") ++ to_left 6 (said "-"))
passage_cells (Some passage) =
    to_right 10 (decimal passage.read) ++ (to_right 10 (decimal passage.written) ++ to_left 6 (shown (ending_text passage.ending)))

-- why a session was closed, or a dash
abbrev pub why_cell : Option Why → List ℕ
why_cell None = said "-"
why_cell (Some why) = shown (why_text why)

-- the line of a row
abbrev pub row_line : SessionRow → List ℕ → List ℕ → List ℕ
row_line row peers children =
    visit_cells row peers ++ (passage_cells row.right ++ (passage_cells row.left ++ (to_left 8 children ++ (why_cell row.why ++ newline))))

-- the line of a session
abbrev pub session_line : Config → List Act → ℕ → List ℕ
session_line c past s = row_line (row_of c past s) (peers_cell c past s) (children_cell c past s)

-- the lines of the first sessions, so many
abbrev pub rows_below : Config → List Act → ℕ → List ℕ
rows_below c past zero = []
rows_below c past (suc s) = rows_below c past s ++ session_line c past s

-- the first line
abbrev pub heading : List ℕ
heading =
    said "session peer                        began      ended       idle     > read  > written > end      < read  < written < end  child    closed by" ++ newline

-- an address of the command
abbrev pub side_words : Side → List ℕ
side_words Left = codes "first"
side_words Right = codes "second"

-- what was tried
abbrev pub half_words : Half → List ℕ
half_words ToRead = codes "read"
half_words ToWrite = codes "write"

-- how a run ended, in words
abbrev pub outcome_words : Option RunOutcome → List ℕ
outcome_words None = codes "none yet"
outcome_words (Some outcomes.Memory) = codes "memory was wanting"
outcome_words (Some (outcomes.Stopped turns)) = codes "stopped after " ++ decimal turns ++ codes " turns"
outcome_words (Some outcomes.AcceptFailed) = codes "an accepting failed"
outcome_words (Some (outcomes.ListenFailed tries)) = codes "no listening succeeded in " ++ decimal tries ++ codes " tries"
outcome_words (Some (outcomes.OpenFailed side tries)) =
    codes "no opening of the " ++ side_words side ++ codes " address succeeded in " ++ decimal tries ++ codes " tries"
outcome_words (Some (outcomes.Faulted place half)) =
    codes "a " ++ half_words half ++ codes " failed at the " ++ side_words place.side ++ codes " address"
outcome_words (Some (outcomes.Ended why)) = why_text why

-- the last line
abbrev pub outcome_line : Option RunOutcome → List ℕ
outcome_line ended = said "outcome: " ++ (shown (outcome_words ended) ++ newline)

-- a line for each session that has begun, and how the run ended
abbrev pub table_text : Config → List Act → List ℕ
table_text c past = heading ++ (rows_below c past (numbers c past) ++ outcome_line (outcome c past))

-- the table of these acts, in which just those sessions have a row that have a moment at which they began
pub record TableTold (c : Config) (past : List Act) (text : List ℕ) : Type 0 where
  pub whole : text ≡ table_text c past
  pub begun : (s : ℕ) → is_some (began_at c past s) ≡ nat_lt s (numbers c past)
