-- Texts that grew by cells and by rows.
use Rattle.std.proofs.Common.{◌≡◌, ℕ, ◌+◌, List, [], ◌++◌, length, refl, sym, ap, ◌∙◌, subst, append_assoc, length-append, add-one, arith}
use Rattle.std.specs.Prelude.{decimal}
use Rattle.std.proofs.lemmas.List.{append-nil}
use Rattle.relay_model.specs.declared.commands.Config.{Config}
use Rattle.relay_model.specs.declared.acts.Act.{Act}
use Rattle.relay_model.specs.History.{now}
use Rattle.relay_model.specs.Sessions.{numbers}
use Rattle.relay_model.specs.Cause.{closed_why}
use Rattle.relay_model.specs.Dumps.{newline}
use Rattle.place_report.specs.Shown.{said}
use Rattle.place_report.proofs.Growing.{grown, grown_by_six}
use Rattle.journal_table.specs.Cells.{to_left, to_right}
use Rattle.journal_table.specs.Tables.{peers_cell, why_cell}
use Rattle.journal_report.specs.Timelines.{AddsCells, AddsRow, AddsRows, TimelineTold, scale_line}

pub no_cells : (text : List ℕ) → AddsCells 0 text text
no_cells text = record { cells = []; grew = sym (append-nil text); wide = refl }

pub cells_more : (k : ℕ) (old mid new cell : List ℕ) → AddsCells k old mid → new ≡ mid ++ cell → length cell ≡ 1 → AddsCells (k + 1) old new
cells_more k old mid new cell h e f = record {
  cells = h.cells ++ cell;
  grew = e ∙ ap (λ (text : List ℕ). text ++ cell) h.grew ∙ append_assoc old h.cells cell;
  wide = omega (arith, length-append h.cells cell, h.wide, f);
}

pub rows_more : (c : Config) (past : List Act) (s : ℕ) (old mid new : List ℕ) → AddsRows c past s old mid → AddsRow c past s mid new → AddsRows c past (s + 1) old new
rows_more c past s old mid new h row = subst (λ (n : ℕ). AddsRows c past n old new) (sym (add-one s)) (mid, h, row)

pub row_added : (c : Config) (past : List Act) (s : ℕ) (old p q r t u v new : List ℕ) → p ≡ old ++ to_right 7 (decimal s) → q ≡ p ++ said "|" → AddsCells 60 q r → t ≡ r ++ said "| " → u ≡ t ++ to_left 22 (peers_cell c past s) → v ≡ u ++ why_cell (closed_why c past s) → new ≡ v ++ newline → AddsRow c past s old new
row_added c past s old p q r t u v new number bar drawn end peers why line =
    let rest : List ℕ = said "|" ++ (drawn.cells ++ (said "| " ++ (to_left 22 (peers_cell c past s) ++ (why_cell (closed_why c past s) ++ newline)))) in
    record {
      signs = drawn.cells;
      wide = drawn.wide;
      grew = grown old p new (to_right 7 (decimal s)) rest number (grown_by_six p q r t u v new (said "|") drawn.cells (said "| ") (to_left 22 (peers_cell c past s)) (why_cell (closed_why c past s)) newline bar drawn.grew end peers why line);
    }

pub timeline_made : (c : Config) (past : List Act) (p q r new : List ℕ) → p ≡ scale_line (now past) → AddsRows c past (numbers c past) p q → r ≡ q ++ said "o opened  ? an opening failed  > < = bytes passed  ) ( an end passed on  ! failed  | finished  x cut  - nothing" → new ≡ r ++ newline → TimelineTold c past new
timeline_made c past p q r new scale drawn words line = record {
  rows = q;
  drawn = subst (λ (text : List ℕ). AddsRows c past (numbers c past) text q) scale drawn;
  whole = grown q r new (said "o opened  ? an opening failed  > < = bytes passed  ) ( an end passed on  ! failed  | finished  x cut  - nothing") newline words line;
}
