-- The timeline as a picture: what stands before the elements, the elements of each session, and what stands behind.
use Rattle.std.specs.Prelude.{◌≡◌, ℕ, zero, suc, ◌+◌, ◌*◌, List, ◌++◌, codes, decimal}
use Rattle.relay_model.specs.{Config, Act, numbers, newline}
use Rattle.place_report.specs.{shown, said}
use Rattle.journal_table.specs.{peers_cell}
use Rattle.journal_report.specs.Elements.{Words, element_text, AddsElements}

-- the number of a session and its peers
abbrev pub label : Config → List Act → ℕ → List ℕ
label c past s = decimal s ++ (said " " ++ peers_cell c past s)

-- a text grew by the label of a session, and by further elements
pub record AddsPictureRow (c : Config) (past : List Act) (s : ℕ) (old new : List ℕ) : Type 0 where
  pub x : ℕ
  pub y : ℕ
  pub labelled : List ℕ
  pub named : labelled ≡ old ++ element_text (Words x y (label c past s))
  pub drawn : AddsElements labelled new

-- a text grew by those of the first sessions, so many
abbrev pub AddsPictureRows : Config → List Act → ℕ → List ℕ → List ℕ → Type 0
AddsPictureRows c past zero old new = new ≡ old
AddsPictureRows c past (suc s) old new = (mid : List ℕ) × AddsPictureRows c past s old mid × AddsPictureRow c past s mid new

-- the markup before all elements
abbrev pub head_text : ℕ → List ℕ
head_text sessions =
    codes "<svg xmlns='http://www.w3.org/2000/svg' width='1280' height='" ++ decimal ((sessions + 4) * 20) ++ codes "' font-family='monospace' font-size='12'>"

-- a picture of lines and words alone, in which each session that has begun has its label
pub record IsPicture (c : Config) (past : List Act) (text : List ℕ) : Type 0 where
  pub ground : List ℕ
  pub laid : AddsElements (shown (head_text (numbers c past)) ++ newline) ground
  pub rows : List ℕ
  pub drawn : AddsPictureRows c past (numbers c past) ground rows
  pub noted : List ℕ
  pub notes : AddsElements rows noted
  pub whole : text ≡ noted ++ (said "</svg>" ++ newline)
