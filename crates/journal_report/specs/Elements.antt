-- What a picture is made of: lines and words, in the markup of SVG, and nothing else.
use Rattle.std.specs.Prelude.{◌≡◌, ℕ, ◌==◌, List, [], ◌∷◌, ◌++◌, codes, decimal, if◌then◌else◌}
use Rattle.std.specs.List.{flat_map}
use Rattle.relay_model.specs.{newline}
use Rattle.place_report.specs.{shown, said}
use Rattle.journal_report.specs.declared.elements.Ink.{Ink}
use Rattle.journal_report.specs.declared.elements.Ink.TheVariants as ink
use Rattle.journal_report.specs.declared.elements.Stroke.{Stroke}

-- a line, or words that begin at a point
pub data Element : Type 0 where
  Line : Stroke → Element
  Words : (x y : ℕ) → List ℕ → Element

-- the colour of a line
abbrev pub ink_text : Ink → List ℕ
ink_text ink.Black = codes "#222222"
ink_text ink.White = codes "#ffffff"
ink_text ink.Grey = codes "#aaaaaa"
ink_text ink.Blue = codes "#1f77b4"
ink_text ink.Orange = codes "#ff7f0e"
ink_text ink.Green = codes "#2ca02c"
ink_text ink.Purple = codes "#9467bd"
ink_text ink.Red = codes "#d62728"

-- where a line begins
abbrev pub from_text : ℕ → ℕ → List ℕ
from_text x y = codes "<line x1='" ++ decimal x ++ codes "' y1='" ++ decimal y ++ codes "'"

-- where it ends
abbrev pub to_text : ℕ → ℕ → List ℕ
to_text x y = codes " x2='" ++ decimal x ++ codes "' y2='" ++ decimal y ++ codes "'"

-- how it is drawn
abbrev pub style_text : ℕ → Ink → List ℕ
style_text width ink = codes " stroke-width='" ++ (decimal width ++ (codes "' stroke='" ++ (ink_text ink ++ codes "'/>")))

-- a byte of words; what begins markup is spelt out
abbrev pub xml_byte : ℕ → List ℕ
xml_byte byte =
    if byte == 60 then said "&lt;"
    else (if byte == 38 then said "&amp;" else shown (byte ∷ []))

-- words, in which no markup begins
abbrev pub xml_text : List ℕ → List ℕ
xml_text bytes = flat_map xml_byte bytes

-- the markup of an element, on a line of its own
abbrev pub element_text : Element → List ℕ
element_text (Line stroke) =
    shown (from_text stroke.x1 stroke.y1) ++ (shown (to_text stroke.x2 stroke.y2) ++ (shown (style_text stroke.width stroke.ink) ++ newline))
element_text (Words x y bytes) =
    shown (codes "<text x='" ++ decimal x ++ codes "' y='" ++ decimal y ++ codes "'>") ++ (xml_text bytes ++ (said "</text>" ++ newline))

-- a text grew by elements
pub record AddsElements (old new : List ℕ) : Type 0 where
  pub elements : List Element
  pub grew : new ≡ old ++ flat_map element_text elements
