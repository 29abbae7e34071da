-- Texts that grew by elements of a picture, and by the rows of its sessions.
use Rattle.std.proofs.Common.{◌≡◌, ℕ, ◌+◌, List, [], ◌∷◌, ◌++◌, sym, ap, ◌∙◌, subst, append_assoc, add-one}
use Rattle.std.specs.List.{flat_map}
use Rattle.std.proofs.lemmas.List.{append-nil}
use Rattle.std.proofs.lemmas.Grind.{flat_map-append}
use Rattle.relay_model.specs.declared.commands.Config.{Config}
use Rattle.relay_model.specs.declared.acts.Act.{Act}
use Rattle.relay_model.specs.Sessions.{numbers}
use Rattle.relay_model.specs.Dumps.{newline}
use Rattle.place_report.specs.Shown.{shown, said}
use Rattle.place_report.proofs.Growing.{grown}
use Rattle.journal_report.specs.declared.elements.Stroke.{Stroke}
use Rattle.journal_report.specs.Elements.{Element, Line, Words, element_text, AddsElements}
use Rattle.journal_report.specs.Pictures.{AddsPictureRow, AddsPictureRows, label, head_text, IsPicture}

pub no_elements : (text : List ℕ) → AddsElements text text
no_elements text = record { elements = []; grew = sym (append-nil text) }

one_added : (old new : List ℕ) (element : Element) → new ≡ old ++ element_text element → AddsElements old new
one_added old new element e = record {
  elements = element ∷ [];
  grew = e ∙ ap (λ (text : List ℕ). old ++ text) (sym (append-nil (element_text element)));
}

pub line_added : (old new : List ℕ) (stroke : Stroke) → new ≡ old ++ element_text (Line stroke) → AddsElements old new
line_added old new stroke e = one_added old new (Line stroke) e

pub words_added : (old new : List ℕ) (x y : ℕ) (words : List ℕ) → new ≡ old ++ element_text (Words x y words) → AddsElements old new
words_added old new x y words e = one_added old new (Words x y words) e

pub elements_added : (old mid new : List ℕ) → AddsElements old mid → AddsElements mid new → AddsElements old new
elements_added old mid new h k = record {
  elements = h.elements ++ k.elements;
  grew = k.grew ∙ ap (λ (text : List ℕ). text ++ flat_map element_text k.elements) h.grew
      ∙ append_assoc old (flat_map element_text h.elements) (flat_map element_text k.elements)
      ∙ ap (λ (text : List ℕ). old ++ text) (sym (flat_map-append element_text h.elements k.elements));
}

pub rows_more : (c : Config) (past : List Act) (s : ℕ) (old mid new : List ℕ) → AddsPictureRows c past s old mid → AddsPictureRow c past s mid new → AddsPictureRows c past (s + 1) old new
rows_more c past s old mid new h row = subst (λ (n : ℕ). AddsPictureRows c past n old new) (sym (add-one s)) (mid, h, row)

pub row_added : (c : Config) (past : List Act) (s x y : ℕ) (name old mid new : List ℕ) → name ≡ label c past s → mid ≡ old ++ element_text (Words x y name) → AddsElements mid new → AddsPictureRow c past s old new
row_added c past s x y name old mid new named worded drawn = record {
  x = x;
  y = y;
  labelled = mid;
  named = worded ∙ ap (λ (words : List ℕ). old ++ element_text (Words x y words)) named;
  drawn = drawn;
}

pub picture_made : (c : Config) (past : List Act) (p q r t u v new : List ℕ) → p ≡ shown (head_text (numbers c past)) → q ≡ p ++ newline → AddsElements q r → AddsPictureRows c past (numbers c past) r t → AddsElements t u → v ≡ u ++ said "</svg>" → new ≡ v ++ newline → IsPicture c past new
picture_made c past p q r t u v new head line ground drawn notes end last = record {
  ground = r;
  laid = subst (λ (text : List ℕ). AddsElements text r) (line ∙ ap (λ (text : List ℕ). text ++ newline) head) ground;
  rows = t;
  drawn = drawn;
  noted = u;
  notes = notes;
  whole = grown u v new (said "</svg>") newline end last;
}
