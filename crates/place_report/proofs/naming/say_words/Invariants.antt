use Rattle.std.proofs.Common.{◌≡◌, ◌∷◌, ◌++◌, drop}
use Rattle.std.specs.List.{flat_map}
use Rattle.place_report.specs.Shown.{quoted}
use Rattle.place_report.proofs.naming.say_words.Given as goal

abbrev pub invariant-loop-word : goal.invariant-loop-word
invariant-loop-word l = l.page ++ flat_map (λ word. 32 ∷ quoted word) (drop l.word-index l.words) ≡ l.initial.page ++ flat_map (λ word. 32 ∷ quoted word) l.words
