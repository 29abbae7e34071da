-- A world that stays the one of its number: what it has given to the reads of a place, and what its script still has for
-- them, is what was scripted for the number.
use Rattle.std.specs.Prelude.{◌≡◌, ℕ, true, List, [], ◌∷◌, ◌++◌, Option, option_map}
use Rattle.relay_model.specs.{Act, Place, got, met_end}
use Rattle.relay_model.specs.declared.acts.Act.TheVariants.{Note}
use Rattle.relay_model.specs.Journals.{History}
use Rattle.scripted_world.specs.{PlacedItem, DueRead}
use Rattle.socat_top.specs.Left.{ends_last, left_of}
use Rattle.socat_top.specs.Scripts.{scripted}

-- after these acts these items are left of the script of a number
pub record GivesScripted (n : ℕ) (acts : List Act) (reads : List (PlacedItem DueRead)) : Type 0 where
  pub given : (p : Place) → got acts p ++ left_of reads p ≡ scripted n p
  pub whole : (p : Place) → met_end acts p ≡ true → left_of reads p ≡ []
  pub in_order : (p : Place) → ends_last reads p ≡ true

-- a history behind a note that names the number; the note was never made, and says only whose world it is
abbrev pub named : ℕ → History → History
named n history = record { acts = history.acts ++ Note (n ∷ []) ∷ []; asked = history.asked }

-- what such a world tells
abbrev pub told_named : ℕ → Option History → Option History
told_named n told = option_map (named n) told
