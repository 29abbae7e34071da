-- The items of a script, each with its place or door, in the order in which they are used.
use Rattle.std.specs.Prelude.{List, [], ◌∷◌, Option, find, option_map, if◌then◌else◌}
use Rattle.relay_model.specs.{Place, same_place}
use Rattle.scripted_world.specs.declared.lines.PlacedItem.{PlacedItem}

-- an item of a place
abbrev pub placed : {T : Type 0} → Place → T → PlacedItem T
placed p item = record { place = p; item = item }

-- the next item of a place
abbrev pub next_of : {T : Type 0} → List (PlacedItem T) → Place → Option T
next_of lines p = option_map (λ line. line.item) (find (λ line. same_place line.place p) lines)

-- the items without the next one of a place
abbrev pub used_up : {T : Type 0} → List (PlacedItem T) → Place → List (PlacedItem T)
used_up [] p = []
used_up (line ∷ lines) p = if same_place line.place p then lines else line ∷ used_up lines p
