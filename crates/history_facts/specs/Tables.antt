-- What tables answer.
use Rattle.std.specs.Prelude.{ℕ, ◌+◌, ◌*◌, Bool, true, false, unwrap_or}
use Rattle.std.specs.Ordering.{nat_cmp}
use Rattle.std.specs.BTreeMap.{get}
use Rattle.relay_model.specs.{Side, Part, Place}
use Rattle.relay_model.specs.declared.places.Side.TheVariants.{Left, Right}
use Rattle.relay_model.specs.declared.places.Part.TheVariants.{Both, Reading, Writing}
use Rattle.history_facts.specs.declared.numbered.Numbered.{Numbered}
use Rattle.history_facts.specs.declared.placed.Placed.{Placed}

-- the answer for a number
abbrev pub numbered : {T : Type 0} → Numbered T → ℕ → T
numbered {T} table k = unwrap_or (get nat_cmp table.known k) table.rest

-- the number of a side, a part and whether it is a door
abbrev pub part_number : Side → Part → Bool → ℕ
part_number Left Both false = 0
part_number Left Both true = 1
part_number Left Reading false = 2
part_number Left Reading true = 3
part_number Left Writing false = 4
part_number Left Writing true = 5
part_number Right Both false = 6
part_number Right Both true = 7
part_number Right Reading false = 8
part_number Right Reading true = 9
part_number Right Writing false = 10
part_number Right Writing true = 11

-- the number under which a place stands in a table
abbrev pub place_number : Place → ℕ
place_number p = p.session * 12 + part_number p.side p.part p.door

-- the answer for a place
abbrev pub placed : {T : Type 0} → Placed T → Place → T
placed {T} table p = numbered table.answers (place_number p)
