-- What a wish says in the words of a world: that the call may be asked for, and of which places.
use Rattle.std.specs.Prelude.{◌≡◌, ℕ, ◌<◌, Bool, true, false, List, ◌++◌}
use Rattle.relay_model.specs.{Place, Config, Act, is_place_of, is_of, Free, Settling, Open, standing, is_free, is_open, reaped_since}
use Rattle.relay_session.specs.declared.wishes.Wish.{Wish}
use Rattle.relay_session.specs.declared.wishes.Wish.TheVariants as wishes

-- the child of the place wasn't reaped since the last closing, whatever came before the list
abbrev pub NotReaped : List Act → Place → Type 0
NotReaped past p = (older : List Act) → reaped_since (past ++ older) p ≡ false

-- a world can be asked for the call that is wished for
abbrev pub CanBeMade : Config → ℕ → List Act → Wish → Type 0
CanBeMade c s past (wishes.Open p) = standing past p ≡ Free
CanBeMade c s past (wishes.Settle p) = standing past p ≡ Settling
CanBeMade c s past (wishes.Listen d) = standing past d ≡ Free
CanBeMade c s past (wishes.Accept d p) = (standing past d ≡ Open) × (standing past p ≡ Free)
CanBeMade c s past (wishes.Read p at_most) = (is_open (standing past p) ≡ true) × (0 < at_most)
CanBeMade c s past (wishes.Write p) = standing past p ≡ Open
CanBeMade c s past (wishes.Send p) = standing past p ≡ Open
CanBeMade c s past (wishes.Shut p how) = standing past p ≡ Open
CanBeMade c s past (wishes.Close q why) = is_free (standing past q) ≡ false
CanBeMade c s past (wishes.Reap p) = (standing past p ≡ Free) × NotReaped past p
CanBeMade c s past (wishes.Sleep until) = Unit {0}
CanBeMade c s past (wishes.Done why) = (p : Place) → is_of c s p ≡ true → standing past p ≡ Free

-- the wish is one of a session that nothing has ended: any but closing, reaping and being done
abbrev pub is_course : Wish → Bool
is_course (wishes.Close q why) = false
is_course (wishes.Reap p) = false
is_course (wishes.Done why) = false
is_course wish = true

-- the wish offers bytes
abbrev pub is_writing : Wish → Bool
is_writing (wishes.Write p) = true
is_writing (wishes.Send p) = true
is_writing wish = false

-- bytes are read and written at places of the session alone
abbrev pub IsAtOwn : Config → ℕ → Wish → Type 0
IsAtOwn c s (wishes.Open p) = is_of c s p ≡ true
IsAtOwn c s (wishes.Listen d) = is_of c s d ≡ true
IsAtOwn c s (wishes.Read p at_most) = is_place_of c s p ≡ true
IsAtOwn c s (wishes.Write p) = is_place_of c s p ≡ true
IsAtOwn c s (wishes.Send p) = is_place_of c s p ≡ true
IsAtOwn c s wish = Unit {0}
