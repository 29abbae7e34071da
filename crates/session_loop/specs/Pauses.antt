-- What a pause of a session says.
use Rattle.std.specs.Prelude.{◌≡◌, Bool, true, false, Option, Some, None}
use Rattle.relay_model.specs.{Place, Why}
use Rattle.relay_model.specs.declared.acts.Why.TheVariants as whys
use Rattle.relay_session.specs.{Session, Wish, wish_of, has_ended}
use Rattle.relay_session.specs.declared.wishes.Wish.TheVariants as wishes
use Rattle.session_driver.specs.{Stepped}
use Rattle.session_driver.specs.declared.stepped.Stepped.TheVariants as steps
use Rattle.session_loop.specs.declared.pauses.Pause.{Pause}
use Rattle.session_loop.specs.declared.pauses.Pause.TheVariants as pauses

-- a closing for this reason ends every session
abbrev pub ends_all : Why → Bool
ends_all whys.Stopped = true
ends_all whys.Memory = true
ends_all why = false

-- a closing for this reason is wished for, which ends every session
abbrev pub Spreads : Wish → Why → Type 0
Spreads wish why = (q : Place) × (wish ≡ wishes.Close q why) × (ends_all why ≡ true)

-- no such closing is
abbrev pub SpreadsNot : Wish → Type 0
SpreadsNot (wishes.Close q why) = ends_all why ≡ false
SpreadsNot wish = Unit {0}

-- whether such a closing is wished for, and for which reason
abbrev pub SpreadIs : Wish → Option Why → Type 0
SpreadIs wish None = SpreadsNot wish
SpreadIs wish (Some why) = Spreads wish why

-- the pause that a step came to
abbrev pub pause_of : Stepped → Option Pause
pause_of (steps.Sleep until) = Some (pauses.Sleep until)
pause_of (steps.Done why) = Some pauses.Done
pause_of stepped = None

-- the session has come to this pause
abbrev pub PauseIs : Session → Pause → Type 0
PauseIs x (pauses.Sleep until) = (wish_of x ≡ wishes.Sleep until) × (has_ended x ≡ false)
PauseIs x pauses.Done = (why : Why) × (wish_of x ≡ wishes.Done why)
PauseIs x (pauses.Spreads why) = Spreads (wish_of x) why
