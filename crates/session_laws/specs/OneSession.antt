-- The laws of one session's histories, as statements.
use Rattle.std.specs.Prelude.{◌≡◌, ◌⊎◌, ℕ, suc, true, false, List, length, Some, None}
use Rattle.relay_model.specs.{Place, Config, Act, Why, has_fork, is_of, options_of, Open, standing, is_open, turns, stage, held, shut_at, failures}
use Rattle.relay_model.specs.{out_of_tries, cause, outcome, Legal}
use Rattle.relay_model.specs.declared.commands.Dump.TheVariants as dumps
use Rattle.relay_model.specs.declared.acts.Why.TheVariants as whys
use Rattle.relay_model.specs.Rest.{Rest, SessionRests, until_of}
use Rattle.relay_session.specs.Standings.{StandsFor}
use Rattle.relay_session.specs.Timers.{session_until}
use Rattle.relay_session.specs.Told.{told, stop_turned}
use Rattle.relay_session.specs.Blames.{is_failure, is_blamed_for}

-- a thing stands as its stage says
abbrev pub StagesTell : Type 0
StagesTell = (c : Config) (n : ℕ) (past : List Act) (p : Place) → Legal c n past → StandsFor (stage past p) (standing past p)

-- what can be used and was never shut is plainly open
abbrev pub UnshutIsOpen : Type 0
UnshutIsOpen = (past : List Act) (p : Place) → is_open (standing past p) ≡ true → shut_at past p ≡ None → standing past p ≡ Open

-- without fork, what is held is a thing of the one session
abbrev pub HeldIsOwn : Type 0
HeldIsOwn = (c : Config) (n : ℕ) (past : List Act) (p : Place) → has_fork c ≡ false → Legal c n past → held past p ≡ true → is_of c 0 p ≡ true

-- without fork and dump, the whole rests where the one session does
abbrev pub RestIsOfOne : Type 0
RestIsOfOne =
    (c : Config) (n : ℕ) (past : List Act) → has_fork c ≡ false → c.dump ≡ dumps.Off → Legal c n past → cause c past 0 ≡ None → SessionRests c past 0 →
    Rest c past

-- without fork, the whole waits until the one session's moment
abbrev pub UntilIsOfOne : Type 0
UntilIsOfOne = (c : Config) (past : List Act) → has_fork c ≡ false → until_of c past ≡ session_until c past 0

-- without fork, the outcome of a history that holds nothing any more is told by the session's cause
abbrev pub CauseIsTold : Type 0
CauseIsTold =
    (c : Config) (n : ℕ) (past : List Act) (why : Why) → has_fork c ≡ false → Legal c n past → ((p : Place) → held past p ≡ false) → cause c past 0 ≡ Some why →
    outcome c past ≡ Some (told c past why)

-- without fork, a session that failed has an act that is to blame for it
abbrev pub FailureIsBlamed : Type 0
FailureIsBlamed =
    (c : Config) (n : ℕ) (past : List Act) (why : Why) → has_fork c ≡ false → Legal c n past → is_failure why ≡ true → cause c past 0 ≡ Some why →
    is_blamed_for why past ≡ true

-- without fork, a session that stops was told so by a turn, or the turns are used up
abbrev pub StopIsTold : Type 0
StopIsTold =
    (c : Config) (n : ℕ) (past : List Act) → has_fork c ≡ false → Legal c n past → cause c past 0 ≡ Some whys.Stopped → (stop_turned past ≡ true) ⊎ (turns past ≡ n)

-- where no try is left, one more failed than may be followed by a try
abbrev pub TriesAreCounted : Type 0
TriesAreCounted =
    (c : Config) (n : ℕ) (past : List Act) (p : Place) → Legal c n past → out_of_tries c past p ≡ true →
    length (failures past p) ≡ suc (options_of c p).tries.retry
