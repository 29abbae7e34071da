-- What a step makes of a world, of the session that it is for and of its dumper, where a dump may stay owed for want of
-- memory.
use Rattle.std.specs.Prelude.{◌≡◌, ◌≢◌, ℕ, true, false, List, length, Option, Some, None}
use Rattle.relay_model.specs.{Act, Place, Config, is_free, closed_why}
use Rattle.relay_model.specs.declared.acts.Act.TheVariants.{Read, Closed}
use Rattle.relay_model.specs.declared.acts.Why.TheVariants as whys
use Rattle.relay_model.specs.declared.commands.Dump.TheVariants as dumps
use Rattle.relay_session.specs.{Session, Stands, wish_of, left_of, has_ended}
use Rattle.relay_session.specs.declared.wishes.Wish.TheVariants as wishes
use Rattle.world_trait.specs.Seen.{Seen}
use Rattle.session_driver.specs.Steps.{Acts, StepIs}
use Rattle.session_driver.specs.Dumpers.{Counts}
use Rattle.session_driver.specs.Noted.{ReadNoted, UnreadIs, Untouched}
use Rattle.session_driver.specs.declared.dumpers.Dumper.{Dumper}
use Rattle.session_driver.specs.declared.stepped.Stepped.{Stepped}
use Rattle.session_driver.specs.declared.stepped.Stepped.TheVariants as steps

-- the session is to close something that it holds, for want of memory
pub record IsShort (now : Seen) (session : Session) : Type 0 where
  pub thing : Place
  pub wish : wish_of session ≡ wishes.Close thing whys.Memory
  pub is_held : is_free (now.held thing) ≡ false

-- it was cut for that, wherever nothing was closed that ends it
pub record CutShort (c : Config) (now : Seen) (before after : Session) : Type 0 where
  pub short : IsShort now after
  pub stands : (n : ℕ) (past : List Act) (s : ℕ) → Stands c n past s before → closed_why c past s ≡ None → Stands c n past s after
  pub left : left_of after ≡ left_of before
  pub over : has_ended after ≡ true

-- it closed that
abbrev pub ClosesShort : Config → Seen → Seen → Session → Session → Type 0
ClosesShort c old new before after = (thing : Place) → wish_of before ≡ wishes.Close thing whys.Memory → Acts c old new before after (Closed thing whys.Memory)

-- bytes were read, there was no memory to note them, and the session was cut
pub record ReadOwed (c : Config) (old new : Seen) (before after : Session) (dumper dumper' : Dumper) : Type 0 where
  pub dumped : c.dump ≢ dumps.Off
  pub place : Place
  pub bytes : List ℕ
  pub between : Seen
  pub heard : Session
  pub going : has_ended before ≡ false
  pub reads : Acts c old between before heard (Read place bytes)
  pub nothing : Untouched between new
  pub cut : CutShort c new heard after
  pub counts : Counts place.side (length bytes) dumper dumper'

-- what one step was after which no dump is owed
pub data SettledStep (c : Config) (old new : Seen) (before after : Session) (dumper dumper' : Dumper) (stepped : Stepped) : Type 0 where
  undumped : c.dump ≡ dumps.Off → StepIs c old new before after stepped → SettledStep c old new before after dumper dumper' stepped
  unread : dumper' ≡ dumper → UnreadIs c old new before after stepped → SettledStep c old new before after dumper dumper' stepped
  noted : stepped ≡ steps.Acted → ReadNoted c old new before after dumper dumper' → SettledStep c old new before after dumper dumper' stepped

-- so of a step, or what was read is owed
abbrev pub OwingStep : Config → Seen → Seen → Session → Session → Dumper → Dumper → Option Stepped → Type 0
OwingStep c old new before after dumper dumper' (Some stepped) = SettledStep c old new before after dumper dumper' stepped
OwingStep c old new before after dumper dumper' None = ReadOwed c old new before after dumper dumper'
