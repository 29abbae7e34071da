-- A desk as its callers see it.
use Rattle.std.specs.Prelude.{◌≡◌, ℕ, [], Bool, false, Option, Some}
use Rattle.relay_model.specs.{Place, Hold, Free}
use Rattle.relay_model.specs.Journals.{History}
use Rattle.port_table.specs.{EntrySeen, StreamSeen}
use Rattle.port_desk.specs.declared.endings.Counts.{Counts}
use Rattle.port_desk.specs.Following.{IsUnused, Passed, Start}

-- the three standard streams, the ports that were made and not let go, by their keys, the history with what was asked for
-- where the desk keeps it, how each place stands, the counts, and whether there was an act
pub record DeskModel : Type 0 where
  pub stdin : StreamSeen
  pub stdout : StreamSeen
  pub stderr : StreamSeen
  pub made : ℕ → Option EntrySeen
  pub history : Option History
  pub held : Place → Hold
  pub counts : Counts
  pub acted : Bool

-- nothing is held at the desk
abbrev pub IsFree : DeskModel → Type 0
IsFree desk = (p : Place) → desk.held p ≡ Free

-- the standard streams have passed no bytes
abbrev pub AreUnused : DeskModel → Type 0
AreUnused desk = IsUnused desk.stdin.port.gave desk.stdout.port.took desk.stderr.port.took

-- the standard streams have passed what this history tells
abbrev pub HasPassed : History → DeskModel → Type 0
HasPassed history desk = Passed history desk.stdin.port.gave desk.stdout.port.took desk.stderr.port.took desk.stdin.port.ended

-- how the desk stands where it begins to be followed
abbrev pub start_of : DeskModel → Start
start_of desk = record {
  told = desk.history;
  gave = desk.stdin.port.gave;
  took = desk.stdout.port.took;
  said = desk.stderr.port.took;
  ended = desk.stdin.port.ended;
}

-- the desk keeps its history from here on, which has no act yet; all else is as it was
pub record BeginsHistory (before now : DeskModel) : Type 0 where
  pub history : now.history ≡ Some (record { acts = []; asked = [] })
  pub acted : now.acted ≡ false
  pub stdin : now.stdin ≡ before.stdin
  pub stdout : now.stdout ≡ before.stdout
  pub stderr : now.stderr ≡ before.stderr
  pub made : now.made ≡ before.made
  pub held : now.held ≡ before.held
  pub counts : now.counts ≡ before.counts
