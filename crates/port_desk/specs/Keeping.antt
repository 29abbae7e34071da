-- What a log can keep, and what a call on it leaves as it was.
use Rattle.std.specs.Prelude.{◌≡◌, ◌≤◌, ◌+◌, ◌-◌, ◌^◌, min, ℕ, Bool, List, [], length, Option, None, Some, MatchOption}
use Rattle.relay_model.specs.{Act, Place, Single}
use Rattle.relay_model.specs.Journals.{History}
use Rattle.world_trait.specs.{HasAskingRoom, HasRoom, Rose}
use Rattle.world_trait.specs.Recordings.{Recorded}
use Rattle.port_desk.specs.Records.{CountsOnce, Tells, TellsCopy}
use Rattle.port_desk.specs.declared.records.Log.{Log}

-- there is room for one act more
abbrev pub HasActRoom : Log → Type 0
HasActRoom log = HasRoom (length log.places.entries + 1) log.recording

-- there is room for one act more, and where acts are kept a copy that is long enough for these bytes
pub record CanKeep (copy : Option (List ℕ)) (bytes : List ℕ) (log : Log) : Type 0 where
  pub room : HasActRoom log
  pub copied : MatchOption copy (log.recording.told ≡ None) (λ kept. length bytes ≤ length kept)

-- there is room for what was asked, and a copy of it where it is kept
pub record CanAsk (copy : Option Single) (single : Single) (recording : Recorded) : Type 0 where
  pub room : HasAskingRoom 1 recording
  pub copied : MatchOption copy (recording.told ≡ None) (λ kept. kept ≡ single)

-- nothing has changed but how many acts there is room for
pub record SameButRoom (before now : Log) : Type 0 where
  pub places : now.places ≡ before.places
  pub told : now.recording.told ≡ before.recording.told
  pub counts : now.counts ≡ before.counts
  pub last : now.last ≡ before.last
  pub acted : now.acted ≡ before.acted

-- the same, and places have more room
pub record SameLog (before now : Log) : Type 0 where
  pub entries : now.places.entries ≡ before.places.entries
  pub told : now.recording.told ≡ before.recording.told
  pub counts : now.counts ≡ before.counts
  pub last : now.last ≡ before.last

-- a history is told from here on, which has no act yet; nothing else has changed
pub record BeginsToKeep (before now : Log) : Type 0 where
  pub told : now.recording.told ≡ Some (record { acts = []; asked = [] })
  pub places : now.places ≡ before.places
  pub counts : now.counts ≡ before.counts
  pub last : now.last ≡ before.last
  pub acted : now.acted ≡ before.acted

-- nothing has changed but what is told, whether there was an act, and the count of faults, which rose by one where the
-- act failed and stayed where it didn't
pub record KeepsSo (Told : Option History → Option History → Type 0) (failed : Bool) (before now : Log) : Type 0 where
  pub places : now.places ≡ before.places
  pub told : Told before.recording.told now.recording.told
  pub cause : Rose before.counts.faults now.counts.faults failed
  pub exact : CountsOnce before.counts.faults now.counts.faults failed
  pub waits : now.counts.waits ≡ before.counts.waits
  pub stops : now.counts.stops ≡ before.counts.stops
  pub last : now.last ≡ before.last

-- the act of an answer is kept, where acts are, and a fault counted
abbrev pub Keeps : Option Act → Bool → Log → Log → Type 0
Keeps act = KeepsSo (Tells act)

-- the same, with what was asked, by the copy that was made of it
abbrev pub KeepsAsking : Place → Option Single → Option Act → Bool → Log → Log → Type 0
KeepsAsking place copy act = KeepsSo (TellsCopy place copy act)

-- a turn is counted, whose moment this is, and its stop; nothing else has changed
pub record CountsTurn (at : ℕ) (stop : Bool) (before now : Log) : Type 0 where
  pub places : now.places ≡ before.places
  pub recording : now.recording ≡ before.recording
  pub faults : now.counts.faults ≡ before.counts.faults
  pub waits : now.counts.waits ≡ min (before.counts.waits + 1) (2 ^ 64 - 1)
  pub stops : CountsOnce before.counts.stops now.counts.stops stop
  pub rose : Rose before.counts.stops now.counts.stops stop
  pub last : now.last ≡ at
  pub acted : now.acted ≡ before.acted
