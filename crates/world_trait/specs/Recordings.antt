-- What a recording tells, and how an act is put into it.
use Rattle.std.specs.Prelude.{◌≡◌, ◌≤◌, ℕ, true, ◌∷◌, ◌++◌, [], Option, Some, None, is_some}
use Rattle.relay_model.specs.{Act, Kept}
use Rattle.relay_model.specs.Journals.{Story, AskedFor, Asking, History}
use Rattle.world_trait.specs.declared.recorders.Recorder.{Recorder}
use Rattle.world_trait.specs.declared.recorders.Recorder.TheVariants.{Skip, Keep}

-- what is told, and for how many further acts and askings there is room
pub record Recorded : Type 0 where
  pub told : Option History
  pub room : ℕ
  pub asking_room : ℕ

-- a recorder that skips tells nothing
abbrev pub told_by : Recorder → Story → AskedFor → Option History
told_by Skip story asked = None
told_by Keep story asked = Some (record { acts = story.acts; asked = asked.pairs })

-- what was kept, told whole
abbrev pub told_kept : Kept → Option History
told_kept kept = Some (record { acts = kept.journal.acts; asked = kept.asked.pairs })

-- no act was kept, and nothing that was asked
abbrev pub KeepsNothing : Kept → Type 0
KeepsNothing kept = (kept.journal.acts ≡ []) × (kept.asked.pairs ≡ [])

-- a history with one more act
abbrev pub with_act : Act → History → History
with_act act history = record { acts = act ∷ history.acts; asked = history.asked }

-- a history with one more act, which answered what was asked
abbrev pub with_asking : Act → Asking → History → History
with_asking act asking history = record { acts = act ∷ history.acts; asked = history.asked ++ asking ∷ [] }

-- what is told has room for this many acts; what tells nothing needs none
abbrev pub HasRoom : ℕ → Recorded → Type 0
HasRoom n recorded = is_some recorded.told ≡ true → n ≤ recorded.room

-- there is room for so many askings more, where the history is kept
abbrev pub HasAskingRoom : ℕ → Recorded → Type 0
HasAskingRoom n recorded = is_some recorded.told ≡ true → n ≤ recorded.asking_room
