-- Which entries are removed before a socket is opened.
use Rattle.std.specs.Prelude.{◌≡◌, ◌⊎◌, ℕ, Bool, List, [], ◌∷◌, ◌++◌, Option, None, Some, option_map, if◌then◌else◌}
use Rattle.relay_model.specs.{EntryOptions, Single, Target}
use Rattle.relay_model.specs.declared.commands.Target.TheVariants as targets
use Rattle.port_trait.specs.{Making}
use Rattle.port_trait.specs.declared.makers.Making.TheVariants as makings

-- what was asked to be removed: this entry besides, where that is wanted
abbrev pub Unlinks : Bool → List ℕ → Option (List (List ℕ)) → Option (List (List ℕ)) → Type 0
Unlinks wanted name before now = now ≡ (if wanted then option_map (λ all. all ++ name ∷ []) before else before)

-- an opening removes the entry of this name once, where that is to be done early; one that fails may remove nothing
abbrev pub UnlinksNamed : {T : Type 0} → EntryOptions → List ℕ → Making T → Option (List (List ℕ)) → Option (List (List ℕ)) → Type 0
UnlinksNamed options name (makings.Made made) before now = Unlinks options.unlink_early name before now
UnlinksNamed options name (makings.Later made) before now = ⊥
UnlinksNamed options name makings.Failed before now = (now ≡ before) ⊎ Unlinks options.unlink_early name before now
UnlinksNamed options name makings.Memory before now = (now ≡ before) ⊎ Unlinks options.unlink_early name before now

-- the entry that an address names
abbrev pub entry_named : Target → Option (List ℕ)
entry_named (targets.UnixConnect name) = Some name
entry_named (targets.GenericOpen name) = Some name
entry_named (targets.UnixListen name) = Some name
entry_named _ = None

-- the same of an address, and of one without an entry nothing
abbrev pub UnlinksAt : {T : Type 0} → EntryOptions → Option (List ℕ) → Making T → Option (List (List ℕ)) → Option (List (List ℕ)) → Type 0
UnlinksAt options None making before now = now ≡ before
UnlinksAt options (Some name) making before now = UnlinksNamed options name making before now

-- an opening removes the entry that its address names, where that is to be done early, and no other
abbrev pub UnlinksOf : {T : Type 0} → Single → Making T → Option (List (List ℕ)) → Option (List (List ℕ)) → Type 0
UnlinksOf single making before now = UnlinksAt single.options.entry (entry_named single.target) making before now
