-- What a file is when it was opened.
use Rattle.std.specs.Prelude.{◌≡◌, ◌⊎◌, ℕ, Bool, true, List, [], ◌∷◌, ◌++◌, Option, None, Some, option_map, if◌then◌else◌, IsUtf8, string_bytes, ⊤}
use Rattle.std.specs.declared.fs.File.{File}
use Rattle.std.specs.declared.fs.options.OpenOptions.{OpenOptions}
use Rattle.relay_model.specs.{Part, Target, Single}
use Rattle.relay_model.specs.declared.places.Part.TheVariants as parts
use Rattle.relay_model.specs.declared.commands.Target.TheVariants as targets
use Rattle.port_trait.specs.{Making}
use Rattle.port_trait.specs.declared.makers.Making.TheVariants as makings
use Rattle.socket_ports.specs.{IsRemoval}
use Rattle.file_ports.specs.declared.access.Access.{Access}
use Rattle.file_ports.specs.declared.access.FileAddress.{FileAddress}
use Rattle.file_ports.specs.declared.access.FileAddress.TheVariants as kinds
use Rattle.file_ports.specs.declared.open.NamedPipe.{NamedPipe}
use Rattle.file_ports.specs.declared.open.FileEnds.{FileEnds}
use Rattle.file_ports.specs.declared.open.FileEnds.TheVariants as ends
use Rattle.file_ports.specs.Access.{access_of, options_of}

-- the kind and the name of an address of a file
abbrev pub file_named : Target → Option (FileAddress × List ℕ)
file_named (targets.Create name) = Some (kinds.Create, name)
file_named (targets.FileAt name) = Some (kinds.Open, name)
file_named (targets.GenericOpen name) = Some (kinds.Generic, name)
file_named (targets.NamedPipe name) = Some (kinds.Pipe, name)
file_named _ = None

-- a fact of what was made; nothing is under way
abbrev pub OnMade : {T : Type 0} → Making T → (T → Type 0) → Type 0
OnMade (makings.Made made) P = P made
OnMade (makings.Later made) P = ⊥
OnMade makings.Failed P = Unit {0}
OnMade makings.Memory P = Unit {0}

-- the file came of an opening of this name that asks just this, and was emptied where that is to be
pub record IsAskedFile (opens : OpenOptions → List ℕ → File → Type 0) (empties : File → Type 0) (access : Access) (name : List ℕ) (file : File) : Type 0 where
  pub opened : opens (options_of access) name file
  pub emptied : access.empty ≡ true → empties file

-- a named pipe that is to be opened as it is asked
pub record IsToOpen (access : Access) (name : List ℕ) (pipe : NamedPipe) : Type 0 where
  pub asked : pipe.access ≡ access
  pub named : string_bytes pipe.name ≡ name

-- a part that reads has what is read, and one that writes what is written, opened as it is asked; a pipe that is used one
-- way may be left to be opened so. What reads of a file that is used both ways is a copy of what writes
abbrev pub AreOpened : (OpenOptions → List ℕ → File → Type 0) → (File → Type 0) → (File → File → Type 0) → Part → Access → List ℕ → FileEnds → Type 0
AreOpened opens empties copies parts.Both access name (ends.Both source sink) = IsAskedFile opens empties access name sink × copies sink source
AreOpened opens empties copies parts.Both access name (ends.Reading source) = ⊥
AreOpened opens empties copies parts.Both access name (ends.Writing sink) = ⊥
AreOpened opens empties copies parts.Both access name (ends.Waiting pipe) = ⊥
AreOpened opens empties copies parts.Reading access name (ends.Reading source) = IsAskedFile opens empties access name source
AreOpened opens empties copies parts.Reading access name (ends.Writing sink) = ⊥
AreOpened opens empties copies parts.Reading access name (ends.Both source sink) = ⊥
AreOpened opens empties copies parts.Reading access name (ends.Waiting pipe) = IsToOpen access name pipe
AreOpened opens empties copies parts.Writing access name (ends.Writing sink) = IsAskedFile opens empties access name sink
AreOpened opens empties copies parts.Writing access name (ends.Reading source) = ⊥
AreOpened opens empties copies parts.Writing access name (ends.Both source sink) = ⊥
AreOpened opens empties copies parts.Writing access name (ends.Waiting pipe) = IsToOpen access name pipe

-- the address is one of a file whose name is UTF-8, the ends are those of the part, of that name, opened as the kind of
-- the address and its flags ask, and the entry goes where it is to
pub record IsOpened (opens : OpenOptions → List ℕ → File → Type 0) (empties : File → Type 0) (copies : File → File → Type 0) (single : Single) (part : Part) (ends : FileEnds) (removal : Option (List ℕ)) : Type 0 where
  pub named : (file : FileAddress × List ℕ) × (file_named single.target ≡ Some file) × IsUtf8 file.1
  pub opened : AreOpened opens empties copies part (access_of named.0.0 single.options.file part) named.0.1 ends
  pub removed : IsRemoval single.options.entry.unlink_close named.0.1 removal

-- the entry that goes with the port is the one that the address names, and goes only where that is asked for
abbrev pub IsRemovalOf : Single → Option (List ℕ) → Type 0
IsRemovalOf single removal = (file : FileAddress × List ℕ) × (file_named single.target ≡ Some file) × IsRemoval single.options.entry.unlink_close file.1 removal

-- what was asked to be removed: this entry besides, where that is wanted
abbrev pub Unlinks : Bool → List ℕ → Option (List (List ℕ)) → Option (List (List ℕ)) → Type 0
Unlinks wanted name before now = now ≡ (if wanted then option_map (λ all. all ++ name ∷ []) before else before)

-- the same of the entry that the address names
abbrev pub UnlinksNamed : Single → Option (List (List ℕ)) → Option (List (List ℕ)) → Type 0
UnlinksNamed single before now = (file : FileAddress × List ℕ) × (file_named single.target ≡ Some file) × Unlinks single.options.entry.unlink_early file.1 before now

-- an opening removes the entry that its address names, where that is to be done early; one that fails may remove nothing
abbrev pub UnlinksEntry : {T : Type 0} → Single → Making T → Option (List (List ℕ)) → Option (List (List ℕ)) → Type 0
UnlinksEntry single (makings.Made made) before now = UnlinksNamed single before now
UnlinksEntry single (makings.Later made) before now = ⊥
UnlinksEntry single makings.Failed before now = (now ≡ before) ⊎ UnlinksNamed single before now
UnlinksEntry single makings.Memory before now = (now ≡ before) ⊎ UnlinksNamed single before now

-- the pipe is the one that the address names, to be opened as its kind and its flags ask
abbrev pub IsPipeOf : Single → Part → NamedPipe → Type 0
IsPipeOf single part pipe = (file : FileAddress × List ℕ) × (file_named single.target ≡ Some file) × IsToOpen (access_of file.0 single.options.file part) file.1 pipe

-- the ends are those of the part, and a pipe among them is the one that the address names
abbrev pub AreEndsOf : Single → Part → FileEnds → Type 0
AreEndsOf single part ends = (file : FileAddress × List ℕ) × (file_named single.target ≡ Some file) × AreOpened (λ _ _ _. ⊤) (λ _. ⊤) (λ _ _. ⊤) part (access_of file.0 single.options.file part) file.1 ends
