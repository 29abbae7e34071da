-- What is known of what was made.
use Rattle.std.proofs.Common.{◌≡◌, ℕ, List, sym, subst}
use Rattle.std.specs.Prelude.{Some, IsUtf8}
use Rattle.std.specs.declared.fs.File.{File}
use Rattle.std.specs.declared.fs.options.OpenOptions.{OpenOptions}
use Rattle.relay_model.specs.declared.places.Part.{Part}
use Rattle.relay_model.specs.declared.commands.Single.{Single}
use Rattle.port_trait.specs.declared.makers.Making.{Making}
use Rattle.port_trait.specs.declared.makers.Making.TheVariants as makings
use Rattle.socket_ports.specs.Removals.{IsRemoval}
use Rattle.file_ports.specs.Access.{access_of}
use Rattle.file_ports.specs.Opened.{OnMade, AreOpened, IsOpened, file_named}
use Rattle.file_ports.specs.declared.access.Access.{Access}
use Rattle.file_ports.specs.declared.access.FileAddress.{FileAddress}
use Rattle.file_ports.specs.declared.open.FileEnds.{FileEnds}
use Rattle.file_ports.specs.declared.open.OpenedFile.{OpenedFile}

pub on_made : {T : Type 0} (P Q : T → Type 0) (making : Making T) → ((made : T) → P made → Q made) → OnMade making P → OnMade making Q
on_made P Q (makings.Made made) more is = more made is
on_made P Q (makings.Later made) more is = is
on_made P Q makings.Failed more is = tt
on_made P Q makings.Memory more is = tt

-- ends that were opened as the address asks are those of the file that keeps them
pub opened_kept : (opens : OpenOptions → List ℕ → File → Type 0) (empties : File → Type 0) (copies : File → File → Type 0) (single : Single) (part : Part) (kind : FileAddress) (name text : List ℕ) (access : Access) (ends : FileEnds) (result : Making OpenedFile) → file_named single.target ≡ Some (kind, name) → IsUtf8 name → access ≡ access_of kind single.options.file part → text ≡ name → AreOpened opens empties copies part access text ends → OnMade result (λ opened. (opened.ends ≡ ends) × IsRemoval single.options.entry.unlink_close text opened.removal) → OnMade result (λ opened. IsOpened opens empties copies single part opened.ends opened.removal)
opened_kept opens empties copies single part kind name text access ends result found utf8 asked named opened kept =
    let asks = access_of kind single.options.file part in
    let by_access = subst (λ (how : Access). AreOpened opens empties copies part how text ends) asked opened in
    let by_name = subst (λ (bytes : List ℕ). AreOpened opens empties copies part asks bytes ends) named by_access in
    on_made _ _ result (λ made is. record {
      named = ((kind, name), found, utf8);
      opened = subst (λ (those : FileEnds). AreOpened opens empties copies part asks name those) (sym is.0) by_name;
      removed = subst (λ (bytes : List ℕ). IsRemoval single.options.entry.unlink_close bytes made.removal) named is.1;
    }) kept
