-- Why nothing is shown, from one step to the next.
use Rattle.std.proofs.Common.{◌≡◌, ℕ, ◌≤◌, List, length}
use Rattle.std.proofs.Common.{Vec, Global}
use Rattle.std.specs.Prelude.{Result, Ok, Err, IfOk, IfErr}
use Rattle.relay_model.specs.declared.commands.Config.{Config}
use Rattle.relay_model.specs.declared.acts.Act.{Act}
use Rattle.cmd_words.specs.declared.commands.Command.TheVariants.{Relay}
use Rattle.cmd_words.specs.Commands.{command}
use Rattle.journal_report.specs.declared.views.View.{View}
use Rattle.journal_report.specs.declared.shown.Unshown.TheVariants.{TooLong, BadWords, BadLine, NoSession}
use Rattle.journal_report.specs.declared.shown.ViewFault.{ViewFault}
use Rattle.journal_report.specs.declared.shown.ViewFault.TheVariants as faults
use Rattle.journal_text.specs.Sources.{longest_text}
use Rattle.journal_report.specs.Shown.{Reads, OnFault, WhyNoJournal, WhyUnshownOf, WhyUnshownBy, WhyUnshown, IsViewBy, IsViewOf}

-- what follows from what is said of a value, or of an error
if_ok : {T E : Type 0} (P Q : T → Type 0) → ((value : T) → P value → Q value) → (r : Result T E) → IfOk r P → IfOk r Q
if_ok P Q follows (Ok value) said = follows value said
if_ok P Q follows (Err fault) said = tt

if_err : {T E : Type 0} (P Q : E → Type 0) → ((fault : E) → P fault → Q fault) → (r : Result T E) → IfErr r P → IfErr r Q
if_err P Q follows (Ok value) said = tt
if_err P Q follows (Err fault) said = follows fault said

-- of the lines
pub unread : (c : Config) (text : List ℕ) (asked : View) (fault : ViewFault) → OnFault (WhyNoJournal text) fault → OnFault (WhyUnshownBy c text asked) fault
unread c text asked (faults.Unshown TooLong) why = absurd why
unread c text asked (faults.Unshown BadWords) why = absurd why
unread c text asked (faults.Unshown (BadLine number)) why = why
unread c text asked (faults.Unshown NoSession) why = absurd why
unread c text asked faults.Memory why = why

-- of the acts
pub unshown_by : (c : Config) (text : List ℕ) (history : List Act) (asked : View) (fault : ViewFault) → Reads text history → OnFault (WhyUnshownOf c history asked) fault → OnFault (WhyUnshownBy c text asked) fault
unshown_by c text history asked (faults.Unshown TooLong) reads why = absurd why
unshown_by c text history asked (faults.Unshown BadWords) reads why = absurd why
unshown_by c text history asked (faults.Unshown (BadLine number)) reads why = absurd why
unshown_by c text history asked (faults.Unshown NoSession) reads why = (history, reads, why)
unshown_by c text history asked faults.Memory reads why = why

-- of a text by its command
pub unshown : (c : Config) (words : List (List ℕ)) (text : List ℕ) (asked : View) (fault : ViewFault) → length text ≤ longest_text → command words ≡ Ok (Relay c) → OnFault (WhyUnshownBy c text asked) fault → OnFault (WhyUnshown asked words text) fault
unshown c words text asked (faults.Unshown TooLong) short made why = absurd why
unshown c words text asked (faults.Unshown BadWords) short made why = absurd why
unshown c words text asked (faults.Unshown (BadLine number)) short made why = (short, c, made, why)
unshown c words text asked (faults.Unshown NoSession) short made why = (short, c, made, why)
unshown c words text asked faults.Memory short made why = why

-- bytes, as they are shown
abbrev Shown : Type 0
Shown = Vec ℕ Global

-- the view that the command makes is that of the words that make it
pub view_made : {E : Type 0} (c : Config) (words : List (List ℕ)) (text : List ℕ) (asked : View) (r : Result Shown E) → length text ≤ longest_text → command words ≡ Ok (Relay c) → IfOk r (λ shown. IsViewBy c text asked shown.items) → IfOk r (λ shown. IsViewOf asked words text shown.items)
view_made c words text asked r short made said =
    if_ok (λ (shown : Shown). IsViewBy c text asked shown.items) (λ (shown : Shown). IsViewOf asked words text shown.items) (λ shown right. record { c = c; short = short; made = made; right = right }) r said

pub unshown_made : {T : Type 0} (c : Config) (words : List (List ℕ)) (text : List ℕ) (asked : View) (r : Result T ViewFault) → length text ≤ longest_text → command words ≡ Ok (Relay c) → IfErr r (OnFault (WhyUnshownBy c text asked)) → IfErr r (OnFault (WhyUnshown asked words text))
unshown_made c words text asked r short made said =
    if_err (OnFault (WhyUnshownBy c text asked)) (OnFault (WhyUnshown asked words text)) (λ fault why. unshown c words text asked fault short made why) r said
