-- What is refused of an address is refused for the fault that its text has, where it is the text's.
use Rattle.std.proofs.Common.{◌≡◌, ℕ, List, Option, Some, None, Result, Ok, Err, refl, subst}
use Rattle.std.specs.Prelude.{IfErr}
use Rattle.relay_model.specs.declared.places.Side.{Side}
use Rattle.relay_model.specs.declared.commands.Address.{Address}
use Rattle.relay_model.specs.declared.commands.Address.TheVariants as addresses
use Rattle.relay_model.specs.declared.commands.Single.{Single}
use Rattle.relay_model.specs.declared.refusals.Refusal.TheVariants as refusals
use Rattle.addr_grammar.specs.declared.addresses.RawAddress.{RawAddress}
use Rattle.addr_grammar.specs.declared.addresses.RawAddress.TheVariants as written
use Rattle.addr_grammar.specs.declared.faults.GrammarFault.{GrammarFault}
use Rattle.addr_grammar.specs.declared.faults.GrammarFault.TheVariants as texts
use Rattle.addr_grammar.specs.Grammar.{◌>>=◌, reading}
use Rattle.addr_grammar.proofs.FirstFaults.{read_fault}
use Rattle.addr_kinds.specs.declared.faults.KindFault.{KindFault}
use Rattle.addr_kinds.specs.declared.faults.KindFault.TheVariants as kinds
use Rattle.addr_kinds.specs.declared.uses.Asked.TheVariants.{Reading, Writing}
use Rattle.addr_kinds.specs.Resolving.{resolution}
use Rattle.cmd_words.specs.declared.settings.Settings.{Settings}
use Rattle.cmd_words.specs.declared.faults.CommandFault.{CommandFault}
use Rattle.cmd_words.specs.declared.faults.CommandFault.TheVariants as faults
use Rattle.cmd_words.specs.Commands.{wrong_at, text_fault, kind_fault, parsed, single_at, use_of, resolved, misplaced_fork, placed, address_at, Answers}
use Rattle.cmd_words.specs.Blames.{IsBlamed}

abbrev Blames : {A : Type 0} → List ℕ → Result A CommandFault → Type 0
Blames word r = (fault : CommandFault) → r ≡ Err fault → IsBlamed word fault

abbrev failed : {A : Type 0} → CommandFault → Result A CommandFault
failed fault = Err fault

fault_is : {A : Type 0} (fault other : CommandFault) → failed {A = A} fault ≡ failed {A = A} other → fault ≡ other
fault_is fault other e = cc

ok_blames : {A : Type 0} (word : List ℕ) (x : A) → Blames word (Ok x)
ok_blames word x fault e = absurd cc

err_blames : {A : Type 0} (word : List ℕ) (found : CommandFault) → IsBlamed word found → Blames {A = A} word (Err found)
err_blames word found p fault e = subst (IsBlamed word) (fault_is found fault e) p

then_blames : {A B : Type 0} (word : List ℕ) (r : Result A CommandFault) (f : A → Result B CommandFault) → Blames word r → ((x : A) → Blames word (f x)) → Blames word (r >>= f)
then_blames word (Ok x) f first next = next x
then_blames word (Err found) f first next = err_blames word found (first found refl)

-- a fault of the text
text_blames : (word : List ℕ) (at : ℕ) (fault : GrammarFault) → reading word ≡ Err fault → IsBlamed word (text_fault at fault)
text_blames word at (texts.Unclosed offset) e = read_fault word (Err (texts.Unclosed offset)) e
text_blames word at (texts.LoneBackslash offset) e = read_fault word (Err (texts.LoneBackslash offset)) e
text_blames word at texts.TooLong e = read_fault word (Err texts.TooLong) e
text_blames word at texts.Empty e = read_fault word (Err texts.Empty) e
text_blames word at (texts.TooManyDuals offset) e = read_fault word (Err (texts.TooManyDuals offset)) e
text_blames word at (texts.EmptyOption offset) e = read_fault word (Err (texts.EmptyOption offset)) e
text_blames word at texts.Memory e = tt

parsed_blames : (word : List ℕ) (at : ℕ) (r : Result RawAddress GrammarFault) → reading word ≡ r → Blames word (parsed at r)
parsed_blames word at (Ok address) is = ok_blames word address
parsed_blames word at (Err fault) is = err_blames word (text_fault at fault) (text_blames word at fault is)

-- no fault of an option or a kind is the text's
kind_blames : (word : List ℕ) (at half : ℕ) (fault : KindFault) → IsBlamed word (kind_fault at half fault)
kind_blames word at half (kinds.UnknownOption place) = tt
kind_blames word at half (kinds.LeftOutOption place) = tt
kind_blames word at half (kinds.WrongGroup place) = tt
kind_blames word at half (kinds.BadValue place) = tt
kind_blames word at half kinds.UnknownKind = tt
kind_blames word at half kinds.LeftOutKind = tt
kind_blames word at half (kinds.Parameters want have) = tt
kind_blames word at half (kinds.BadParameter place) = tt
kind_blames word at half kinds.WrongUse = tt
kind_blames word at half kinds.Memory = tt

single_blames : (word : List ℕ) (at half : ℕ) (r : Result Single KindFault) → Blames word (single_at at half r)
single_blames word at half (Ok single) = ok_blames word single
single_blames word at half (Err fault) = err_blames word (kind_fault at half fault) (kind_blames word at half fault)

resolved_blames : (word : List ℕ) (settings : Settings) (at : ℕ) (side : Side) (raw : RawAddress) → Blames word (resolved settings at side raw)
resolved_blames word settings at side (written.One single) =
    then_blames word (single_at at 1 (resolution single (use_of settings.ways side) settings.general)) (λ one. Ok (addresses.One one)) (single_blames word at 1 _) (λ one. ok_blames word (addresses.One one))
resolved_blames word settings at side (written.Two first second) =
    then_blames word (single_at at 1 (resolution first Reading settings.general)) (λ reading. single_at at 2 (resolution second Writing settings.general) >>= λ writing. Ok (addresses.Two reading writing)) (single_blames word at 1 _)
    (λ reading. then_blames word (single_at at 2 (resolution second Writing settings.general)) (λ writing. Ok (addresses.Two reading writing)) (single_blames word at 2 _) (λ writing. ok_blames word (addresses.Two reading writing)))

placed_blames : (word : List ℕ) (at : ℕ) (address : Address) (half : Option ℕ) → Blames word (placed at address half)
placed_blames word at address None = ok_blames word address
placed_blames word at address (Some half) = err_blames word (wrong_at at half refusals.ForkPlace) tt

address_blames : (settings : Settings) (at : ℕ) (side : Side) (word : List ℕ) → Blames word (address_at settings at side word)
unfolding address_at
address_blames settings at side word =
    then_blames word (parsed at (reading word)) (λ raw. resolved settings at side raw >>= λ address. placed at address (misplaced_fork side address)) (parsed_blames word at (reading word) refl)
    (λ raw. then_blames word (resolved settings at side raw) (λ address. placed at address (misplaced_fork side address)) (resolved_blames word settings at side raw) (λ address. placed_blames word at address (misplaced_fork side address)))

-- what was refused
pub answer_blames : (settings : Settings) (at : ℕ) (side : Side) (word : List ℕ) (r : Result Address CommandFault) → Answers r (address_at settings at side word) → IfErr r (IsBlamed word)
answer_blames settings at side word (Ok address) e = tt
answer_blames settings at side word (Err (faults.Refused refused)) e = address_blames settings at side word (faults.Refused refused) e
answer_blames settings at side word (Err faults.Memory) e = tt
