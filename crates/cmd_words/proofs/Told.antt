-- No words are told to want memory.
use Rattle.std.proofs.Common.{◌≡◌, ℕ, ◌+◌, Bool, true, false, ◌||◌, List, [], ◌∷◌, drop, Option, Some, None, Result, Ok, Err, refl}
use Rattle.std.specs.Prelude.{if◌then◌else◌}
use Rattle.relay_model.specs.declared.places.Side.{Side}
use Rattle.relay_model.specs.declared.places.Side.TheVariants.{Left, Right}
use Rattle.relay_model.specs.declared.places.Way.TheVariants.{LeftToRight, RightToLeft}
use Rattle.relay_model.specs.declared.commands.Config.{Config}
use Rattle.relay_model.specs.declared.commands.Address.{Address}
use Rattle.relay_model.specs.declared.commands.Address.TheVariants as addresses
use Rattle.relay_model.specs.declared.commands.Single.{Single}
use Rattle.relay_model.specs.declared.refusals.Refused.{Refused}
use Rattle.relay_model.specs.Configs.{formed}
use Rattle.addr_grammar.specs.declared.addresses.RawAddress.{RawAddress}
use Rattle.addr_grammar.specs.declared.addresses.RawAddress.TheVariants as written
use Rattle.addr_grammar.specs.declared.faults.GrammarFault.{GrammarFault}
use Rattle.addr_grammar.specs.declared.faults.GrammarFault.TheVariants as texts
use Rattle.addr_grammar.specs.Grammar.{◌>>=◌, reading}
use Rattle.addr_grammar.proofs.Told.{text_is_told}
use Rattle.addr_kinds.specs.declared.faults.KindFault.{KindFault}
use Rattle.addr_kinds.specs.declared.faults.KindFault.TheVariants as kinds
use Rattle.addr_kinds.specs.declared.uses.Asked.TheVariants.{Reading, Writing}
use Rattle.addr_kinds.specs.Resolving.{resolution}
use Rattle.addr_kinds.proofs.Told.{ok_never, then_never, resolution_told}
use Rattle.cmd_words.specs.declared.settings.Settings.{Settings}
use Rattle.cmd_words.specs.declared.settings.Flagged.{Flagged}
use Rattle.cmd_words.specs.declared.settings.Flagged.TheVariants as flagged
use Rattle.cmd_words.specs.declared.faults.CommandFault.{CommandFault}
use Rattle.cmd_words.specs.declared.faults.CommandFault.TheVariants as faults
use Rattle.cmd_words.specs.declared.commands.Command.TheVariants as commands
use Rattle.cmd_words.specs.Flags.{flags_of}
use Rattle.cmd_words.specs.Commands.{parsed, single_at, use_of, resolved, misplaced_fork, placed, address_at, directed, config_of, between, behind, instead_of, command}

-- an answer that isn't want of memory
abbrev pub Told : {A : Type 0} → Result A CommandFault → Type 0
Told r = r ≡ Err faults.Memory → ⊥

ok_told : {A : Type 0} (x : A) → Told (Ok x)
ok_told x = ok_never faults.Memory x

then_told : {A B : Type 0} (r : Result A CommandFault) (f : A → Result B CommandFault) → Told r → ((x : A) → Told (f x)) → Told (r >>= f)
then_told r f first next = then_never faults.Memory r f first next

refused_told : {A : Type 0} (refused : Refused) → Told {A = A} (Err (faults.Refused refused))
refused_told refused e = absurd cc

-- ---- one address

pub parsed_told : (at : ℕ) (read : Result RawAddress GrammarFault) → (read ≡ Err texts.Memory → ⊥) → Told (parsed at read)
parsed_told at (Ok address) told e = absurd cc
parsed_told at (Err (texts.Unclosed offset)) told e = absurd cc
parsed_told at (Err (texts.LoneBackslash offset)) told e = absurd cc
parsed_told at (Err texts.TooLong) told e = absurd cc
parsed_told at (Err texts.Empty) told e = absurd cc
parsed_told at (Err (texts.TooManyDuals offset)) told e = absurd cc
parsed_told at (Err (texts.EmptyOption offset)) told e = absurd cc
parsed_told at (Err texts.Memory) told e = told refl

pub single_told : (at half : ℕ) (found : Result Single KindFault) → (found ≡ Err kinds.Memory → ⊥) → Told (single_at at half found)
single_told at half (Ok single) told e = absurd cc
single_told at half (Err (kinds.UnknownOption place)) told e = absurd cc
single_told at half (Err (kinds.LeftOutOption place)) told e = absurd cc
single_told at half (Err (kinds.WrongGroup place)) told e = absurd cc
single_told at half (Err (kinds.BadValue place)) told e = absurd cc
single_told at half (Err kinds.UnknownKind) told e = absurd cc
single_told at half (Err kinds.LeftOutKind) told e = absurd cc
single_told at half (Err (kinds.Parameters want have)) told e = absurd cc
single_told at half (Err (kinds.BadParameter place)) told e = absurd cc
single_told at half (Err kinds.WrongUse) told e = absurd cc
single_told at half (Err kinds.Memory) told e = told refl

resolved_told : (settings : Settings) (at : ℕ) (side : Side) (raw : RawAddress) → Told (resolved settings at side raw)
resolved_told settings at side (written.One single) =
    let found : Result Single KindFault = resolution single (use_of settings.ways side) settings.general in
    then_told (single_at at 1 found) (λ one. Ok (addresses.One one)) (single_told at 1 found (resolution_told single (use_of settings.ways side) settings.general))
    (λ one. ok_told (addresses.One one))
resolved_told settings at side (written.Two first second) =
    let reads : Result Single KindFault = resolution first Reading settings.general in
    let writes : Result Single KindFault = resolution second Writing settings.general in
    then_told (single_at at 1 reads) (λ reading. single_at at 2 writes >>= λ writing. Ok (addresses.Two reading writing))
    (single_told at 1 reads (resolution_told first Reading settings.general))
    (λ reading. then_told (single_at at 2 writes) (λ writing. Ok (addresses.Two reading writing))
    (single_told at 2 writes (resolution_told second Writing settings.general)) (λ writing. ok_told (addresses.Two reading writing)))

placed_told : (at : ℕ) (address : Address) (wrong : Option ℕ) → Told (placed at address wrong)
placed_told at address None e = ok_told address e
placed_told at address (Some half) e = absurd cc

pub address_told : (settings : Settings) (at : ℕ) (side : Side) (word : List ℕ) → Told (address_at settings at side word)
unfolding address_at
address_told settings at side word =
    then_told (parsed at (reading word)) (λ raw. resolved settings at side raw >>= λ address. placed at address (misplaced_fork side address))
    (parsed_told at (reading word) (text_is_told word))
    (λ raw. then_told (resolved settings at side raw) (λ address. placed at address (misplaced_fork side address)) (resolved_told settings at side raw)
    (λ address. placed_told at address (misplaced_fork side address)))

-- ---- the whole

some_told : (is_formed : Bool) (c : Config) (refused : Refused) → Told (if is_formed then Ok (commands.Relay c) else Err (faults.Refused refused))
some_told true c refused = ok_told (commands.Relay c)
some_told false c refused = refused_told refused

directed_told : (c : Config) → Told (directed c)
directed_told c = some_told (formed c LeftToRight || formed c RightToLeft) c _

pub between_told : (settings : Settings) (first : ℕ) (words : List (List ℕ)) → Told (between settings first words)
unfolding between
between_told settings first [] = refused_told _
between_told settings first (word ∷ []) = refused_told _
between_told settings first (left_word ∷ right_word ∷ []) =
    then_told (address_at settings first Left left_word) (λ left. address_at settings (first + 1) Right right_word >>= λ right. directed (config_of settings left right))
    (address_told settings first Left left_word)
    (λ left. then_told (address_at settings (first + 1) Right right_word) (λ right. directed (config_of settings left right))
    (address_told settings (first + 1) Right right_word) (λ right. directed_told (config_of settings left right)))
between_told settings first (one ∷ two ∷ three ∷ words) = refused_told _

behind_told : (words : List (List ℕ)) (flags : Result Flagged Refused) → Told (behind words flags)
behind_told words (Ok (flagged.Relay settings first)) = between_told settings first (drop first words)
behind_told words (Ok (flagged.Instead what)) = ok_told (instead_of what)
behind_told words (Err refused) = refused_told refused

pub command_told : (words : List (List ℕ)) → Told (command words)
unfolding command
command_told words = behind_told words (flags_of words)
