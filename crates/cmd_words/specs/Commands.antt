-- Which command a list of words makes, or the first thing that is wrong with it: the flags from left to right, then
-- the number of addresses, then the first address and the second, then the directions.
use Rattle.std.specs.Prelude.{◌≡◌, ◌≢◌, ℕ, ◌+◌, Bool, not, ◌&&◌, ◌||◌, List, [], ◌∷◌, length, drop, Option, Some, None, Result, Ok, Err, if◌then◌else◌}
use Rattle.relay_model.specs.{Side, Config, Ways, Address, Single, Refusal, Refused, Fit, listens, formed}
use Rattle.relay_model.specs.declared.places.Side.TheVariants.{Left, Right}
use Rattle.relay_model.specs.declared.places.Way.TheVariants.{LeftToRight, RightToLeft}
use Rattle.relay_model.specs.declared.commands.Ways.TheVariants as ways
use Rattle.relay_model.specs.declared.commands.Address.TheVariants as addresses
use Rattle.relay_model.specs.declared.refusals.Refusal.TheVariants as refusals
use Rattle.option_table.specs.{only_if}
use Rattle.addr_grammar.specs.{RawAddress, GrammarFault, ◌>>=◌, reading}
use Rattle.addr_grammar.specs.declared.addresses.RawAddress.TheVariants as written
use Rattle.addr_grammar.specs.declared.faults.GrammarFault.TheVariants as texts
use Rattle.addr_kinds.specs.{KindFault, Asked, resolution, counted}
use Rattle.addr_kinds.specs.declared.faults.KindFault.TheVariants as kinds
use Rattle.addr_kinds.specs.declared.uses.Asked.TheVariants.{TwoWay, Reading, Writing}
use Rattle.cmd_words.specs.declared.settings.Settings.{Settings}
use Rattle.cmd_words.specs.declared.settings.Instead.{Instead}
use Rattle.cmd_words.specs.declared.settings.Instead.TheVariants as instead
use Rattle.cmd_words.specs.declared.settings.Flagged.{Flagged}
use Rattle.cmd_words.specs.declared.settings.Flagged.TheVariants as flagged
use Rattle.cmd_words.specs.declared.faults.CommandFault.{CommandFault}
use Rattle.cmd_words.specs.declared.faults.CommandFault.TheVariants as faults
use Rattle.cmd_words.specs.declared.commands.Command.{Command}
use Rattle.cmd_words.specs.declared.commands.Command.TheVariants as commands
use Rattle.cmd_words.specs.Flags.{refused_at, flags_of}

-- ---- refusals

-- a half of the address at a place that is counted from 0; a half of 0 stands for the whole word
abbrev pub wrong_at : ℕ → ℕ → Refusal → CommandFault
wrong_at at half why = faults.Refused (refused_at at half why)

-- no word in particular
abbrev pub whole : Refusal → CommandFault
whole why = faults.Refused (record { word = 0; half = 0; why = why })

-- the refusal for a fault of an address's text
abbrev pub text_fault : ℕ → GrammarFault → CommandFault
text_fault at (texts.Unclosed offset) = wrong_at at 0 (refusals.Unclosed offset)
text_fault at (texts.LoneBackslash offset) = wrong_at at 0 (refusals.LoneBackslash offset)
text_fault at texts.TooLong = wrong_at at 0 refusals.TooLong
text_fault at texts.Empty = wrong_at at 0 refusals.Empty
text_fault at (texts.TooManyDuals offset) = wrong_at at 0 (refusals.TooManyDuals offset)
text_fault at (texts.EmptyOption offset) = wrong_at at 0 (refusals.EmptyOption offset)
text_fault at texts.Memory = faults.Memory

-- the refusal for a fault of an address's words
abbrev pub kind_fault : ℕ → ℕ → KindFault → CommandFault
kind_fault at half (kinds.UnknownOption place) = wrong_at at half (refusals.UnknownOption place)
kind_fault at half (kinds.LeftOutOption place) = wrong_at at half (refusals.LeftOutOption place)
kind_fault at half (kinds.WrongGroup place) = wrong_at at half (refusals.WrongGroup place)
kind_fault at half (kinds.BadValue place) = wrong_at at half (refusals.BadValue place)
kind_fault at half kinds.UnknownKind = wrong_at at half refusals.UnknownKind
kind_fault at half kinds.LeftOutKind = wrong_at at half refusals.LeftOutKind
kind_fault at half (kinds.Parameters want have) = wrong_at at half (refusals.Parameters want have)
kind_fault at half (kinds.BadParameter place) = wrong_at at half (refusals.BadParameter place)
kind_fault at half kinds.WrongUse = wrong_at at half refusals.WrongUse
kind_fault at half kinds.Memory = faults.Memory

-- ---- one address

-- the address of a word, or its refusal
abbrev pub parsed : ℕ → Result RawAddress GrammarFault → Result RawAddress CommandFault
parsed at (Ok address) = Ok address
parsed at (Err fault) = Err (text_fault at fault)

-- the single address of a half, or its refusal
abbrev pub single_at : ℕ → ℕ → Result Single KindFault → Result Single CommandFault
single_at at half (Ok single) = Ok single
single_at at half (Err fault) = Err (kind_fault at half fault)

-- what a single address is asked for: with `-u` the first is read and the second written, with `-U` the reverse
abbrev pub use_of : Ways → Side → Asked
use_of ways.Two side = TwoWay
use_of ways.OnlyRight Left = Reading
use_of ways.OnlyRight Right = Writing
use_of ways.OnlyLeft Left = Writing
use_of ways.OnlyLeft Right = Reading

-- each half of a dual address is asked for its own use, also where only the other is opened
abbrev pub resolved : Settings → ℕ → Side → RawAddress → Result Address CommandFault
resolved settings at side (written.One single) =
    single_at at 1 (resolution single (use_of settings.ways side) settings.general) >>= λ one.
    Ok (addresses.One one)
resolved settings at side (written.Two first second) =
    single_at at 1 (resolution first Reading settings.general) >>= λ reading.
    single_at at 2 (resolution second Writing settings.general) >>= λ writing.
    Ok (addresses.Two reading writing)

-- the half whose `fork` has no place: only a single first address that listens may have it
abbrev pub misplaced_fork : Side → Address → Option ℕ
misplaced_fork Left (addresses.One single) = only_if (single.options.sessions.fork && not (listens single.target)) 1
misplaced_fork Right (addresses.One single) = only_if single.options.sessions.fork 1
misplaced_fork side (addresses.Two reading writing) =
    if reading.options.sessions.fork then Some 1 else only_if writing.options.sessions.fork 2

-- the address, unless `fork` stands where it may not
abbrev pub placed : ℕ → Address → Option ℕ → Result Address CommandFault
placed at address None = Ok address
placed at address (Some half) = Err (wrong_at at half refusals.ForkPlace)

-- the address that the word at a place asks for
unfoldable pub address_at : Settings → ℕ → Side → List ℕ → Result Address CommandFault
address_at settings at side word =
    parsed at (reading word) >>= λ raw.
    resolved settings at side raw >>= λ address.
    placed at address (misplaced_fork side address)

-- ---- the whole

-- the relay that settings and two addresses make
abbrev pub config_of : Settings → Address → Address → Config
config_of settings left right = record {
  block = settings.block;
  closing = settings.closing;
  idle = settings.idle;
  ways = settings.ways;
  dump = settings.dump;
  sloppy = settings.sloppy;
  left = left;
  right = right;
}

-- at least one direction has both its ends
abbrev pub directed : Config → Result Command CommandFault
directed c =
    if formed c LeftToRight || formed c RightToLeft then Ok (commands.Relay c) else Err (whole refusals.NoDirection)

-- exactly two addresses, the first of them at this place
unfoldable pub between : Settings → ℕ → List (List ℕ) → Result Command CommandFault
between settings first (left_word ∷ right_word ∷ []) =
    address_at settings first Left left_word >>= λ left.
    address_at settings (first + 1) Right right_word >>= λ right.
    directed (config_of settings left right)
between settings first words = Err (whole (refusals.AddressCount (counted (length words))))

-- what is done in place of a relay
abbrev pub instead_of : Instead → Command
instead_of instead.Usage = commands.Usage
instead_of instead.Version = commands.Version
instead_of (instead.Load number) = commands.Load number

-- what the words behind the flags make
abbrev pub behind : List (List ℕ) → Result Flagged Refused → Result Command CommandFault
behind words (Ok (flagged.Relay settings first)) = between settings first (drop first words)
behind words (Ok (flagged.Instead what)) = Ok (instead_of what)
behind words (Err refused) = Err (faults.Refused refused)

-- the command that a list of words makes, or its first refusal
unfoldable pub command : List (List ℕ) → Result Command CommandFault
command words = behind words (flags_of words)

-- ---- what is promised

-- an answer gives the first fault, unless memory was wanting
abbrev pub Reports : {Y : Type 0} → CommandFault → Result Y CommandFault → Type 0
Reports faults.Memory made = Unit {0}
Reports (faults.Refused refused) made = made ≡ Err (faults.Refused refused)

-- what was answered is what the words make, unless memory ran out
abbrev pub Answers : {Y : Type 0} → Result Y CommandFault → Result Y CommandFault → Type 0
Answers (Ok x) made = made ≡ Ok x
Answers (Err fault) made = Reports fault made

-- a relay can be run
abbrev pub IsFit : Command → Type 0
IsFit (commands.Relay c) = Fit c
IsFit commands.Usage = Unit {0}
IsFit commands.Version = Unit {0}
IsFit (commands.Load number) = Unit {0}

-- the words make no relay
abbrev pub MakesNoRelay : List (List ℕ) → Type 0
MakesNoRelay words = (c : Config) → command words ≢ Ok (commands.Relay c)

-- the relay that the words make, or none
abbrev pub IsRelayOf : List (List ℕ) → Option Config → Type 0
IsRelayOf words None = MakesNoRelay words
IsRelayOf words (Some c) = command words ≡ Ok (commands.Relay c)
