-- What the flags in front of the addresses say.
use Rattle.std.specs.Prelude.{ℕ, ◌+◌, ◌≤◌, Bool, true, false, ◌&&◌, ◌||◌, ◌==◌, nat_le, List, [], ◌∷◌, length, Option, Some, None, option_map, Result, Ok, Err, codes, bytes_eq, if◌then◌else◌}
use Prim.Native.String.{String}
use Rattle.std.specs.Str.{byte}
use Rattle.std.specs.Borrow.{Bor}
use Rattle.relay_model.specs.{Dump, Refusal, Refused}
use Rattle.relay_model.specs.declared.commands.Dump.TheVariants as dump
use Rattle.relay_model.specs.declared.commands.Ways.TheVariants as ways
use Rattle.relay_model.specs.declared.refusals.Refusal.TheVariants as refusals
use Rattle.option_table.specs.{◌>>=◌, only_if, number_of, time_of}
use Rattle.addr_kinds.specs.{counted}
use Rattle.cmd_words.specs.declared.settings.Settings.{Settings}
use Rattle.cmd_words.specs.declared.settings.Switch.{Switch}
use Rattle.cmd_words.specs.declared.settings.Switch.TheVariants.{OnlyRight, OnlyLeft, TextDump, HexDump, AnyGroup, Sloppy, Messages}
use Rattle.cmd_words.specs.declared.settings.Measure.{Measure}
use Rattle.cmd_words.specs.declared.settings.Measure.TheVariants.{Block, Closing, Idle}
use Rattle.cmd_words.specs.declared.settings.Instead.TheVariants as instead
use Rattle.cmd_words.specs.declared.settings.FlagStep.{FlagStep}
use Rattle.cmd_words.specs.declared.settings.FlagStep.TheVariants.{Alone, WithNext, Stop}
use Rattle.cmd_words.specs.declared.settings.Flagged.{Flagged}
use Rattle.cmd_words.specs.declared.settings.Flagged.TheVariants as flagged
use Rattle.cmd_words.specs.declared.flags.Plain.{Plain}
use Rattle.cmd_words.specs.declared.flags.Plain.TheVariants as plain

-- ---- flags and addresses

-- what stands behind a `-` that is an address: nothing, an option or another half
abbrev pub goes_on : List ℕ → Bool
goes_on [] = true
goes_on (b ∷ []) = b == byte ","
goes_on (b ∷ c ∷ bytes) = b == byte "," || (b == byte "!" && c == byte "!")

-- whether a word is the first address: all are but those that begin with `-` and are more than standard input and
-- output
abbrev pub begins_addresses : List ℕ → Bool
begins_addresses [] = true
begins_addresses (b ∷ bytes) = if b == byte "-" then goes_on bytes else true

-- ---- the table of flags

-- a flag by its name
pub record NamedFlag : Type 0 where
  pub name : List ℕ
  pub flag : Plain

-- a row of the program's own table
abbrev pub as_named : Bor (List ℕ) × Plain → NamedFlag
as_named r = record { name = r.0.now; flag = r.1 }

-- a row of the table: a flag's name and what it is
abbrev pub offer : String → Plain → NamedFlag
offer name flag = record { name = codes name; flag = flag }

-- the flags without an attached value
unfoldable pub known_flags : List NamedFlag
known_flags =
    offer "-u" (plain.Switch OnlyRight)
    ∷ offer "-U" (plain.Switch OnlyLeft)
    ∷ offer "-v" (plain.Switch TextDump)
    ∷ offer "-x" (plain.Switch HexDump)
    ∷ offer "-g" (plain.Switch AnyGroup)
    ∷ offer "-s" (plain.Switch Sloppy)
    ∷ offer "-d" (plain.Switch Messages)
    ∷ offer "-dd" (plain.Switch Messages)
    ∷ offer "-ddd" (plain.Switch Messages)
    ∷ offer "-dddd" (plain.Switch Messages)
    ∷ offer "-h" plain.Usage
    ∷ offer "-?" plain.Usage
    ∷ offer "-V" plain.Version
    ∷ offer "--load" plain.Load
    ∷ []

-- the first flag of this name, which is written as it stands
abbrev pub found : List NamedFlag → List ℕ → Option Plain
found [] word = None
found (known ∷ rest) word = if bytes_eq known.name word then Some known.flag else found rest word

-- the flag that this word is
unfoldable pub plain_flag : List ℕ → Option Plain
plain_flag word = found known_flags word

-- ---- what a flag sets

-- both styles of dump together are the mixed one
abbrev pub with_text : Dump → Dump
with_text dump.Off = dump.Text
with_text dump.Text = dump.Text
with_text dump.Hex = dump.Mixed
with_text dump.Mixed = dump.Mixed

-- the dumps with one in hexadecimal
abbrev pub with_hex : Dump → Dump
with_hex dump.Off = dump.Hex
with_hex dump.Hex = dump.Hex
with_hex dump.Text = dump.Mixed
with_hex dump.Mixed = dump.Mixed

-- of `-u` and `-U` the later one holds; the flags for messages change nothing
abbrev pub switched : Settings → Switch → Settings
switched settings OnlyRight = record settings { ways = ways.OnlyRight }
switched settings OnlyLeft = record settings { ways = ways.OnlyLeft }
switched settings TextDump = record settings { dump = with_text settings.dump }
switched settings HexDump = record settings { dump = with_hex settings.dump }
switched settings AnyGroup = record settings { general = true }
switched settings Sloppy = record settings { sloppy = true }
switched settings Messages = settings

-- the flag with a value that this letter is
abbrev pub measure_of : ℕ → Option Measure
measure_of c =
    if c == byte "b" then Some Block
    else (if c == byte "t" then Some Closing
    else (if c == byte "T" then Some Idle else None))

-- a flag with a value, and what is attached to it
abbrev pub measured : List ℕ → Option (Measure × List ℕ)
measured [] = None
measured (b ∷ []) = None
measured (b ∷ c ∷ attached) =
    if b == byte "-" then option_map (λ measure. (measure, attached)) (measure_of c) else None

-- the settings after a value that is written well: a block has 1 to 1,048,576 bytes
abbrev pub set_to : Settings → Measure → List ℕ → Option Settings
set_to settings Block value =
    number_of value >>= (λ n. only_if (nat_le 1 n && nat_le n 1048576) (record settings { block = n }))
set_to settings Closing value = option_map (λ time. record settings { closing = time }) (time_of value)
set_to settings Idle value = option_map (λ time. record settings { idle = time }) (time_of value)

-- ---- one flag

-- a value where it is written well, else a refusal
abbrev pub if_written : {A B : Type 0} → (A → B) → Option A → Result B Refusal
if_written f (Some value) = Ok (f value)
if_written f None = Err refusals.BadFlagValue

-- the value is attached, or else it is the next word
abbrev pub measure_step : Settings → Measure → List ℕ → Option (List ℕ) → Result FlagStep Refusal
measure_step settings measure (b ∷ attached) next = if_written Alone (set_to settings measure (b ∷ attached))
measure_step settings measure [] (Some next) = if_written WithNext (set_to settings measure next)
measure_step settings measure [] None = Err refusals.NoValue

-- the number of a generated run is always the next word
abbrev pub load_of : Option (List ℕ) → Result FlagStep Refusal
load_of (Some next) = if_written (λ n. Stop (instead.Load n)) (number_of next)
load_of None = Err refusals.NoValue

-- what a flag without an attached value does
abbrev pub plain_step : Settings → Plain → Option (List ℕ) → Result FlagStep Refusal
plain_step settings (plain.Switch switch) next = Ok (Alone (switched settings switch))
plain_step settings plain.Usage next = Ok (Stop instead.Usage)
plain_step settings plain.Version next = Ok (Stop instead.Version)
plain_step settings plain.Load next = load_of next

-- what a word does that is a known flag, else its refusal
abbrev pub other_step : Settings → Option Plain → Option (List ℕ) → Result FlagStep Refusal
other_step settings (Some flag) next = plain_step settings flag next
other_step settings None next = Err refusals.UnknownFlag

-- what a word does, with or without an attached value
abbrev pub known_step : Settings → Option (Measure × List ℕ) → List ℕ → Option (List ℕ) → Result FlagStep Refusal
known_step settings (Some m) word next = measure_step settings m.0 m.1 next
known_step settings None word next = other_step settings (plain_flag word) next

-- what a flag does, by its word and the word behind it
unfoldable pub step_of : Settings → List ℕ → Option (List ℕ) → Result FlagStep Refusal
step_of settings word next = known_step settings (measured word) word next

-- a block has 1 to 1,048,576 bytes
pub record IsBounded (settings : Settings) : Type 0 where
  pub low : 1 ≤ settings.block
  pub high : settings.block ≤ 1048576

-- a step goes behind the next word only where there is one
abbrev pub IsSound : Option (List ℕ) → FlagStep → Type 0
IsSound next (Alone settings) = IsBounded settings
IsSound (Some word) (WithNext settings) = IsBounded settings
IsSound None (WithNext settings) = ⊥
IsSound next (Stop what) = Unit {0}

-- ---- all flags

-- a refusal of the word at a place that is counted from 0
abbrev pub refused_at : ℕ → ℕ → Refusal → Refused
refused_at at half why = record { word = counted (at + 1); half = half; why = why }

-- reading goes on behind a flag or behind its value
abbrev pub after : ℕ → Result FlagStep Refusal → (Settings → Result Flagged Refused) → (Settings → Result Flagged Refused) → Result Flagged Refused
after at (Ok (Alone settings)) one two = one settings
after at (Ok (WithNext settings)) one two = two settings
after at (Ok (Stop what)) one two = Ok (flagged.Instead what)
after at (Err why) one two = Err (refused_at at 0 why)

-- the words from a place on, counted from 0, behind flags that made these settings
unfoldable pub flags_from : Settings → ℕ → List (List ℕ) → Result Flagged Refused
flags_from settings at [] = Ok (flagged.Relay settings at)
flags_from settings at (word ∷ []) =
    if begins_addresses word then Ok (flagged.Relay settings at)
    else after at (step_of settings word None)
    (λ changed. Ok (flagged.Relay changed (at + 1))) (λ changed. Ok (flagged.Relay changed (at + 2)))
flags_from settings at (word ∷ next ∷ words) =
    if begins_addresses word then Ok (flagged.Relay settings at)
    else after at (step_of settings word (Some next))
    (λ changed. flags_from changed (at + 1) (next ∷ words)) (λ changed. flags_from changed (at + 2) words)

-- the settings without a flag: blocks of 8192 bytes, half a second of closing time, both directions
abbrev pub defaults : Settings
defaults = record {
  block = 8192;
  closing = 500;
  idle = 0;
  ways = ways.Two;
  dump = dump.Off;
  sloppy = false;
  general = false;
}

-- what the flags of a command line lead to, or the first that is wrong
abbrev pub flags_of : List (List ℕ) → Result Flagged Refused
flags_of words = flags_from defaults 0 words

-- the addresses begin within the words
abbrev pub IsWithin : List (List ℕ) → Flagged → Type 0
IsWithin words (flagged.Relay settings first) = IsBounded settings × (first ≤ length words)
IsWithin words (flagged.Instead what) = Unit {0}
