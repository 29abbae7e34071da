-- What an address of words asks for, or the first thing that is wrong with it: its kind, then its parameters,
-- then its options from left to right, then its use.
use Rattle.std.specs.Prelude.{◌≡◌, ℕ, ◌+◌, Bool, true, false, not, ◌&&◌, ◌||◌, List, [], ◌∷◌, Option, Some, None, unwrap_or, Result, Ok, Err, if◌then◌else◌}
use Rattle.relay_model.specs.{FileFlags, Options, Single}
use Rattle.option_table.specs.{OptionId, OptionRow, Lookup, Value, lookup_of, writes_port, value_of}
use Rattle.option_table.specs.declared.rows.OptionId.TheVariants as id
use Rattle.option_table.specs.declared.rows.Lookup.TheVariants.{Known, LeftOut, Unknown}
use Rattle.addr_grammar.specs.{Named, Parts, ◌>>=◌}
use Rattle.addr_kinds.specs.declared.faults.KindFault.{KindFault}
use Rattle.addr_kinds.specs.declared.faults.KindFault.TheVariants.{UnknownOption, LeftOutOption, WrongGroup, BadValue, UnknownKind, LeftOutKind, WrongUse, Memory}
use Rattle.addr_kinds.specs.declared.uses.Asked.{Asked}
use Rattle.addr_kinds.specs.declared.uses.Asked.TheVariants.{TwoWay, Reading, Writing}
use Rattle.addr_kinds.specs.declared.kinds.FileKind.TheVariants.{Open, Gopen}
use Rattle.addr_kinds.specs.declared.kinds.HostKind.TheVariants.{Udp, UdpSendto}
use Rattle.addr_kinds.specs.declared.kinds.Kind.{Kind}
use Rattle.addr_kinds.specs.declared.kinds.Kind.TheVariants as kind
use Rattle.addr_kinds.specs.Kinds.{KnownKind, known_kinds, row_of, is_left_out, offers, includes}
use Rattle.addr_kinds.specs.Targets.{counted, target_of}
use Rattle.addr_kinds.specs.Effects.{first_options, effect}

-- a kind that isn't offered is left out or unknown
abbrev pub known_or_not : Option KnownKind → Bool → Result KnownKind KindFault
known_or_not (Some row) left_out = Ok row
known_or_not None left_out = if left_out then Err LeftOutKind else Err UnknownKind

-- what a keyword names, or why it is refused
unfoldable pub kind_of : List ℕ → Result KnownKind KindFault
kind_of keyword = known_or_not (row_of known_kinds keyword) (is_left_out keyword)

-- what is known of the option at this place
abbrev pub option_at : ℕ → Lookup → Result OptionRow KindFault
option_at place (Known row) = Ok row
option_at place LeftOut = Err (LeftOutOption place)
option_at place Unknown = Err (UnknownOption place)

-- whether the kind takes the option at this place
abbrev pub group_at : ℕ → Bool → Result (Unit {0}) KindFault
group_at place true = Ok tt
group_at place false = Err (WrongGroup place)

-- the kinds that connect by UDP may also bind to a port
abbrev pub binds_port : Kind → Bool
binds_port (kind.Host Udp family) = true
binds_port (kind.Host UdpSendto family) = true
binds_port kind = false

-- whether the option is a local address with a port for a kind that mayn't bind to one
abbrev pub is_port_too_many : Kind → OptionId → List ℕ → Bool
is_port_too_many kind id.Bind text = not (binds_port kind) && writes_port text
is_port_too_many kind id text = false

-- the value at this place, unless it is refused or is none
abbrev pub value_at : ℕ → Bool → Option Value → Result Value KindFault
value_at place false (Some value) = Ok value
value_at place refused value = Err (BadValue place)

-- the bytes of a value; none where no value is written
abbrev pub text_of : Option (List ℕ) → List ℕ
text_of value = unwrap_or value []

-- the options after one more, which stands at this place; with the flag `-g` a kind takes every group
unfoldable pub with_option : KnownKind → Bool → ℕ → Named → Options → Result Options KindFault
with_option known general place option options = do
  row ← option_at place (lookup_of option.name)
  taken ← group_at place (general || includes known.groups row.group)
  value ← value_at place (is_port_too_many known.kind row.id (text_of option.value)) (value_of row.form option.value)
  Ok (effect row.id value (text_of option.value) options)

-- the options after some more, the first of which stands at this place
unfoldable pub with_options : KnownKind → Bool → ℕ → List Named → Options → Result Options KindFault
with_options known general place [] options = Ok options
with_options known general place (option ∷ more) options = do
  changed ← with_option known general place option options
  with_options known general (counted (place + 1)) more changed

-- whether the flags leave a file open for what it is asked
abbrev pub allows : FileFlags → Asked → Bool
allows flags TwoWay = not (flags.rdonly && flags.wronly)
allows flags Reading = not flags.wronly
allows flags Writing = not flags.rdonly

-- the kinds that open a file by its name
abbrev pub opens_by_name : Kind → Bool
opens_by_name (kind.File Open) = true
opens_by_name (kind.File Gopen) = true
opens_by_name kind = false

-- the kind is offered for the use, and where it opens a file, the flags allow it
abbrev pub may_be_used : KnownKind → FileFlags → Asked → Bool
may_be_used known flags asked = offers known.uses asked && (not (opens_by_name known.kind) || allows flags asked)

-- whether the address may be used so
abbrev pub use_at : Bool → Result (Unit {0}) KindFault
use_at true = Ok tt
use_at false = Err WrongUse

-- the address that keyword, parameters and options ask for, or the first thing that is wrong
unfoldable pub resolution : Parts → Asked → Bool → Result Single KindFault
resolution parts asked general = do
  known ← kind_of parts.keyword
  target ← target_of known.kind parts.params
  options ← with_options known general 1 parts.options (first_options target)
  used ← use_at (may_be_used known options.file asked)
  Ok (record { target = target; options = options })

-- a fault that was reported is the one that resolving gives, unless memory ran out
abbrev pub Reports : {Y : Type 0} → KindFault → Result Y KindFault → Type 0
Reports Memory found = Unit {0}
Reports fault found = found ≡ Err fault

-- what a function returned, seen by view, is what resolving gives, unless memory ran out
abbrev pub Resolves : {X Y : Type 0} → (X → Y) → Result X KindFault → Result Y KindFault → Type 0
Resolves view (Ok x) found = found ≡ Ok (view x)
Resolves view (Err fault) found = Reports fault found
