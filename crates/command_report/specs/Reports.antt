-- What a report on a command tells, in order: what holds for the whole relay, the first address, the second.
use Rattle.std.specs.Prelude.{◌≡◌, ℕ, ◌*◌, Bool, true, false, List, [], ◌∷◌, ◌++◌, Option, Some, None, decimal, if◌then◌else◌}
use Rattle.relay_model.specs.{Side, Shut, Config, Target, Address, address, formed, output, how, way_from, way_to, newline}
use Rattle.relay_model.specs.declared.places.Side.TheVariants.{Left, Right}
use Rattle.relay_model.specs.declared.acts.Shut.TheVariants as shuts
use Rattle.relay_model.specs.declared.commands.Address.TheVariants as addresses
use Rattle.cmd_words.specs.{Command}
use Rattle.cmd_words.specs.declared.commands.Command.TheVariants as commands
use Rattle.place_report.specs.{said, title_of, use_line, IsTold}

-- the line on blocks: how long one is, and that no more than two wait
abbrev pub block_line : ℕ → List ℕ
block_line block =
    said "blocks: " ++ (decimal block ++ (said " bytes at most; no more than " ++ (decimal (2 * block)
    ++ (said " bytes ever wait in one direction (-b)" ++ newline))))

-- what holds for the whole relay begins with its blocks
pub record SettingsTold (c : Config) (text : List ℕ) : Type 0 where
  pub others : List ℕ
  pub told : text ≡ block_line c.block ++ others

-- how an end is passed on, in words
abbrev pub ending_words : Option Shut → List ℕ
ending_words None = said "none comes: nothing is written to it"
ending_words (Some shuts.Nothing) = said "isn't passed on to it (as with shut-none)"
ending_words (Some shuts.Down) = said "passed on by ending its writing half (as with shut-down)"
ending_words (Some shuts.Close) = said "passed on by closing it (as with shut-close)"
ending_words (Some shuts.Null) = said "passed on by an empty datagram (as with shut-null)"

-- how the end of the direction that is written to a side is passed on there, if one is
abbrev pub ending : Config → Side → Option Shut
ending c side = if formed c (way_to side) then Some (how c (output c 0 (way_to side))) else None

-- the last line of an address
abbrev pub ending_line : Config → Side → List ℕ
ending_line c side = said "  the other's end: " ++ (ending_words (ending c side) ++ newline)

-- the two halves of a dual address, the reading one first
pub record AreTold (title : List ℕ) (reading writing : Target) (read written : Bool) (last : List ℕ) (text : List ℕ) : Type 0 where
  pub first : List ℕ
  pub second : List ℕ
  pub told : text ≡ first ++ second
  pub reading_told : IsTold (title ++ said ", to read from: ") reading (use_line read false) [] first
  pub writing_told : IsTold (title ++ said ", to write to: ") writing (use_line false written) last second

-- the lines on an address that is read, or isn't, and written, or isn't
abbrev pub AddressTold : List ℕ → Address → Bool → Bool → List ℕ → List ℕ → Type 0
AddressTold title (addresses.One single) read written last text =
    IsTold (title ++ said ": ") single.target (use_line read written) last text
AddressTold title (addresses.Two reading writing) read written last text =
    AreTold title reading.target writing.target read written last text

-- the lines on the address of a side: it is read and written where a direction is formed, and at the end stands how the
-- end of the other is passed on there
abbrev pub SideTold : Config → Side → List ℕ → Type 0
SideTold c side text =
    AddressTold (title_of side) (address c side) (formed c (way_from side)) (formed c (way_to side)) (ending_line c side) text

-- a relay: what holds for the whole, and each address, with an empty line between
pub record RelayTold (c : Config) (text : List ℕ) : Type 0 where
  pub settings : List ℕ
  pub left : List ℕ
  pub right : List ℕ
  pub told : text ≡ settings ++ newline ++ left ++ newline ++ right
  pub settings_told : SettingsTold c settings
  pub left_told : SideTold c Left left
  pub right_told : SideTold c Right right

-- what a report on a command tells; of a generated run its number
abbrev pub Tells : Command → List ℕ → Type 0
Tells (commands.Relay c) text = RelayTold c text
Tells commands.Usage text = text ≡ said "prints the usage on standard error, and opens nothing" ++ newline
Tells commands.Version text = text ≡ said "prints the version on standard error, and opens nothing" ++ newline
Tells (commands.Load number) text =
    text ≡ said "relays fifty sessions in memory, with bytes that the number " ++ decimal number ++ said " generates; opens nothing" ++ newline
