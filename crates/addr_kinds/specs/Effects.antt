-- What an option does to the options of its address.
use Rattle.std.specs.Prelude.{ℕ, Bool, true, false, min, List, Some}
use Rattle.relay_model.specs.declared.acts.Shut.TheVariants.{Nothing, Down, Close, Null}
use Rattle.relay_model.specs.declared.commands.Conv.TheVariants as conv
use Rattle.relay_model.specs.{Options, Target, default_options}
use Rattle.relay_model.specs.declared.commands.Target.TheVariants.{NamedPipe, UnixListen}
use Rattle.option_table.specs.{OptionId, Value}
use Rattle.option_table.specs.declared.rows.OptionId.TheVariants as id
use Rattle.option_table.specs.declared.values.Value.TheVariants as value
use Rattle.addr_kinds.specs.Targets.{counted}

-- a socket that is listened at leaves an entry behind, as does a named pipe
abbrev pub leaves_entry : Target → Bool
leaves_entry (NamedPipe name) = true
leaves_entry (UnixListen name) = true
leaves_entry other = false

-- the options of an address before any is read
abbrev pub first_options : Target → Options
first_options target = record default_options { entry = record default_options.entry { unlink_close = leaves_entry target } }

-- an option that is on or off. Of `cr` and `crnl`, and of the shut options, the last that is on holds; neither
-- `reuseaddr` nor `pipes` changes anything
unfoldable pub switched : OptionId → Bool → Options → Options
switched id.Cr true options = record options { conv = conv.Cr }
switched id.Crnl true options = record options { conv = conv.Crnl }
switched id.Ignoreeof on options = record options { input = record options.input { ignoreeof = on } }
switched id.NullEof on options = record options { input = record options.input { null_eof = on } }
switched id.ShutNone true options = record options { shut = Some Nothing }
switched id.ShutDown true options = record options { shut = Some Down }
switched id.ShutClose true options = record options { shut = Some Close }
switched id.ShutNull true options = record options { shut = Some Null }
switched id.Creat on options = record options { file = record options.file { creat = on } }
switched id.Excl on options = record options { file = record options.file { excl = on } }
switched id.Append on options = record options { file = record options.file { append = on } }
switched id.Trunc on options = record options { file = record options.file { trunc = on } }
switched id.Rdonly on options = record options { file = record options.file { rdonly = on } }
switched id.Wronly on options = record options { file = record options.file { wronly = on } }
switched id.UnlinkEarly on options = record options { entry = record options.entry { unlink_early = on } }
switched id.UnlinkClose on options = record options { entry = record options.entry { unlink_close = on } }
switched id.Nodelay on options = record options { socket = record options.socket { nodelay = on } }
switched id.Forever on options = record options { tries = record options.tries { forever = on } }
switched id.Fork on options = record options { sessions = record options.sessions { fork = on } }
switched id.Lowport on options = record options { admission = record options.admission { lowport = on } }
switched id on options = options

-- an option that is a number; the table of options keeps each in the range of its field
unfoldable pub numbered : OptionId → ℕ → Options → Options
numbered id.Readbytes n options = record options { input = record options.input { readbytes = Some n } }
numbered id.Escape n options = record options { input = record options.input { escape = Some (min n 255) } }
numbered id.Retry n options = record options { tries = record options.tries { retry = n } }
numbered id.MaxChildren n options = record options { sessions = record options.sessions { max_children = counted n } }
numbered id.StopAfter n options = record options { sessions = record options.sessions { stop_after = counted n } }
numbered id n options = options

-- an option that is a port
unfoldable pub ported : OptionId → ℕ → Options → Options
ported id.Sourceport port options = record options { admission = record options.admission { sourceport = Some port } }
ported id.Socksport port options = record options { proxy = record options.proxy { socksport = port } }
ported id.Proxyport port options = record options { proxy = record options.proxy { proxyport = port } }
ported id port options = options

-- what an option does with its value and the value's own text. `interval` is the one option that is a time,
-- `range` a range, `bind` an address and `socksuser` a text
unfoldable pub effect : OptionId → Value → List ℕ → Options → Options
effect id (value.Bool on) text options = switched id on options
effect id (value.Number n) text options = numbered id n options
effect id (value.Port port) text options = ported id port options
effect id (value.Time interval) text options = record options { tries = record options.tries { interval = interval } }
effect id (value.Range range) text options = record options { admission = record options.admission { range = Some range } }
effect id (value.Address bind) text options = record options { socket = record options.socket { bind = Some bind } }
effect id value.Text text options = record options { proxy = record options.proxy { socksuser = text } }
