-- The command of the three words `-u STDIN STDOUT`, with every option at its default.
use Rattle.std.specs.Prelude.{ℕ, false, [], None}
use Rattle.relay_model.specs.declared.commands.Config.{Config}
use Rattle.relay_model.specs.declared.commands.Single.{Single}
use Rattle.relay_model.specs.declared.commands.Options.{Options}
use Rattle.relay_model.specs.declared.commands.FileFlags.{FileFlags}
use Rattle.relay_model.specs.declared.commands.Target.TheVariants.{Stdin, Stdout}
use Rattle.relay_model.specs.declared.commands.Target.{Target}
use Rattle.relay_model.specs.declared.commands.Address.TheVariants.{One}
use Rattle.relay_model.specs.declared.commands.Conv.TheVariants.{Plain}
use Rattle.relay_model.specs.declared.commands.Dump.TheVariants.{Off}
use Rattle.relay_model.specs.declared.commands.Ways.TheVariants.{OnlyRight}

-- a file without an option
abbrev pub no_flags : FileFlags
no_flags = record { creat = false; excl = false; append = false; trunc = false; rdonly = false; wronly = false }

-- every option at its default
abbrev pub default_options : Options
default_options = record {
  conv = Plain;
  shut = None;
  input = record { ignoreeof = false; readbytes = None; escape = None; null_eof = false };
  tries = record { retry = 0; forever = false; interval = 1000 };
  sessions = record { fork = false; max_children = 4294967295; stop_after = 4294967295 };
  admission = record { range = None; sourceport = None; lowport = false };
  socket = record { bind = None; nodelay = false };
  entry = record { unlink_early = false; unlink_close = false };
  file = no_flags;
  proxy = record { socksport = 1080; socksuser = []; proxyport = 8080 };
}

-- a standard stream with every option at its default
abbrev pub standard : Target → Single
standard target = record { target = target; options = default_options }

-- standard input is relayed to standard output, in blocks of this many bytes
abbrev pub plain_relay : ℕ → Config
plain_relay block = record {
  block = block;
  closing = 500;
  idle = 0;
  ways = OnlyRight;
  dump = Off;
  sloppy = false;
  left = One (standard Stdin);
  right = One (standard Stdout);
}
