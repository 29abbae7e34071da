-- The command of a generated run: `TCP-LISTEN:1,fork,stop-after=50,max-children=8 TCP:localhost:2`.
use Rattle.std.specs.Prelude.{ℕ, true, false, codes}
use Rattle.relay_model.specs.{Config, default_options}
use Rattle.relay_model.specs.declared.commands.Family.TheVariants.{Any}
use Rattle.relay_model.specs.declared.commands.Target.TheVariants.{Tcp, TcpListen}
use Rattle.relay_model.specs.declared.commands.Address.TheVariants.{One}
use Rattle.relay_model.specs.declared.commands.Dump.TheVariants.{Off}
use Rattle.relay_model.specs.declared.commands.Ways.TheVariants as ways

-- fifty peers are served, eight at a time, each by a connection of its own
abbrev pub load_command : Config
load_command = record {
  block = 8192;
  closing = 500;
  idle = 0;
  ways = ways.Two;
  dump = Off;
  sloppy = false;
  left = One (record { target = TcpListen Any 1; options = record default_options { sessions = record { fork = true; max_children = 8; stop_after = 50 } } });
  right = One (record { target = Tcp Any (codes "localhost") 2; options = default_options });
}

-- how many waits a generated run may make
abbrev pub load_turns : ℕ
load_turns = 1000000
