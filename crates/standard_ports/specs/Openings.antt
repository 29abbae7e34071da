-- What the ports are that stand in the loop.
use Rattle.std.specs.Prelude.{◌≡◌, Bool, true, false}
use Rattle.file_ports.specs.{HalvesState}
use Rattle.file_ports.specs.declared.halves.HalfReadiness.TheVariants as readiness
use Rattle.socket_ports.specs.{SocketPortState, IsFreshPort}
use Rattle.standard_ports.specs.Told.{ToldState}
use Rattle.standard_ports.specs.declared.direct.DirectPort.{DirectPort}
use Rattle.standard_ports.specs.declared.direct.DirectPort.TheVariants as directs

-- a fresh port of which so much is there
pub record Serves (reading writing : Bool) (port : SocketPortState (ToldState HalvesState)) : Type 0 where
  pub fresh : IsFreshPort port
  pub reads : port.socket.socket.reads ≡ reading
  pub writes : port.socket.socket.writes ≡ writing

-- the same; the descriptor itself is always ready
abbrev pub IsDirect : Bool → Bool → DirectPort → Type 0
IsDirect reading writing (directs.Pipe port) = Serves reading writing port
IsDirect reading writing (directs.Shared port) = Serves reading writing port × (port.socket.socket.readiness ≡ readiness.Always)

-- it is read and not written
abbrev pub IsInput : DirectPort → Type 0
IsInput port = IsDirect true false port

-- it is written and not read
abbrev pub IsOutput : DirectPort → Type 0
IsOutput port = IsDirect false true port
