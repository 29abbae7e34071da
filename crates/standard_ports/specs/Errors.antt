-- What contracts see of standard error.
use Rattle.std.specs.Prelude.{true, false, [], Option, Some}
use Rattle.std.specs.declared.io.Stderr.{Stderr}
use denote.Param.Members.{Mut}
use Rattle.blocking_streams.specs.declared.streams.Blocking.{Blocking}
use Rattle.file_ports.specs.{HalvesState}
use Rattle.file_ports.specs.declared.halves.HalfReadiness.TheVariants as readiness
use Rattle.port_trait.specs.{PortSeen, untold}
use Rattle.port_trait.specs.Serving.{Serving}
use Rattle.port_trait.specs.declared.streams.StdSink.{StdSink}
use Rattle.ring_writer.specs.{WriterState}
use Rattle.ring_writer.specs.declared.fresh_writer.FreshWriter.{FreshWriter}
use Rattle.socket_ports.specs.Sockets.{SocketPortState, fresh_port}
use Rattle.standard_ports.specs.Told.{ToldState, fresh_told}
use Rattle.standard_ports.specs.declared.error_rings.ErrorParts.{ErrorParts}
use Rattle.standard_ports.specs.declared.errors.ErrorPort.{ErrorPort}
use Rattle.standard_ports.specs.declared.errors.ErrorPort.TheVariants as errors

-- it is written, and its faults are those of the descriptor
abbrev pub only_written : Serving
only_written = record { reads = false; writes = true; misuses = 0 }

-- nothing was asked of it yet
abbrev pub unsaid : PortSeen
unsaid = record untold { took = Some []; shuts = Some []; served = Some only_written }

-- the descriptor itself tells what a ring tells, but nothing of what is behind
abbrev pub plain_seen : {P : Type 0} → (P → PortSeen) → P → PortSeen
plain_seen seen port =
    let beneath = seen port in
    record untold { took = beneath.took; shuts = beneath.shuts; served = Some only_written; counts = beneath.counts; begun = beneath.begun; ended = beneath.ended }

-- the descriptor itself before its first byte
abbrev pub fresh_plain : SocketPortState (ToldState HalvesState)
fresh_plain = fresh_port (fresh_told (record { reads = false; writes = true; readiness = readiness.Always }))

-- what makes its ring: a function of the parts
abbrev Maker : Type 0 → Type 1
Maker X = Mut X (ErrorParts × Unit {0}) (Option (FreshWriter (StdSink (Blocking Stderr))))

-- what standard error tells in each state
abbrev pub of_errors : {R X : Type 0} → {maker : Maker X} → (SocketPortState (ToldState HalvesState) → PortSeen) → (WriterState → PortSeen) → ErrorPort R X maker → PortSeen
of_errors plain ring (errors.Unasked start) = unsaid
of_errors plain ring (errors.Ring port) = ring port
of_errors plain ring (errors.Plain port) = plain port
