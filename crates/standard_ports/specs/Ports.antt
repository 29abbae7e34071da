-- What contracts see of a standard port: what they see of the port that it is.
use Rattle.std.specs.Prelude.{ℕ, Bool, true, false, List, [], ◌∷◌, None}
use Rattle.standard_ports.specs.declared.direct.DirectPort.{DirectPort}
use Rattle.standard_ports.specs.declared.direct.DirectPort.TheVariants as directs
use Rattle.standard_ports.specs.declared.input.InputPort.{InputPort}
use Rattle.standard_ports.specs.declared.input.InputPort.TheVariants as inputs
use Rattle.standard_ports.specs.declared.output.OutputPort.{OutputPort}
use Rattle.standard_ports.specs.declared.output.OutputPort.TheVariants as outputs
use Rattle.file_ports.specs.{HalvesState}
use Rattle.ring_reader.specs.{ReaderState, given_of}
use Rattle.ring_writer.specs.{WriterState, took_of}
use Rattle.socket_ports.specs.{SocketPortState}
use Rattle.port_trait.specs.{all_hints, Passage, PortSeen}
use Rattle.standard_ports.specs.Told.{ToldState}

-- a pipe hints by its watch, and not as the port beneath: what that tells of its hints is left out
abbrev pub pipe_seen : {P : Type 0} → (P → PortSeen) → P → PortSeen
pipe_seen seen pipe =
    let beneath = seen pipe in
    record beneath { hints = None; hinting = all_hints }

-- what a port in the loop tells
abbrev pub of_direct : {T : Type 0} → (SocketPortState (ToldState HalvesState) → T) → (SocketPortState (ToldState HalvesState) → T) → DirectPort → T
of_direct pipe shared (directs.Pipe port) = pipe port
of_direct pipe shared (directs.Shared port) = shared port

-- what standard input tells
abbrev pub of_input : {R : Type 0} → {T : Type 0} → (DirectPort → T) → (ReaderState → T) → InputPort R → T
of_input direct ring (inputs.Direct port) = direct port
of_input direct ring (inputs.Ring port) = ring port

-- what standard output tells
abbrev pub of_output : {R : Type 0} → {T : Type 0} → (DirectPort → T) → (WriterState → T) → OutputPort R → T
of_output direct ring (outputs.Direct port) = direct port
of_output direct ring (outputs.Ring port) = ring port

-- there are no bytes
abbrev pub is_none : List ℕ → Bool
is_none [] = true
is_none (b ∷ bytes) = false

-- what passed a port in the loop
abbrev pub direct_passed : DirectPort → Passage
direct_passed (directs.Pipe port) = port.socket.passed
direct_passed (directs.Shared port) = port.socket.passed

-- standard input has given no bytes
abbrev pub is_unread : {R : Type 0} → InputPort R → Bool
is_unread (inputs.Direct port) = is_none (direct_passed port).gave
is_unread (inputs.Ring ring) = is_none (given_of ring)

-- standard output has taken no bytes
abbrev pub is_unwritten : {R : Type 0} → OutputPort R → Bool
is_unwritten (outputs.Direct port) = is_none (direct_passed port).took
is_unwritten (outputs.Ring ring) = is_none (took_of ring)
