-- What standard input gave and standard output took before their first byte.
use Rattle.std.proofs.Common.{◌≡◌, ℕ, true, List, [], ◌∷◌, Option, Some, IfSome, refl, ap, ◌∙◌, sym, subst}
use Rattle.standard_ports.specs.declared.direct.DirectPort.TheVariants as directs
use Rattle.standard_ports.specs.declared.input.InputPort.{InputPort}
use Rattle.standard_ports.specs.declared.input.InputPort.TheVariants as inputs
use Rattle.standard_ports.specs.declared.output.OutputPort.{OutputPort}
use Rattle.standard_ports.specs.declared.output.OutputPort.TheVariants as outputs
use Rattle.port_trait.specs.Ports.{PortSeen}
use Rattle.file_ports.specs.Halves.{HalvesState}
use Rattle.socket_ports.specs.Sockets.{SocketPortState}
use Rattle.ring_reader.specs.Readers.{given_of, reader_seen}
use Rattle.ring_writer.specs.Writers.{took_of, writer_seen}
use Rattle.standard_ports.specs.Told.{ToldState}
use Rattle.standard_ports.specs.Ports.{is_none, is_unread, is_unwritten, of_direct, of_input, of_output}

no_bytes : (bytes : List ℕ) → is_none bytes ≡ true → bytes ≡ []
no_bytes [] e = refl
no_bytes (b ∷ bytes) e = absurd cc

-- a port in the loop tells what passed it
abbrev TellsGave : (SocketPortState (ToldState HalvesState) → PortSeen) → Type 0
TellsGave seen = (port : SocketPortState (ToldState HalvesState)) → (seen port).gave ≡ Some port.socket.passed.gave

abbrev TellsTook : (SocketPortState (ToldState HalvesState) → PortSeen) → Type 0
TellsTook seen = (port : SocketPortState (ToldState HalvesState)) → (seen port).took ≡ Some port.socket.passed.took

-- what standard input tells that it gave
pub unread : {R : Type 0} (pipe shared : SocketPortState (ToldState HalvesState) → PortSeen) (port : InputPort R) → TellsGave pipe → TellsGave shared → is_unread port ≡ true → (of_input (of_direct pipe shared) reader_seen port).gave ≡ Some []
unread pipe shared (inputs.Direct (directs.Pipe port)) tells tells' e = tells port ∙ ap Some (no_bytes port.socket.passed.gave e)
unread pipe shared (inputs.Direct (directs.Shared port)) tells tells' e = tells' port ∙ ap Some (no_bytes port.socket.passed.gave e)
unread pipe shared (inputs.Ring ring) tells tells' e = ap Some (no_bytes (given_of ring) e)

-- what standard output tells that it took
pub unwritten : {R : Type 0} (pipe shared : SocketPortState (ToldState HalvesState) → PortSeen) (port : OutputPort R) → TellsTook pipe → TellsTook shared → is_unwritten port ≡ true → (of_output (of_direct pipe shared) writer_seen port).took ≡ Some []
unwritten pipe shared (outputs.Direct (directs.Pipe port)) tells tells' e = tells port ∙ ap Some (no_bytes port.socket.passed.took e)
unwritten pipe shared (outputs.Direct (directs.Shared port)) tells tells' e = tells' port ∙ ap Some (no_bytes port.socket.passed.took e)
unwritten pipe shared (outputs.Ring ring) tells tells' e = ap Some (no_bytes (took_of ring) e)

-- a list that is told to be empty is empty where it is told
pub none_told : (slot : Option (List ℕ)) → slot ≡ Some [] → IfSome slot (λ all. all ≡ [])
none_told slot e = subst (λ (told : Option (List ℕ)). IfSome told (λ all. all ≡ [])) (sym e) refl
