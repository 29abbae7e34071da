-- What a call adds to what passed a port.
use Rattle.std.specs.Prelude.{[], ◌∷◌, ◌++◌}
use Rattle.port_trait.specs.Passages.{Passage}
use Rattle.port_trait.specs.declared.call.PortCall.{PortCall}
use Rattle.port_trait.specs.declared.call.PortCall.TheVariants as calls

-- the bytes that were handed out or accepted, or the way of a shut, behind those of the calls before
abbrev pub passed_with : Passage → PortCall → Passage
passed_with before (calls.Gave bytes) = record before { gave = before.gave ++ bytes.now }
passed_with before (calls.Took bytes) = record before { took = before.took ++ bytes.now }
passed_with before (calls.Shut how) = record before { shuts = before.shuts ++ how ∷ [] }
