-- What a call on one port of a table says of each of its ports.
use Rattle.std.proofs.Common.{◌≡◌, Bool, Option, None, Some, IfSome}
use Rattle.slab.specs.Slab.{get}
use Rattle.port_trait.specs.Ports.{PortSeen}
use Rattle.port_table.specs.Ports.{EntrySeen, StreamSeen}
use Rattle.port_table.specs.PortTables.{AtErrors, AtInput, AtMade, AtOutput, EndsAt, Errors, Input, Made, MadeCall, Output, PortId, StreamEnds}
use Rattle.port_table.specs.declared.table.PortTable.{PortTable}

pub called_input : {T I O E : Type 0} (ends : Bool) (id : PortId) (before now : PortTable T I O E) (Call : PortSeen → PortSeen → Type 0) → EndsAt ends id before now Call → AtInput id (Call before.input.port now.input.port) (now.input ≡ before.input)
called_input ends Input before now Call at = at.0.call
called_input ends Output before now Call at = at.0
called_input ends Errors before now Call at = at.0
called_input ends (Made key) before now Call at = at.0

pub called_output : {T I O E : Type 0} (ends : Bool) (id : PortId) (before now : PortTable T I O E) (Call : PortSeen → PortSeen → Type 0) → EndsAt ends id before now Call → AtOutput id (Call before.output.port now.output.port) (now.output ≡ before.output)
called_output ends Input before now Call at = at.1
called_output ends Output before now Call at = at.1.call
called_output ends Errors before now Call at = at.1
called_output ends (Made key) before now Call at = at.1

pub called_errors : {T I O E : Type 0} (ends : Bool) (id : PortId) (before now : PortTable T I O E) (Call : PortSeen → PortSeen → Type 0) → EndsAt ends id before now Call → AtErrors id (Call before.errors.port now.errors.port) (now.errors ≡ before.errors)
called_errors ends Input before now Call at = at.2
called_errors ends Output before now Call at = at.2
called_errors ends Errors before now Call at = at.2.call
called_errors ends (Made key) before now Call at = at.2

pub called_made : {T I O E : Type 0} (ends : Bool) (id : PortId) (before now : PortTable T I O E) (Call : PortSeen → PortSeen → Type 0) → EndsAt ends id before now Call → AtMade id (λ key. MadeCall before.made now.made key Call) (now.made ≡ before.made)
called_made ends Input before now Call at = at.3
called_made ends Output before now Call at = at.3
called_made ends Errors before now Call at = at.3
called_made ends (Made key) before now Call at = at.3

call_slot : (old new : Option EntrySeen) (C D : PortSeen → PortSeen → Type 0) → ((o n : PortSeen) → C o n → D o n) → IfSome old (λ o. IfSome new (λ n. (n.place ≡ o.place) × C o.port n.port)) → IfSome old (λ o. IfSome new (λ n. (n.place ≡ o.place) × D o.port n.port))
call_slot None new C D f h = tt
call_slot (Some o) None C D f h = tt
call_slot (Some o) (Some n) C D f h = (h.0, f o.port n.port h.1)

stream_call : (ends : Bool) (before now : StreamSeen) (C D : PortSeen → PortSeen → Type 0) → ((o n : PortSeen) → C o n → D o n) → StreamEnds ends before now C → StreamEnds ends before now D
stream_call ends before now C D f h = record { call = f before.port now.port h.call; begun = h.begun; finished = h.finished }

-- what each such call is, a call at a id is
pub called_map : {T I O E : Type 0} (ends : Bool) (id : PortId) (before now : PortTable T I O E) (C D : PortSeen → PortSeen → Type 0) → ((o n : PortSeen) → C o n → D o n) → EndsAt ends id before now C → EndsAt ends id before now D
called_map ends Input before now C D f at = (stream_call ends before.input now.input C D f at.0, at.1, at.2, at.3)
called_map ends Output before now C D f at = (at.0, stream_call ends before.output now.output C D f at.1, at.2, at.3)
called_map ends Errors before now C D f at = (at.0, at.1, stream_call ends before.errors now.errors C D f at.2, at.3)
called_map ends (Made key) before now C D f at = (at.0, at.1, at.2, record { call = call_slot (get before.made key) (get now.made key) C D f at.3.call; stands = at.3.stands; others = at.3.others })
