-- What an opening of standard streams begins, after the room for it was made.
use Rattle.std.proofs.Common.{◌≡◌, ◌∙◌, ◌⊎◌, inl, inr, subst, Option, None, Some, IfSome, MatchOption}
use Rattle.relay_model.specs.declared.places.Place.{Place}
use Rattle.port_trait.specs.declared.answers.Begun.{Begun}
use Rattle.port_trait.specs.declared.answers.Begun.TheVariants as begins
use Rattle.world_trait.specs.declared.answers.OpenAnswer.{OpenAnswer}
use Rattle.world_trait.specs.declared.answers.OpenAnswer.TheVariants as opens
use Rattle.world_trait.specs.declared.answers.AcceptAnswer.{AcceptAnswer}
use Rattle.slab.specs.Slab.{SameValues, Slab}
use Rattle.port_table.specs.PortTables.{AtMade, BeginsAt, Errors, Input, Made, MadeCall, Output, PortId, SameStreams, ThenBegins, giving_port}
use Rattle.port_trait.specs.declared.makers.Making.{Making}
use Rattle.port_trait.specs.declared.makers.MadePeer.{MadePeer}
use Rattle.port_trait.specs.Ports.{MovesNothing, PortSeen}
use Rattle.port_table.specs.Ports.{EntrySeen, StreamBegins, StreamSeen}
use Rattle.port_table.specs.declared.bases.Base.{Base}
use Rattle.port_table.specs.declared.bases.Base.TheVariants as bases
use Rattle.port_table.specs.declared.table.PortTable.{PortTable}
use Rattle.desk_places.specs.Changes.{AcceptsMade, OpensAt, OpensMade}
use Rattle.desk_places.proofs.MadeLemmas.{no_call, then_accepts, then_opens}

begun_from : (a b c : StreamSeen) (answer : Begun) → b ≡ a → StreamBegins b c answer → StreamBegins a c answer
begun_from a b c answer same begun = subst (λ (s : StreamSeen). StreamBegins s c answer) same begun

then_from : (first : Begun) (a b c : StreamSeen) (answer : Begun) → b ≡ a → ThenBegins first b c answer → ThenBegins first a c answer
then_from first a b c answer same begun = subst (λ (s : StreamSeen). ThenBegins first s c answer) same begun

begins_from : {T I O E : Type 0} (base : Base) (a b c : PortTable T I O E) (answer : Begun) → SameStreams a b → BeginsAt base b c answer → BeginsAt base a c answer
begins_from bases.Input a b c answer same h = (begun_from a.input b.input c.input answer same.input h.0, h.1 ∙ same.output, h.2 ∙ same.errors)
begins_from bases.Output a b c answer same h = (h.0 ∙ same.input, begun_from a.output b.output c.output answer same.output h.1, h.2 ∙ same.errors)
begins_from bases.Both a b c answer same h =
    (record { first = h.0.first; begins = begun_from a.input b.input c.input h.0.first same.input h.0.begins; then = then_from h.0.first a.output b.output c.output answer same.output h.0.then }, h.1 ∙ same.errors)
begins_from bases.Errors a b c answer same h = (h.0 ∙ same.input, h.1 ∙ same.output, begun_from a.errors b.errors c.errors answer same.errors h.2)
begins_from (bases.Made key) a b c answer same h = (begun_from a.input b.input c.input answer same.input h.0, h.1 ∙ same.output, h.2 ∙ same.errors)

pub still_streams : {T I O E : Type 0} (a b c : PortTable T I O E) → SameStreams a b → SameStreams b c → SameStreams a c
still_streams a b c same also = record { input = also.input ∙ same.input; output = also.output ∙ same.output; errors = also.errors ∙ same.errors }

memory_from : {T I O E : Type 0} (base : Base) (a b c : PortTable T I O E) → SameStreams a b → BeginsAt base b c begins.Memory ⊎ SameStreams b c → BeginsAt base a c begins.Memory ⊎ SameStreams a c
memory_from base a b c same (inl h) = inl (begins_from base a b c begins.Memory same h)
memory_from base a b c same (inr h) = inr (still_streams a b c same h)

-- an opening, after its room was made
opens_from : {T I O E : Type 0} (answer : OpenAnswer) (base : Base) (a b c : PortTable T I O E) → SameStreams a b → OpensAt base b c answer → OpensAt base a c answer
opens_from opens.Opened base a b c same h = begins_from base a b c begins.Begun same h
opens_from opens.Later base a b c same h = absurd h
opens_from opens.Failed base a b c same h = begins_from base a b c begins.Failed same h
opens_from opens.Memory base a b c same h = memory_from base a b c same h

pub opened_from : {T I O E : Type 0} (slot : Option Base) (answer : OpenAnswer) (a b c : PortTable T I O E) → SameStreams a b → IfSome slot (λ base. OpensAt base b c answer) → IfSome slot (λ base. OpensAt base a c answer)
opened_from None answer a b c same h = tt
opened_from (Some base) answer a b c same h = opens_from answer base a b c same h

pub unopened : {T I O E : Type 0} (slot : Option Base) (a c : PortTable T I O E) → SameStreams a c → IfSome slot (λ base. OpensAt base a c opens.Memory)
unopened None a c same = tt
unopened (Some base) a c same = inr same

-- the made ports of an opening, after its room was made
pub ports_from : {T : Type 0} (gave : Making T → Type 0) (tells : T → PortSeen) (slot : Option Base) (answer : OpenAnswer) (place : Place) (base : Option Base) (a b c : Slab EntrySeen) → SameValues a b → MatchOption slot (OpensMade gave tells place base answer b c) (λ _. SameValues b c) → MatchOption slot (OpensMade gave tells place base answer a c) (λ _. SameValues a c)
ports_from gave tells None answer place base a b c same h = then_opens gave tells answer place base a b c same h
ports_from gave tells (Some on) answer place base a b c same h = λ key. h key ∙ same key

pub no_ports : (slot : Option Base) (a c : Slab EntrySeen) → SameValues a c → MatchOption slot (SameValues a c) (λ _. SameValues a c)
no_ports None a c same = same
no_ports (Some on) a c same = same

door_from : {T : Type 0} (gave : MadePeer T → Type 0) (tells : T → PortSeen) (id : PortId) (answer : AcceptAnswer) (place : Place) (base : Option Base) (a b c : Slab EntrySeen) → SameValues a b → AtMade id (λ key. AcceptsMade gave tells key place base answer b c) (SameValues b c) → AtMade id (λ key. AcceptsMade gave tells key place base answer a c) (SameValues a c)
door_from gave tells Input answer place base a b c same h = λ key. h key ∙ same key
door_from gave tells Output answer place base a b c same h = λ key. h key ∙ same key
door_from gave tells Errors answer place base a b c same h = λ key. h key ∙ same key
door_from gave tells (Made key) answer place base a b c same h = then_accepts gave tells answer key place base a b c same h

-- the same of an accepting
pub doors_from : {T : Type 0} (gave : MadePeer T → Type 0) (tells : T → PortSeen) (slot : Option Base) (answer : AcceptAnswer) (place : Place) (base : Option Base) (a b c : Slab EntrySeen) → SameValues a b → IfSome slot (λ door. AtMade (giving_port door) (λ key. AcceptsMade gave tells key place base answer b c) (SameValues b c)) → IfSome slot (λ door. AtMade (giving_port door) (λ key. AcceptsMade gave tells key place base answer a c) (SameValues a c))
doors_from gave tells None answer place base a b c same h = tt
doors_from gave tells (Some door) answer place base a b c same h = door_from gave tells (giving_port door) answer place base a b c same h

no_door : (id : PortId) (a c : Slab EntrySeen) → SameValues a c → AtMade id (λ key. MadeCall a c key MovesNothing) (SameValues a c)
no_door Input a c same = same
no_door Output a c same = same
no_door Errors a c same = same
no_door (Made key) a c same = no_call a c key same

pub no_doors : (slot : Option Base) (a c : Slab EntrySeen) → SameValues a c → IfSome slot (λ door. AtMade (giving_port door) (λ key. MadeCall a c key MovesNothing) (SameValues a c))
no_doors None a c same = tt
no_doors (Some door) a c same = no_door (giving_port door) a c same
