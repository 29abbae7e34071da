-- What the made ports are after a call, from what they were between its steps.
use Rattle.std.proofs.Common.{◌≡◌, ◌∙◌, ap, sym, subst, refl, ℕ, false, Option, None, Some, IfSome, is_some}
use Rattle.slab.specs.Slab.{SameValues, Slab, get}
use Rattle.relay_model.specs.declared.places.Place.{Place}
use Rattle.port_table.specs.PortTables.{AtMade, MadeCall, giving_port}
use Rattle.port_trait.specs.Ports.{MovesNothing, PortSeen}
use Rattle.port_table.specs.Ports.{EntrySeen}
use Rattle.port_table.specs.declared.bases.Base.{Base}
use Rattle.port_table.specs.declared.bases.Base.TheVariants as bases
use Rattle.world_trait.specs.declared.answers.OpenAnswer.{OpenAnswer}
use Rattle.world_trait.specs.declared.answers.OpenAnswer.TheVariants as opens
use Rattle.world_trait.specs.declared.answers.ListenAnswer.{ListenAnswer}
use Rattle.world_trait.specs.declared.answers.ListenAnswer.TheVariants as listens
use Rattle.world_trait.specs.declared.answers.AcceptAnswer.{AcceptAnswer}
use Rattle.world_trait.specs.declared.answers.AcceptAnswer.TheVariants as accepts
use Rattle.relay_model.specs.declared.acts.Peer.{Peer}
use Rattle.port_trait.specs.declared.makers.Making.{Making}
use Rattle.port_trait.specs.declared.makers.MadePeer.{MadePeer}
use Rattle.port_trait.specs.declared.makers.MadePeer.TheVariants as peers
use Rattle.port_trait.specs.declared.makers.Making.TheVariants as makings
use Rattle.desk_places.specs.Changes.{AcceptsMade, ListensMade, OneMore, OpensMade, making_of}

-- a fact of the key of a base that is a made port
pub at_made : (base : Base) (key : ℕ) (Here : ℕ → Type 0) (Elsewhere : Type 0) → base ≡ bases.Made key → Here key → AtMade (giving_port base) Here Elsewhere
at_made base key Here Elsewhere is here = subst (λ b. AtMade (giving_port b) Here Elsewhere) (sym is) here

-- a call on a made port, and then nothing
pub call_then : (made mid made' : Slab EntrySeen) (key : ℕ) (Call : PortSeen → PortSeen → Type 0) → MadeCall made mid key Call → SameValues mid made' → MadeCall made made' key Call
call_then made mid made' key Call call same = record {
  call = subst (λ (slot : Option EntrySeen). IfSome (get made key) (λ o. IfSome slot (λ n. (n.place ≡ o.place) × Call o.port n.port))) (sym (same key)) call.call;
  stands = ap is_some (same key) ∙ call.stands;
  others = λ other away. same other ∙ call.others other away;
}

-- nothing, and then a call on a made port
pub then_call : (made mid made' : Slab EntrySeen) (key : ℕ) (Call : PortSeen → PortSeen → Type 0) → SameValues made mid → MadeCall mid made' key Call → MadeCall made made' key Call
then_call made mid made' key Call same call = record {
  call = subst (λ (slot : Option EntrySeen). IfSome slot (λ o. IfSome (get made' key) (λ n. (n.place ≡ o.place) × Call o.port n.port))) (same key) call.call;
  stands = call.stands ∙ ap is_some (same key);
  others = λ other away. call.others other away ∙ same other;
}

still_port : (port : PortSeen) → MovesNothing port port
still_port port = record { gave = refl; took = refl; unshut = refl }

still_slot : (slot : Option EntrySeen) → IfSome slot (λ o. IfSome slot (λ n. (n.place ≡ o.place) × MovesNothing o.port n.port))
still_slot None = tt
still_slot (Some entry) = (refl, still_port entry.port)

still_call : (made : Slab EntrySeen) (key : ℕ) → MadeCall made made key MovesNothing
still_call made key = record { call = still_slot (get made key); stands = refl; others = λ other away. refl }

-- a door that let nobody in
pub no_call : (made made' : Slab EntrySeen) (key : ℕ) → SameValues made made' → MadeCall made made' key MovesNothing
no_call made made' key same = call_then made made made' key MovesNothing (still_call made key) same

-- one port more, after nothing
pub then_more : {T : Type 0} (gave : T → Type 0) (tells : T → PortSeen) (place : Place) (base : Option Base) (made mid made' : Slab EntrySeen) → SameValues made mid → OneMore gave tells place base mid made' → OneMore gave tells place base made made'
then_more gave tells place base made mid made' same more = record {
  key = more.key;
  vacant = sym (same more.key) ∙ more.vacant;
  given = more.given;
  gives = more.gives;
  port = more.port;
  begun = more.begun;
  made = record { changed = more.made.changed; others = λ other away. more.made.others other away ∙ same other };
  based = more.based;
}

-- the same where the place still stands on it
pub more_based : {T : Type 0} (gave : T → Type 0) (tells : T → PortSeen) (place : Place) (base base' : Option Base) (made made' : Slab EntrySeen) → base' ≡ base → OneMore gave tells place base made made' → OneMore gave tells place base' made made'
more_based gave tells place base base' made made' same more = subst (λ b. OneMore gave tells place b made made') (sym same) more

-- the same by what the maker gave
pub more_as : {T : Type 0} (gave gave' : T → Type 0) (tells : T → PortSeen) (place : Place) (base : Option Base) (made made' : Slab EntrySeen) → ((port : T) → gave port → gave' port) → OneMore gave tells place base made made' → OneMore gave' tells place base made made'
more_as gave gave' tells place base made made' turn more = record {
  key = more.key;
  vacant = more.vacant;
  given = more.given;
  gives = turn more.given more.gives;
  port = more.port;
  begun = more.begun;
  made = more.made;
  based = more.based;
}

-- a port that was taken in for a peer is the one that came with it
pub accepts_given : {T : Type 0} (gave : MadePeer T → Type 0) (tells : T → PortSeen) (port : T) (peer : Peer) (place : Place) (base : Option Base) (made made' : Slab EntrySeen) → gave (peers.Came port peer) → OneMore (λ p. makings.Made p ≡ making_of false port) tells place base made made' → OneMore (λ p. gave (peers.Came p peer)) tells place base made made'
accepts_given gave tells port peer place base made made' given more =
    more_as _ _ tells place base made made' (λ p same. let is : p ≡ port = cc in subst (λ q. gave (peers.Came q peer)) (sym is) given) more

-- the same after the room was made
pub then_opens : {T : Type 0} (gave : Making T → Type 0) (tells : T → PortSeen) (answer : OpenAnswer) (place : Place) (base : Option Base) (made mid made' : Slab EntrySeen) → SameValues made mid → OpensMade gave tells place base answer mid made' → OpensMade gave tells place base answer made made'
then_opens gave tells opens.Opened place base made mid made' same more = then_more _ tells place base made mid made' same more
then_opens gave tells opens.Later place base made mid made' same more = then_more _ tells place base made mid made' same more
then_opens gave tells opens.Failed place base made mid made' same more = λ key. more key ∙ same key
then_opens gave tells opens.Memory place base made mid made' same more = λ key. more key ∙ same key

pub then_listens : {T : Type 0} (gave : Making T → Type 0) (tells : T → PortSeen) (answer : ListenAnswer) (door : Place) (base : Option Base) (made mid made' : Slab EntrySeen) → SameValues made mid → ListensMade gave tells door base answer mid made' → ListensMade gave tells door base answer made made'
then_listens gave tells listens.Listening door base made mid made' same more = then_more _ tells door base made mid made' same more
then_listens gave tells listens.Failed door base made mid made' same more = λ key. more key ∙ same key
then_listens gave tells listens.Memory door base made mid made' same more = λ key. more key ∙ same key

pub then_accepts : {T : Type 0} (gave : MadePeer T → Type 0) (tells : T → PortSeen) (answer : AcceptAnswer) (door : ℕ) (place : Place) (base : Option Base) (made mid made' : Slab EntrySeen) → SameValues made mid → AcceptsMade gave tells door place base answer mid made' → AcceptsMade gave tells door place base answer made made'
then_accepts gave tells (accepts.Accepted peer) door place base made mid made' same accepted = (accepted.0, then_call made mid accepted.0 door MovesNothing same accepted.1, accepted.2)
then_accepts gave tells accepts.NoPeer door place base made mid made' same call = then_call made mid made' door MovesNothing same call
then_accepts gave tells accepts.Failed door place base made mid made' same call = then_call made mid made' door MovesNothing same call
then_accepts gave tells accepts.Memory door place base made mid made' same call = then_call made mid made' door MovesNothing same call
