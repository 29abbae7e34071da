-- How places stand after a call, and what was left of a port.
use Rattle.std.specs.Prelude.{◌≡◌, ◌≢◌, ◌⊎◌, ℕ, Bool, true, false, List, ◌∷◌, Option, None, Some, IfSome, MatchOption, position, ⊤}
use Rattle.std.specs.List.{remove}
use Rattle.slab.specs.Slab.{SameValues, Slab, Updates, get}
use Rattle.relay_model.specs.{Place, Act, Hold, hold_after, same_place, Why}
use Rattle.port_trait.specs.{join_answer, Begun, Making, MadePeer, Joining, PortReap, Shutting, Begins, PortSeen, JoinsSo, MovesNothing, Reaps}
use Rattle.port_trait.specs.{Settles}
use Rattle.port_trait.specs.declared.answers.Begun.TheVariants as begins
use Rattle.port_trait.specs.declared.answers.Settled.TheVariants as settles
use Rattle.port_trait.specs.declared.makers.Making.TheVariants as makings
use Rattle.port_trait.specs.declared.makers.MadePeer.TheVariants as peers
use Rattle.port_trait.specs.declared.answers.PortReap.TheVariants as reaps
use Rattle.port_trait.specs.declared.answers.Shutting.TheVariants as shuttings
use Rattle.world_trait.specs.{OpenAnswer, ReapAnswer, ShutAnswer, ListenAnswer, AcceptAnswer}
use Rattle.world_trait.specs.declared.answers.OpenAnswer.TheVariants as opens
use Rattle.world_trait.specs.declared.answers.ReapAnswer.TheVariants as reaped
use Rattle.world_trait.specs.declared.answers.ShutAnswer.TheVariants as shuts
use Rattle.world_trait.specs.declared.answers.ListenAnswer.TheVariants as listens
use Rattle.world_trait.specs.declared.answers.AcceptAnswer.TheVariants as accepts
use Rattle.port_table.specs.{EntrySeen, BeginsAt, Errors, Input, Made, MadeCall, Output, PortId, SameStreams, StreamCall, PortTable, Base}
use Rattle.port_table.specs.declared.bases.Base.TheVariants as bases
use Rattle.relay_model.specs.declared.acts.Why.TheVariants as whys

-- how places stand after the act of an answer
abbrev pub HeldAfter : Option Act → (Place → Hold) → (Place → Hold) → Type 0
HeldAfter None before after = (p : Place) → after p ≡ before p
HeldAfter (Some act) before after = (p : Place) → after p ≡ hold_after act p (before p)

-- the world's answer for that of a port
abbrev pub shut_answer : Shutting → ShutAnswer
shut_answer shuttings.Done = shuts.Done
shut_answer shuttings.Failed = shuts.Failed

-- the call on a port that stands behind the answer of a settling
abbrev pub SettlesSo : PortSeen → PortSeen → OpenAnswer → Type 0
SettlesSo before now opens.Opened = Settles before now settles.Ready
SettlesSo before now opens.Later = Settles before now settles.NotYet
SettlesSo before now opens.Failed = Settles before now settles.Failed
SettlesSo before now opens.Memory = now ≡ before

-- a port that has a child is kept before all that were kept earlier
abbrev pub KeptIf : Bool → EntrySeen → List EntrySeen → List EntrySeen → Type 0
KeptIf true last before after = after ≡ last ∷ before
KeptIf false last before after = after ≡ before

-- a made port whose settling failed, and its state after that, which is kept where it has a child
pub record SettledOut {T : Type 0} (tells : T → PortSeen) (old : EntrySeen) (parents parents' : List EntrySeen) : Type 0 where
  pub last : T
  pub call : Settles old.port (tells last) settles.Failed
  pub kept : KeptIf old.port.child (record { place = old.place; port = tells last }) parents parents'

-- what a settling did with the made port of the key; one that failed is gone
abbrev pub SettlesMade : {T : Type 0} → (T → PortSeen) → Slab EntrySeen → Slab EntrySeen → List EntrySeen → List EntrySeen → ℕ → OpenAnswer → Type 0
SettlesMade tells before now parents parents' key opens.Opened = MadeCall before now key (λ old new. Settles old new settles.Ready) × (parents' ≡ parents)
SettlesMade tells before now parents parents' key opens.Later = MadeCall before now key (λ old new. Settles old new settles.NotYet) × (parents' ≡ parents)
SettlesMade tells before now parents parents' key opens.Failed = IfSome (get before key) (λ old. SettledOut tells old parents parents') × (get now key ≡ None) × ((other : ℕ) → other ≢ key → get now other ≡ get before other)
SettlesMade tells before now parents parents' key opens.Memory = (now ≡ before) × (parents' ≡ parents)

-- the call on the giving port of a place that stands behind the answer of a settling, and what became of the made ports
-- and of those that were kept; every other port is as it was
abbrev pub SettledAt : {T X I O E : Type 0} → (T → PortSeen) → PortId → PortTable X I O E → PortTable X I O E → List EntrySeen → List EntrySeen → OpenAnswer → Type 0
SettledAt tells Input before now parents parents' answer = StreamCall before.input now.input (λ o n. SettlesSo o n answer) × (now.output ≡ before.output) × (now.errors ≡ before.errors) × (now.made ≡ before.made) × (parents' ≡ parents)
SettledAt tells Output before now parents parents' answer = (now.input ≡ before.input) × StreamCall before.output now.output (λ o n. SettlesSo o n answer) × (now.errors ≡ before.errors) × (now.made ≡ before.made) × (parents' ≡ parents)
SettledAt tells Errors before now parents parents' answer = (now.input ≡ before.input) × (now.output ≡ before.output) × StreamCall before.errors now.errors (λ o n. SettlesSo o n answer) × (now.made ≡ before.made) × (parents' ≡ parents)
SettledAt tells (Made key) before now parents parents' answer = (now.input ≡ before.input) × (now.output ≡ before.output) × (now.errors ≡ before.errors) × SettlesMade tells before.made now.made parents parents' key answer

-- one made port more, which the place stands on: it was given in this call, it was begun, and nothing else was done with it
pub record OneMore {T : Type 0} (gave : T → Type 0) (tells : T → PortSeen) (place : Place) (base : Option Base) (before now : Slab EntrySeen) : Type 0 where
  pub key : ℕ
  pub vacant : get before key ≡ None
  pub given : T
  pub gives : gave given
  pub port : PortSeen
  pub begun : Begins (tells given) port begins.Begun
  pub made : Updates before now key (Some (record { place = place; port = port }))
  pub based : base ≡ Some (bases.Made key)

-- the making of a port whose opening is under way or not
abbrev pub making_of : {T : Type 0} → Bool → T → Making T
making_of true port = makings.Later port
making_of false port = makings.Made port

-- the made ports after an opening that isn't one of standard streams
abbrev pub OpensMade : {T : Type 0} → (Making T → Type 0) → (T → PortSeen) → Place → Option Base → OpenAnswer → Slab EntrySeen → Slab EntrySeen → Type 0
OpensMade gave tells place base opens.Opened before now = OneMore (λ port. gave (makings.Made port)) tells place base before now
OpensMade gave tells place base opens.Later before now = OneMore (λ port. gave (makings.Later port)) tells place base before now
OpensMade gave tells place base opens.Failed before now = SameValues before now
OpensMade gave tells place base opens.Memory before now = SameValues before now

-- after a listening
abbrev pub ListensMade : {T : Type 0} → (Making T → Type 0) → (T → PortSeen) → Place → Option Base → ListenAnswer → Slab EntrySeen → Slab EntrySeen → Type 0
ListensMade gave tells door base listens.Listening before now = OneMore (λ port. gave (makings.Made port)) tells door base before now
ListensMade gave tells door base listens.Failed before now = SameValues before now
ListensMade gave tells door base listens.Memory before now = SameValues before now

-- after an accepting at the door of this key, which moves no bytes: each other port that was there is as it was, and
-- there is one more where a peer was accepted
abbrev pub AcceptsMade : {T : Type 0} → (MadePeer T → Type 0) → (T → PortSeen) → ℕ → Place → Option Base → AcceptAnswer → Slab EntrySeen → Slab EntrySeen → Type 0
AcceptsMade gave tells door place base (accepts.Accepted peer) before now = (between : Slab EntrySeen) × MadeCall before between door MovesNothing × OneMore (λ port. gave (peers.Came port peer)) tells place base between now
AcceptsMade gave tells door place base accepts.NoPeer before now = MadeCall before now door MovesNothing
AcceptsMade gave tells door place base accepts.Failed before now = MadeCall before now door MovesNothing
AcceptsMade gave tells door place base accepts.Memory before now = MadeCall before now door MovesNothing

-- the streams of the base were begun, standard input first, and no other; where there was no memory maybe none
abbrev pub OpensAt : {T I O E : Type 0} → Base → PortTable T I O E → PortTable T I O E → OpenAnswer → Type 0
OpensAt base before now opens.Opened = BeginsAt base before now begins.Begun
OpensAt base before now opens.Later = ⊥
OpensAt base before now opens.Failed = BeginsAt base before now begins.Failed
OpensAt base before now opens.Memory = BeginsAt base before now begins.Memory ⊎ SameStreams before now

-- the first port that was kept for the place is there no longer
abbrev pub DropsFirst : Place → List EntrySeen → List EntrySeen → Type 0
DropsFirst place before after = MatchOption (position (λ b. same_place b.place place) before) (after ≡ before) (λ i. after ≡ remove before i)

-- the same by the answer of a reaping
abbrev pub ReapsOut : Place → ReapAnswer → List EntrySeen → List EntrySeen → Type 0
ReapsOut place (reaped.Reaped end) before after = DropsFirst place before after
ReapsOut place reaped.NoChild before after = DropsFirst place before after
ReapsOut place reaped.Memory before after = after ≡ before

-- whether the session came to its end by itself
abbrev pub is_finished : Why → Bool
is_finished whys.Finished = true
is_finished why = false

-- the made port of a base; none where that is a standard stream
abbrev pub made_at : Slab EntrySeen → Base → Option EntrySeen
made_at made (bases.Made key) = get made key
made_at made bases.Input = None
made_at made bases.Output = None
made_at made bases.Both = None
made_at made bases.Errors = None

-- the port was joined, or nothing was done with it
abbrev pub LeftSo : Bool → PortSeen → PortSeen → Type 0
LeftSo true before last = JoinsSo before last (join_answer before.joins)
LeftSo false before last = last ≡ before

-- what the join of a port that is let go answered; none where it wasn't joined
abbrev pub joined_answer : Bool → Option EntrySeen → Option Joining
joined_answer joined None = None
joined_answer true (Some entry) = Some (join_answer entry.port.joins)
joined_answer false (Some entry) = None

-- a port that has a child is kept for its place, before all that were kept earlier
abbrev pub KeptFor : Bool → Bool → EntrySeen → List EntrySeen → List EntrySeen → Type 0
KeptFor true joined entry before after = (last : PortSeen) × LeftSo joined entry.port last × (after ≡ record { place = entry.place; port = last } ∷ before)
KeptFor false joined entry before after = after ≡ before

-- a port with a child stays, unless it was joined
abbrev pub LeavesParent : Bool → Option EntrySeen → List EntrySeen → List EntrySeen → Type 0
LeavesParent joined None before after = after ≡ before
LeavesParent joined (Some entry) before after = KeptFor entry.port.child joined entry before after

-- the reap of a port that was kept; without one there is no child
abbrev pub ReapsKept : Option EntrySeen → PortReap → Type 0
ReapsKept None answer = answer ≡ reaps.NoChild
ReapsKept (Some entry) answer = (last : PortSeen) × Reaps entry.port last answer

-- the same by the answer of a world
abbrev pub ReapsAnswered : Option EntrySeen → ReapAnswer → Type 0
ReapsAnswered kept (reaped.Reaped end) = ReapsKept kept (reaps.Reaped end)
ReapsAnswered kept reaped.NoChild = ReapsKept kept reaps.NoChild
ReapsAnswered kept reaped.Memory = ⊤
