-- What the answer of a desk says, from what the port did.
use Rattle.std.proofs.Common.{◌≡◌, ◌∙◌, ap, refl, subst, sym, ℕ, false, List, Option, None, Some, IfSome, MatchOption, option_map}
use Rattle.slab.specs.Slab.{get}
use Rattle.relay_model.specs.declared.places.Place.{Place}
use Rattle.relay_model.specs.declared.acts.Act.{Act}
use Rattle.relay_model.specs.declared.acts.Shut.{Shut}
use Rattle.relay_model.specs.declared.commands.Single.{Single}
use Rattle.relay_model.specs.Journals.{History}
use Rattle.world_trait.specs.Recordings.{with_asking}
use Rattle.port_trait.specs.declared.answers.Got.{Got}
use Rattle.port_trait.specs.declared.answers.Got.TheVariants as gots
use Rattle.port_trait.specs.declared.answers.Took.{Took}
use Rattle.port_trait.specs.declared.answers.Took.TheVariants as tooks
use Rattle.port_trait.specs.declared.answers.Shutting.{Shutting}
use Rattle.port_trait.specs.declared.answers.Shutting.TheVariants as shuttings
use Rattle.world_trait.specs.Answers.{Answered}
use Rattle.port_table.specs.declared.bases.Base.{Base}
use Rattle.port_desk.specs.Calls.{ReadsSo, WritesSo, SendsSo, ShutsSo}
use Rattle.port_table.specs.PortTables.{CalledAt, EndsAt, PortId, Input, Output, Errors, Made}
use Rattle.port_table.specs.declared.table.PortTable.{PortTable}
use Rattle.port_table.proofs.CalledLemmas.{called_map}
use Rattle.port_trait.specs.Ports.{PortSeen, Reads, Sends, Shuts, Writes}
use Rattle.port_table.specs.Ports.{EntrySeen}
use Rattle.port_trait.specs.Streams.{finishes}
use Rattle.world_trait.specs.Seen.{Seen}
use Rattle.world_trait.specs.declared.answers.OpenAnswer.TheVariants as opens
use Rattle.desk_places.specs.Changes.{HeldAfter, SettledAt, shut_answer}
use Rattle.port_desk.proofs.FollowSteps.{TellsAsking}
use Rattle.port_desk.specs.Desks.{shut_ends}
use Rattle.port_desk.specs.Records.{Tells, TellsCopy, read_answer, send_answer, write_answer}

pub reads_so : (got : Got) (into : List ℕ) (before now : PortSeen) → Reads before now into got → ReadsSo into (read_answer got) before now
reads_so (gots.Bytes n) into before now call = call
reads_so gots.Empty into before now call = call
reads_so gots.End into before now call = call
reads_so gots.NotYet into before now call = call
reads_so gots.Failed into before now call = call

pub writes_so : (took : Took) (bytes : List ℕ) (before now : PortSeen) → Writes before now bytes took → WritesSo bytes (write_answer took) before now
writes_so (tooks.Took n) bytes before now call = call
writes_so tooks.NotYet bytes before now call = call
writes_so tooks.Failed bytes before now call = call

pub sends_so : (took : Took) (bytes : List ℕ) (before now : PortSeen) → Sends before now bytes took → SendsSo bytes (send_answer took) before now
sends_so (tooks.Took n) bytes before now call = (n, call)
sends_so tooks.NotYet bytes before now call = call
sends_so tooks.Failed bytes before now call = call

-- a call at the id of a base, as the desk answers it
pub called_so : {T I O E : Type 0} (slot : Option Base) (id : Base → PortId) (before now : PortTable T I O E) (C D : PortSeen → PortSeen → Type 0) → ((o n : PortSeen) → C o n → D o n) → IfSome slot (λ base. CalledAt (id base) before now C) → IfSome slot (λ base. CalledAt (id base) before now D)
called_so None id before now C D f h = tt
called_so (Some base) id before now C D f h = called_map false (id base) before now C D f h

same_slot : (slot : Option EntrySeen) → IfSome slot (λ o. IfSome slot (λ n. (n.place ≡ o.place) × (n.port ≡ o.port)))
same_slot None = tt
same_slot (Some entry) = (refl, refl)

not_called_at : {T I O E : Type 0} (id : PortId) (table : PortTable T I O E) → CalledAt id table table (λ o n. n ≡ o)
not_called_at Input table = (record { call = refl; begun = refl; finished = refl }, refl, refl, refl)
not_called_at Output table = (refl, record { call = refl; begun = refl; finished = refl }, refl, refl)
not_called_at Errors table = (refl, refl, record { call = refl; begun = refl; finished = refl }, refl)
not_called_at (Made key) table = (refl, refl, refl, record { call = same_slot (get table.made key); stands = refl; others = λ other away. refl })

-- a desk without memory made no call
pub not_called : {T I O E : Type 0} (slot : Option Base) (id : Base → PortId) (table : PortTable T I O E) → IfSome slot (λ base. CalledAt (id base) table table (λ o n. n ≡ o))
not_called None id table = tt
not_called (Some base) id table = not_called_at (id base) table

-- a shut at the id of a base, as the desk answers it
pub shut_so : {T I O E : Type 0} (slot : Option Base) (id : Base → PortId) (before now : PortTable T I O E) (how : Shut) (answer : Shutting) → IfSome slot (λ base. EndsAt (finishes how) (id base) before now (λ o n. Shuts o n how answer)) → IfSome slot (λ base. EndsAt (shut_ends how (shut_answer answer)) (id base) before now (ShutsSo how (shut_answer answer)))
shut_so slot id before now how shuttings.Done h = h
shut_so slot id before now how shuttings.Failed h = h

unsettled_at : {T X I O E : Type 0} (tells : T → PortSeen) (id : PortId) (table : PortTable X I O E) (parents : List EntrySeen) → SettledAt tells id table table parents parents opens.Memory
unsettled_at tells Input table parents = (record { call = refl; begun = refl; finished = refl }, refl, refl, refl, refl)
unsettled_at tells Output table parents = (refl, record { call = refl; begun = refl; finished = refl }, refl, refl, refl)
unsettled_at tells Errors table parents = (refl, refl, record { call = refl; begun = refl; finished = refl }, refl, refl)
unsettled_at tells (Made key) table parents = (refl, refl, refl, (refl, refl))

-- a settling without memory made none
pub unsettled : {T X I O E : Type 0} (tells : T → PortSeen) (slot : Option Base) (id : Base → PortId) (table : PortTable X I O E) (parents : List EntrySeen) → IfSome slot (λ base. SettledAt tells (id base) table table parents parents opens.Memory)
unsettled tells None id table parents = tt
unsettled tells (Some base) id table parents = unsettled_at tells (id base) table parents

-- what a call did, from what was told and how places stand
pub answered : (act : Option Act) (old new : Seen) → Tells act old.told new.told → HeldAfter act old.held new.held → Answered old new act
answered None old new tells held = record { told = tells; held = held }
answered (Some act) old new tells held = record { told = tells; held = held }

-- what was asked is told by its copy, which there is where acts are
pub asked_by : (place : Place) (single : Single) (copy : Option Single) (act : Option Act) (told told' : Option History) → MatchOption copy (told ≡ None) (λ kept. kept ≡ single) → TellsCopy place copy act told told' → TellsAsking (place, single) act told told'
asked_by place single None None told told' is tells = tells
asked_by place single (Some kept) None told told' is tells = tells
asked_by place single None (Some act) told told' is tells = tells ∙ is ∙ sym (ap (option_map (with_asking act (place, single))) is)
asked_by place single (Some kept) (Some act) told told' is tells = subst (λ asked. told' ≡ option_map (with_asking act (place, asked)) told) is tells
