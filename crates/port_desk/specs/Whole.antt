-- Facts of a whole desk, before a call and after it.
use Rattle.std.specs.Prelude.{◌≡◌, ℕ, Bool, List, Option, ⊤}
use Rattle.relay_model.specs.{Act, ReadyAt}
use Rattle.relay_model.specs.Journals.{Asking}
use Rattle.world_trait.specs.{Answered, AnsweredAsking, Rose, Turned, Waitless}
use Rattle.world_trait.specs.Seen.{Seen}
use Rattle.world_trait.specs.declared.answers.Turned.TheVariants as turns
use Rattle.port_trait.specs.{Polled}
use Rattle.port_trait.specs.declared.makers.Maker as maker
use Rattle.port_trait.specs.declared.pollers.Poller as poller
use Rattle.port_trait.specs.declared.ports.Port as port
use Rattle.desk_places.specs.{told_by}
use Rattle.port_desk.specs.Desks.{KeepsPorts, PollsSo, seen_of}
use Rattle.port_desk.specs.Keeping.{SameLog}
use Rattle.port_desk.specs.Records.{CountsOnce}
use Rattle.port_desk.specs.declared.beginnings.Beginning as beginning
use Rattle.port_desk.specs.declared.desk.Desk.{Desk}

module _ {M P I O E B T : Type 0} {makes : maker.Ghosts M T} {made : port.Ghosts T} {polls : poller.Ghosts P} {input : port.Ghosts I} {output : port.Ghosts O} {errors : port.Ghosts E} {since : beginning.Ghosts B} (before : Desk M P I O E B T makes made polls input output errors since) where
  -- nothing has changed but since when the desk is followed
  abbrev pub SameDesk : {C : Type 0} {anew : beginning.Ghosts C} → Desk M P I O E C T makes made polls input output errors anew → Type 0
  SameDesk now = (now.ports ≡ before.ports) × (now.poller ≡ before.poller) × (now.log ≡ before.log) × (now.keys ≡ before.keys) × (now.joined ≡ before.joined)

  -- nothing has changed but where the made ports lie, and how much there is room for
  pub record KeepsDesk (now : Desk M P I O E B T makes made polls input output errors since) : Type 0 where
    pub log : SameLog before.log now.log
    pub ports : KeepsPorts before.ports now.ports
    pub poller : now.poller ≡ before.poller
    pub keys : now.keys ≡ before.keys

  -- what every call but a wait does: its act is told, a failure and nothing else is counted, and no turn goes by
  pub record StepsSo (Did : Seen → Seen → Type 0) (failed : Bool) (now : Desk M P I O E B T makes made polls input output errors since) : Type 0 where
    pub did : Did (seen_of before.log) (seen_of now.log)
    pub cause : Rose before.log.counts.faults now.log.counts.faults failed
    pub exact : CountsOnce before.log.counts.faults now.log.counts.faults failed
    pub waitless : Waitless (seen_of before.log) (seen_of now.log)
    pub unstopped : now.log.counts.stops ≡ before.log.counts.stops
    pub poller : now.poller ≡ before.poller
    pub keys : now.keys ≡ before.keys

  -- the same, by the act of the answer
  abbrev pub Steps : Desk M P I O E B T makes made polls input output errors since → Option Act → Bool → Type 0
  Steps now act failed = StepsSo (λ old new. Answered old new act) failed now

  -- and of a call that asks for something to be opened
  abbrev pub StepsAsking : Desk M P I O E B T makes made polls input output errors since → Asking → Option Act → Bool → Type 0
  StepsAsking now asking act failed = StepsSo (λ old new. AnsweredAsking asking old new act) failed now

  -- the poll of a turn until this moment, which names these halves and answered so
  abbrev pub Polls : Desk M P I O E B T makes made polls input output errors since → Option ℕ → List ReadyAt → Polled → Type 0
  Polls now until ready answer = PollsSo (told_by before.ports.table) before.log.places.entries ready now.keys.entries (polls.named now.poller) before.log.last until (polls.asked now.poller) answer.stop (polls.stopped now.poller) (polls.polls before.poller (polls.asked now.poller) now.poller answer)

  -- a wait that came to its end made one poll
  abbrev pub Waits : Desk M P I O E B T makes made polls input output errors since → Option ℕ → List ReadyAt → Turned → Type 0
  Waits now until ready (turns.Turned at stop) = Polls now until ready (record { at = at; stop = stop })
  Waits now until ready turns.Memory = ⊤
