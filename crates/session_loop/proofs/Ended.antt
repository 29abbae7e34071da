-- What the end of a run says in the words of a relay.
use Rattle.std.proofs.Common.{◌≡◌, refl, ap, ◌∙◌, ℕ, true, is_some, List, Some, option_map}
use Rattle.relay_model.specs.declared.acts.Act.{Act}
use Rattle.relay_model.specs.declared.commands.Config.{Config}
use Rattle.relay_model.specs.declared.places.Place.{Place}
use Rattle.relay_model.specs.Holding.{Free}
use Rattle.relay_model.specs.History.{turns}
use Rattle.relay_model.specs.Journals.{History}
use Rattle.relay_session.proofs.Possible.{unheld_free}
use Rattle.exit_status.specs.declared.outcomes.Outcome.{Outcome}
use Rattle.world_trait.specs.Seen.{Seen}
use Rattle.session_driver.specs.Steps.{extend}
use Rattle.session_loop.specs.declared.drivers.Driver.{Driver}
use Rattle.session_loop.specs.Courses.{DriverCourse, Risen}
use Rattle.session_loop.specs.Ended.{HasRunEnded, Happened}
use Rattle.session_loop.specs.Headline.{Completes, RelayHeadline, StopCause, is_failure}
use Rattle.session_loop.proofs.Going.{tells_on}
use Rattle.session_loop.proofs.Ends.{completes_by, stop_of}

-- a course of the loop is such a run
pub happened : (c : Config) (n : ℕ) (start now : Seen) (r : Driver) (past : List Act) → DriverCourse c n start now r past → Happened c n start now past
happened c n start now r past on =
    let run = on.run in
    record {
      legal = run.legal;
      pairs = run.pairs;
      own = run.own;
      told = run.told;
      holds = run.holds;
      later = run.later;
      blamed = run.blamed;
      waited = rw run.turned run.waited;
      few_waits = rw run.turned run.few_waits;
      later_stops = run.later_stops;
      stopped = run.stopped;
    }

pub frees : (c : Config) (n : ℕ) (start now : Seen) (past : List Act) (answer : Outcome) → HasRunEnded c n start now past answer → (p : Place) → now.held p ≡ Free
frees c n start now past answer e p = e.happened.holds p ∙ unheld_free c n past p e.happened.legal (e.ends.free p)

pub heads : (c : Config) (n : ℕ) (start now : Seen) (past : List Act) (answer : Outcome) (before : History) → HasRunEnded c n start now past answer → start.told ≡ Some before → RelayHeadline c n before now.told answer
heads c n start now past answer before e told = record {
  acts = past;
  asked = e.happened.pairs;
  told_is = e.happened.told ∙ ap (option_map (extend past e.happened.pairs)) told;
  legal = e.happened.legal;
  free = e.ends.free;
  outcome_is = e.ends.outcome_is;
  own = e.happened.own;
}

pub tells : (c : Config) (n : ℕ) (start now : Seen) (past : List Act) (answer : Outcome) → HasRunEnded c n start now past answer → is_some now.told ≡ is_some start.told
tells c n start now past answer e = tells_on (extend past e.happened.pairs) start.told now.told e.happened.told

pub fails : (c : Config) (n : ℕ) (start now : Seen) (past : List Act) (answer : Outcome) → HasRunEnded c n start now past answer → is_failure answer ≡ true → Risen start.faults now.faults
fails c n start now past answer e h = e.happened.blamed (e.ends.failed h)

pub stops : (c : Config) (n : ℕ) (start now : Seen) (past : List Act) (answer : Outcome) → HasRunEnded c n start now past answer → StopCause n start.waits now.waits start.stops now.stops answer
stops c n start now past answer e = stop_of answer n start.waits now.waits start.stops now.stops past e.ends.stopped e.happened.stopped (record { least = e.happened.waited; most = e.happened.few_waits })

pub completes : (c : Config) (n : ℕ) (start now : Seen) (past : List Act) (answer : Outcome) → HasRunEnded c n start now past answer → Completes n start.faults now.faults start.waits now.waits start.stops now.stops answer
completes c n start now past answer e = completes_by answer n start.faults now.faults start.waits now.waits start.stops now.stops e.ends.relayed (fails c n start now past answer e) (stops c n start now past answer e)
