-- A made port and a standard one, by what their ports tell.
use Rattle.std.specs.Prelude.{◌≡◌, ◌||◌, Bool, false, true}
use Rattle.port_trait.specs.{begun_after, PortSeen, Begins, Begun as BeginAnswer}
use Rattle.port_trait.specs.declared.answers.Begun.TheVariants as begins
use Rattle.relay_model.specs.{Place}

-- a made port, and the place that stands on it
pub record EntrySeen : Type 0 where
  pub place : Place
  pub port : PortSeen

-- a standard port, whether it has begun, and whether the end of its output was passed on
pub record StreamSeen : Type 0 where
  pub port : PortSeen
  pub begun : Bool
  pub finished : Bool

-- a beginning of a stream: one of its port, unless it has begun
pub record StreamBegins (before now : StreamSeen) (answer : BeginAnswer) : Type 0 where
  pub port : Begins before.port now.port answer
  pub begun : now.begun ≡ (before.begun || begun_after false answer)
  pub finished : now.finished ≡ before.finished
  pub again : before.begun ≡ true → (answer ≡ begins.Begun) × (now ≡ before)

-- two states of a port, before and after a `begin` that failed
pub record FailsToBegin {T : Type 0} (tells : T → PortSeen) (made : T) : Type 0 where
  pub failed : T
  pub call : Begins (tells made) (tells failed) begins.Failed

-- what contracts see of a port is what a state of its type tells
pub record IsOf {T : Type 0} (tells : T → PortSeen) (port : PortSeen) : Type 0 where
  pub state : T
  pub told : port ≡ tells state
