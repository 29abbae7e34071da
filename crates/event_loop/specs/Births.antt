-- The loop at the beginning of a history.
use Rattle.std.specs.Prelude.{◌≡◌, ℕ, true, []}
use Rattle.relay_model.specs.{Config, Place, Fit, has_fork, Free}
use Rattle.world_trait.specs.Seen.{Seen}
use Rattle.event_loop.specs.declared.all_sessions.Sessions.{Sessions}
use Rattle.event_loop.specs.Courses.{SessionsCourse}

-- a command with `fork`
pub record Forks (c : Config) : Type 0 where
  pub fit : Fit c
  pub fork : has_fork c ≡ true

-- a run begins wherever nothing is held
abbrev pub BeginsAll : Config → Sessions → Type 0
BeginsAll c sessions = (n : ℕ) (start : Seen) → ((p : Place) → start.held p ≡ Free) → SessionsCourse c n start start [] sessions
