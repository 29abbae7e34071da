-- Waits: the whole rests where its parts do, and it waits until the least of their moments.
use Rattle.std.specs.Prelude.{◌≡◌, ◌<◌, ◌≤◌, ℕ, suc, Bool, true, false, ◌||◌, ◌⊎◌, List, Option, Some, None}
use Rattle.relay_model.specs.declared.commands.Config.{Config}
use Rattle.relay_model.specs.declared.acts.Act.{Act}
use Rattle.relay_model.specs.Choices.{some_below}
use Rattle.relay_model.specs.History.{now}
use Rattle.relay_model.specs.Sessions.{numbers}
use Rattle.relay_model.specs.Calls.{door_call}
use Rattle.relay_model.specs.Outcome.{outcome}
use Rattle.relay_model.specs.Rest.{owed, accepts, session_work, session_moment, door_moment, SessionRests, DoorRests, Rest, until_of}
use Rattle.relay_model.specs.May.{Legal}

-- armed work is left at the program door or in some session
abbrev pub works : Config → List Act → Bool
works c past = accepts (door_call c past) || some_below (session_work c past) (numbers c past)

-- at this moment something falls due, at the program door or in some session
abbrev pub FallsDue : Config → List Act → ℕ → Type 0
FallsDue c past m = (door_moment c past ≡ Some m) ⊎ ((s : ℕ) × (s < numbers c past) × (session_moment c past s ≡ Some m))

-- until when a wait may last
pub data IsUntil (c : Config) (past : List Act) (until : Option ℕ) : Type 0 where
  at_once : works c past ≡ true → until ≡ Some (now past) → IsUntil c past until
  at_least : (m : ℕ) → works c past ≡ false → until ≡ Some m → FallsDue c past m → ((k : ℕ) → FallsDue c past k → m ≤ k) → IsUntil c past until
  never : works c past ≡ false → until ≡ None → ((k : ℕ) → FallsDue c past k → ⊥) → IsUntil c past until

-- a wait lasts until now where work is left, else until the least moment at which a part falls due, else without end
abbrev pub UntilIsLeast : Type 0
UntilIsLeast = (c : Config) (past : List Act) → IsUntil c past (until_of c past)

-- the whole rests where the door rests and each session that has begun, and that of the next peer
abbrev pub RestIsOfParts : Type 0
RestIsOfParts =
    (c : Config) (n : ℕ) (past : List Act) → Legal c n past → outcome c past ≡ None → owed c past ≡ None →
    ((s : ℕ) → s < suc (numbers c past) → SessionRests c past s) → DoorRests c past → Rest c past
