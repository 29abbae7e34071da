-- What the list of acts of a generated run adds up to.
use Rattle.std.specs.Prelude.{ℕ, Bool, false, ◌&&◌, ◌==◌, List, [], ◌∷◌, ◌++◌, if◌then◌else◌}
use Rattle.std.specs.List.{list_any}
use Rattle.relay_model.specs.{Act, count, same_why, same_side, admitted}
use Rattle.relay_model.specs.declared.acts.Act.TheVariants.{Accepted, Closed, Wrote}
use Rattle.relay_model.specs.declared.acts.Why.TheVariants as whys
use Rattle.relay_model.specs.declared.places.Side.TheVariants.{Left, Right}
use Rattle.socat_top.specs.Command.{load_command}

-- the act closes something of the session since that has finished
abbrev pub finishes : Act → ℕ → Bool
finishes (Closed q why) s = same_why why whys.Finished && q.session == s
finishes act s = false

-- the session was closed as finished
abbrev pub was_finished : List Act → ℕ → Bool
was_finished acts s = list_any (λ act. finishes act s) acts

-- the act accepts a peer at a left place, and so begins a session
abbrev pub begins : Act → Bool
begins (Accepted q peer) = same_side q.side Left
begins act = false

-- how many of the sessions that began were closed as finished
abbrev pub sessions_of : List Act → ℕ
sessions_of acts = count (was_finished acts) (admitted load_command acts)

-- the bytes that an act writes at a right place
abbrev pub brought : Act → List ℕ
brought (Wrote q bytes) = if same_side q.side Right then bytes else []
brought act = []

-- all bytes that were written at right places
abbrev pub delivered : List Act → List ℕ
delivered [] = []
delivered (act ∷ past) = delivered past ++ brought act
