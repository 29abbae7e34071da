-- What a list of acts says of the visits of peers and of their sessions. Lists of acts stand newest first.
use Rattle.std.specs.Prelude.{ℕ, ◌&&◌, ◌==◌, List, [], ◌∷◌, Option, Some, None, if◌then◌else◌}
use Rattle.relay_model.specs.{Place, Config, Peer, ChildEnd, Act, same_place, has_fork, is_of, now, permits, is_admission, admitted, holds}
use Rattle.relay_model.specs.declared.acts.Act.TheVariants.{Accepted, Closed, Reaped}

-- the last permitted peer that came to a place
abbrev pub met_at : Config → List Act → Place → Option Peer
met_at c [] p = None
met_at c (Accepted q peer ∷ past) p = if permits c q peer && same_place q p then Some peer else met_at c past p
met_at c (act ∷ past) p = met_at c past p

-- what was last learnt of the child of a place
abbrev pub child_at : List Act → Place → Option ChildEnd
child_at [] p = None
child_at (Reaped q end ∷ past) p = if same_place q p then Some end else child_at past p
child_at (act ∷ past) p = child_at past p

-- the moment at which the peer of a session came to the program door of `fork`
abbrev pub admitted_at : Config → List Act → ℕ → Option ℕ
admitted_at c [] s = None
admitted_at c (Accepted p peer ∷ past) s = if is_admission c p peer && admitted c past == s then Some (now past) else admitted_at c past s
admitted_at c (act ∷ past) s = admitted_at c past s

-- the moment at which a session began: with `fork` its peer came then, and without it session 0 begins with the run
abbrev pub began_at : Config → List Act → ℕ → Option ℕ
began_at c past s = if has_fork c then admitted_at c past s else (if s == 0 then Some 0 else None)

-- the moment at which something of a session was closed last
abbrev pub closed_at : Config → List Act → ℕ → Option ℕ
closed_at c [] s = None
closed_at c (Closed q why ∷ past) s = if is_of c s q then Some (now past) else closed_at c past s
closed_at c (act ∷ past) s = closed_at c past s

-- the moment at which a session ended: nothing of it has been held since then
abbrev pub ended_at : Config → List Act → ℕ → Option ℕ
ended_at c past s = if holds c past s then None else closed_at c past s
