-- What becomes of a standard port at the end.
use Rattle.std.specs.Prelude.{◌≡◌, Bool, true, false, not, ⊤}
use Rattle.port_trait.specs.{Shutting, PortSeen, Shuts, MovesNothing}
use Rattle.relay_model.specs.declared.acts.Shut.TheVariants as ways
use Rattle.port_table.specs.declared.endings.Back.{Back}
use Rattle.port_table.specs.declared.endings.Back.TheVariants as backs

-- whether something still works for the port
abbrev pub is_left : {T : Type 0} → Back T → Bool
is_left (backs.Joined port) = false
is_left (backs.Left port) = true

-- the port that is handed back
abbrev pub handed : {T : Type 0} → Back T → T
handed (backs.Joined port) = port
handed (backs.Left port) = port

-- a fact of one that was joined
abbrev pub OnJoinedBack : {T : Type 0} → (T → Type 0) → Back T → Type 0
OnJoinedBack Fact (backs.Joined port) = Fact port
OnJoinedBack Fact (backs.Left port) = ⊤

-- a join moves no byte and counts nothing
pub record StandsAfter (before now : PortSeen) : Type 0 where
  pub still : MovesNothing before now
  pub counts : now.counts ≡ before.counts
  pub ended : now.ended ≡ before.ended

-- the port was closed where its end was still to be passed on, and else nothing was done
abbrev pub PassedEnd : Bool → PortSeen → PortSeen → Type 0
PassedEnd true before now = (answer : Shutting) × Shuts before now ways.Close answer
PassedEnd false before now = now ≡ before

-- a port is left exactly where it doesn't join after that
pub record EndsSo (passes : Bool) (before : PortSeen) (left : Bool) (handed : PortSeen) : Type 0 where
  pub at_end : PortSeen
  pub passed : PassedEnd passes before at_end
  pub left_is : left ≡ not at_end.joins
  pub stands : StandsAfter at_end handed
