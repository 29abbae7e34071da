-- What is behind the standard streams at the ends of a direction. Lists of acts stand newest first.
use Rattle.std.specs.Prelude.{◌≡◌, ℕ, true, List, [], Option, None, Some, option_map, IfSome, if◌then◌else◌}
use Rattle.relay_model.specs.{Way, Config, Act, output, formed, due, cause, BeginsWith}
use Rattle.relay_model.specs.declared.acts.Why.TheVariants as whys
use Rattle.port_trait.specs.{Behind, BehindSeen, PortSeen, nothing_behind}
use Rattle.port_table.specs.{Back}
use Rattle.port_table.specs.declared.endings.Back.TheVariants as backs
use Rattle.socat_top.specs.Ends.{StandardEnds, HasEnded, came_in, is_alone, is_on_output, went_out}

-- what a port tells of what is behind it, where it came back joined
abbrev pub told_behind : {T : Type 0} → (T → PortSeen) → Back T → BehindSeen
told_behind tells (backs.Joined port) = (tells port).behind
told_behind tells (backs.Left port) = nothing_behind

-- what is behind the port is so as it is behind a joined one
abbrev pub StandsBehind : PortSeen → BehindSeen → Type 0
StandsBehind port behind = Behind port.gave port.took behind.gave behind.took behind.left behind.faults port.ended

-- the bytes at the far end of a port: those behind it, where they are told, and elsewhere those that passed it; none are
-- told where the port doesn't tell what passed it
abbrev pub far_bytes : (passed behind : Option (List ℕ)) → Option (List ℕ)
far_bytes passed None = passed
far_bytes passed (Some bytes) = option_map (λ _. bytes) passed

-- the faults at the far end of a port: those behind it, where the bytes there are told, and elsewhere none
abbrev pub far_faults : (behind : Option (List ℕ)) → Option ℕ → Option ℕ
far_faults None faults = Some 0
far_faults (Some bytes) faults = faults

-- the faults at the sink of a direction: those at the far end of standard output, where the sink is alone on it, and
-- elsewhere none
abbrev pub faults_out : Config → Way → Option ℕ → Option ℕ
faults_out c w faults = if is_alone c (is_on_output c) (output c 0 w) then faults else Some 0

-- what went out begins what is due of what came in, and is all of it where the session has finished and there are no
-- faults
pub record IsDueBehind (c : Config) (acts : List Act) (w : Way) (faults : Option ℕ) (came went : List ℕ) : Type 0 where
  pub begins : BeginsWith went (due c w came)
  pub whole : cause c acts 0 ≡ Some whys.Finished → faults ≡ Some 0 → went ≡ due c w came

-- the same of each direction, by the bytes at the far ends of standard input and of standard output, and by the faults
-- there; and where the source of one has ended, nothing is left behind standard input
pub record EndsBehind (c : Config) (acts : List Act) (gave took left : Option (List ℕ)) (faults : Option ℕ) : Type 0 where
  pub is_due : (w : Way) → formed c w ≡ true → IfSome (came_in c acts w gave) (λ came. IfSome (went_out c acts w took) (λ went. IsDueBehind c acts w (faults_out c w faults) came went))
  pub is_spent : (w : Way) → formed c w ≡ true → HasEnded c acts w → IfSome left (λ rest. rest ≡ [])

-- the same by what the ports of standard input and standard output passed, and by what is behind them
abbrev pub EndsFar : Config → List Act → PortSeen → PortSeen → BehindSeen → BehindSeen → Type 0
EndsFar c acts stdin stdout source sink = EndsBehind c acts (far_bytes stdin.gave source.gave) (far_bytes stdout.took sink.took) source.left (far_faults sink.took sink.faults)

-- so it is at the far ends of ports that tell of what is behind them as joined ones do, where it is so of what passed them
abbrev pub BehindIsDue : Type 0
BehindIsDue =
    (c : Config) (acts : List Act) (stdin stdout : PortSeen) (source sink : BehindSeen) →
    StandardEnds c acts stdin.gave stdout.took stdin.ended →
    StandsBehind stdin source →
    StandsBehind stdout sink →
    EndsFar c acts stdin stdout source sink
