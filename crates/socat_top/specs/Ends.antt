-- What the standard streams at the ends of a direction passed. Lists of acts stand newest first.
use Rattle.std.specs.Prelude.{◌≡◌, ℕ, Bool, true, false, not, ◌&&◌, ◌||◌, List, [], ◌∷◌, Option, Some, IfSome, if◌then◌else◌}
use Rattle.std.specs.List.{list_all}
use Rattle.relay_model.specs.{Way, Place, Config, Act, same_place, input, output, formed, has_fork, places, single, got, put, due, cause, BeginsWith}
use Rattle.relay_model.specs.{Legal}
use Rattle.relay_model.specs.declared.acts.Act.TheVariants.{Read, ReadEmpty, ReadEnd, ReadNotYet, ReadFault}
use Rattle.relay_model.specs.declared.acts.Why.TheVariants as whys
use Rattle.port_desk.specs.{PassedBy, reads_input, stream_of, writes_output}

-- a read at the place is one of standard input, by the place's address
abbrev pub is_on_input : Config → Place → Bool
is_on_input c p = reads_input (stream_of (single c) p)

-- a write at the place is one on standard output, by the place's address
abbrev pub is_on_output : Config → Place → Bool
is_on_output c p = writes_output (stream_of (single c) p)

-- the place is on a stream, and no other place of the command is. With `fork` each session has places of its own
abbrev pub is_alone : Config → (Place → Bool) → Place → Bool
is_alone c on p = not (has_fork c) && on p && list_all (λ q. same_place q p || not (on q)) (places c 0)

-- what came in at the source of a direction: what standard input gave, where the source is alone on it, and elsewhere
-- what was read there
abbrev pub came_in : Config → List Act → Way → Option (List ℕ) → Option (List ℕ)
came_in c acts w gave = if is_alone c (is_on_input c) (input c 0 w) then gave else Some (got acts (input c 0 w))

-- what went out at the sink of a direction: what standard output took, where the sink is alone on it, and elsewhere what
-- was written there
abbrev pub went_out : Config → List Act → Way → Option (List ℕ) → Option (List ℕ)
went_out c acts w took = if is_alone c (is_on_output c) (output c 0 w) then took else Some (put acts (output c 0 w))

-- the last read at the place met the end
abbrev pub last_met_end : List Act → Place → Bool
last_met_end [] p = false
last_met_end (Read q bytes ∷ past) p = not (same_place q p) && last_met_end past p
last_met_end (ReadEmpty q ∷ past) p = not (same_place q p) && last_met_end past p
last_met_end (ReadNotYet q ∷ past) p = not (same_place q p) && last_met_end past p
last_met_end (ReadFault q ∷ past) p = not (same_place q p) && last_met_end past p
last_met_end (ReadEnd q ∷ past) p = same_place q p || last_met_end past p
last_met_end (act ∷ past) p = last_met_end past p

-- what went out begins what is due of what came in, and is all of it where the session has finished
pub record IsDue (c : Config) (acts : List Act) (w : Way) (came went : List ℕ) : Type 0 where
  pub begins : BeginsWith went (due c w came)
  pub whole : cause c acts 0 ≡ Some whys.Finished → went ≡ due c w came

-- a source that is alone on standard input, where the last read met the end
abbrev pub HasEnded : Config → List Act → Way → Type 0
HasEnded c acts w = (is_alone c (is_on_input c) (input c 0 w) ≡ true) × (last_met_end acts (input c 0 w) ≡ true)

-- the same of each direction, by the acts of a command and by what standard input gave and standard output took, where
-- they tell it; and where the source of one has ended, the last read of the port of standard input met the end
pub record StandardEnds (c : Config) (acts : List Act) (gave took : Option (List ℕ)) (ended : Bool) : Type 0 where
  pub is_due : (w : Way) → formed c w ≡ true → IfSome (came_in c acts w gave) (λ came. IfSome (went_out c acts w took) (λ went. IsDue c acts w came went))
  pub is_ended : (w : Way) → formed c w ≡ true → HasEnded c acts w → ended ≡ true

-- so it is after legal acts, where the streams passed what these tell by the command's own addresses
abbrev pub PassedEnds : Type 0
PassedEnds = (c : Config) (n : ℕ) (acts : List Act) (gave took said : Option (List ℕ)) (ended : Bool) → Legal c n acts → (has_fork c ≡ false → PassedBy (single c) acts gave took said ended) → StandardEnds c acts gave took ended
