-- Which halves and doors are armed, which is to say worth asking, and which were asked since the last turn.
use Rattle.std.specs.Prelude.{ℕ, ◌+◌, Bool, true, false, not, ◌&&◌, ◌||◌, nat_le, List, [], ◌∷◌, Option, Some, None, if◌then◌else◌}
use Rattle.relay_model.specs.declared.places.Place.{Place}
use Rattle.relay_model.specs.declared.places.Half.TheVariants.{ToRead, ToWrite}
use Rattle.relay_model.specs.declared.commands.Config.{Config}
use Rattle.relay_model.specs.declared.acts.Act.{Act}
use Rattle.relay_model.specs.declared.acts.Act.TheVariants.{Turn, Opened, Listening, Accepted, NoPeer, AcceptFailed, Read, ReadEmpty, ReadEnd, ReadNotYet, ReadFault, Wrote, WriteNotYet, WriteFault}
use Rattle.relay_model.specs.Places.{same_place}
use Rattle.relay_model.specs.Readiness.{names}
use Rattle.relay_model.specs.Configs.{accepting_door}
use Rattle.relay_model.specs.History.{now}
use Rattle.relay_model.specs.declared.armings.Arming.{Arming}
use Rattle.relay_model.specs.declared.armings.Arming.TheVariants.{Disarmed, Armed, AtEnd}

-- how long after an end an input is asked again, in milliseconds
abbrev pub pause_after_end : ℕ
pause_after_end = 1000

-- how an input stands, by the last act that opened, accepted, named or asked it
abbrev pub read_arming : List Act → Place → Arming
read_arming [] p = Disarmed
read_arming (Turn until at ready stop ∷ past) p = if names ready.entries p ToRead then Armed else read_arming past p
read_arming (Opened q ∷ past) p = if same_place q p then Armed else read_arming past p
read_arming (Accepted q peer ∷ past) p = if same_place q p then Armed else read_arming past p
read_arming (ReadNotYet q ∷ past) p = if same_place q p then Disarmed else read_arming past p
read_arming (ReadEnd q ∷ past) p = if same_place q p then AtEnd (now past) else read_arming past p
read_arming (act ∷ past) p = read_arming past p

-- whether an input is worth asking at this moment
abbrev pub is_armed : Arming → ℕ → Bool
is_armed Disarmed at = false
is_armed Armed at = true
is_armed (AtEnd met) at = nat_le (met + pause_after_end) at

-- whether an input is worth asking now
abbrev pub armed_to_read : List Act → Place → Bool
armed_to_read past p = is_armed (read_arming past p) (now past)

-- the moment at which an input that met an end is armed again
abbrev pub arming_moment : Arming → Option ℕ
arming_moment Disarmed = None
arming_moment Armed = None
arming_moment (AtEnd met) = Some (met + pause_after_end)

-- an output is armed by its opening and by a turn that names it, and disarmed by "not yet"
abbrev pub armed_to_write : List Act → Place → Bool
armed_to_write [] p = false
armed_to_write (Turn until at ready stop ∷ past) p = names ready.entries p ToWrite || armed_to_write past p
armed_to_write (Opened q ∷ past) p = same_place q p || armed_to_write past p
armed_to_write (Accepted q peer ∷ past) p = same_place q p || armed_to_write past p
armed_to_write (WriteNotYet q ∷ past) p = not (same_place q p) && armed_to_write past p
armed_to_write (act ∷ past) p = armed_to_write past p

-- a door is armed by its listening and by a turn that names it, and disarmed where no peer was there
abbrev pub armed_to_accept : List Act → Place → Bool
armed_to_accept [] d = false
armed_to_accept (Turn until at ready stop ∷ past) d = names ready.entries d ToRead || armed_to_accept past d
armed_to_accept (Listening q ∷ past) d = same_place q d || armed_to_accept past d
armed_to_accept (NoPeer q ∷ past) d = not (same_place q d) && armed_to_accept past d
armed_to_accept (act ∷ past) d = armed_to_accept past d

-- a read act of the place since the last turn
abbrev pub asked_to_read : List Act → Place → Bool
asked_to_read [] p = false
asked_to_read (Turn until at ready stop ∷ past) p = false
asked_to_read (Read q bytes ∷ past) p = same_place q p || asked_to_read past p
asked_to_read (ReadEmpty q ∷ past) p = same_place q p || asked_to_read past p
asked_to_read (ReadEnd q ∷ past) p = same_place q p || asked_to_read past p
asked_to_read (ReadNotYet q ∷ past) p = same_place q p || asked_to_read past p
asked_to_read (ReadFault q ∷ past) p = same_place q p || asked_to_read past p
asked_to_read (act ∷ past) p = asked_to_read past p

-- a write act of the output since the last turn and since bytes were last read from the input
abbrev pub asked_to_write : List Act → Place → Place → Bool
asked_to_write [] i o = false
asked_to_write (Turn until at ready stop ∷ past) i o = false
asked_to_write (Read q bytes ∷ past) i o = not (same_place q i) && asked_to_write past i o
asked_to_write (Wrote q bytes ∷ past) i o = same_place q o || asked_to_write past i o
asked_to_write (WriteNotYet q ∷ past) i o = same_place q o || asked_to_write past i o
asked_to_write (WriteFault q ∷ past) i o = same_place q o || asked_to_write past i o
asked_to_write (act ∷ past) i o = asked_to_write past i o

-- an accept act of the door since the last turn; an accepting names the place that was met there
abbrev pub asked_to_accept : Config → List Act → Place → Bool
asked_to_accept c [] d = false
asked_to_accept c (Turn until at ready stop ∷ past) d = false
asked_to_accept c (Accepted q peer ∷ past) d = same_place (accepting_door c q) d || asked_to_accept c past d
asked_to_accept c (NoPeer q ∷ past) d = same_place q d || asked_to_accept c past d
asked_to_accept c (AcceptFailed q ∷ past) d = same_place q d || asked_to_accept c past d
asked_to_accept c (act ∷ past) d = asked_to_accept c past d
