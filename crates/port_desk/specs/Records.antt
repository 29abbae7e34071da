-- The acts by which a desk keeps what it did, and the answers that stand for those of a port.
use Rattle.std.specs.Prelude.{◌≡◌, ℕ, ◌+◌, ◌-◌, ◌^◌, min, Bool, true, false, List, [], ◌∷◌, Option, None, Some, option_map, if◌then◌else◌}
use Rattle.relay_model.specs.{Act, Place, Single}
use Rattle.relay_model.specs.Journals.{History}
use Rattle.world_trait.specs.{with_act, with_asking, Turned, ReadAnswer, WriteAnswer, SendAnswer, ReapAnswer}
use Rattle.port_trait.specs.{Got, Took, PortReap}
use Rattle.port_trait.specs.declared.answers.Got.TheVariants as gots
use Rattle.port_trait.specs.declared.answers.Took.TheVariants as tooks
use Rattle.port_trait.specs.declared.answers.PortReap.TheVariants as childs
use Rattle.world_trait.specs.declared.answers.Turned.TheVariants as turns
use Rattle.world_trait.specs.declared.answers.ReadAnswer.TheVariants as reads
use Rattle.world_trait.specs.declared.answers.WriteAnswer.TheVariants as writes
use Rattle.world_trait.specs.declared.answers.SendAnswer.TheVariants as sends
use Rattle.world_trait.specs.declared.answers.ReapAnswer.TheVariants as reaps

-- there are no acts
abbrev pub are_none : List Act → Bool
are_none [] = true
are_none (act ∷ past) = false

-- nothing is told that was done
abbrev pub has_no_acts : Option History → Bool
has_no_acts None = true
has_no_acts (Some history) = are_none history.acts

-- a count rises by one where something happened, and nowhere else; it stays at its last value
abbrev pub CountsOnce : ℕ → ℕ → Bool → Type 0
CountsOnce before now happened = now ≡ (if happened then min (before + 1) (2 ^ 64 - 1) else before)

-- the count of stops over a wait
abbrev pub CountsStop : ℕ → ℕ → Turned → Type 0
CountsStop before now (turns.Turned at stop) = CountsOnce before now stop
CountsStop before now turns.Memory = now ≡ before

-- the act of an answer is told, where acts are told
abbrev pub Tells : Option Act → Option History → Option History → Type 0
Tells None told told' = told' ≡ told
Tells (Some act) told told' = told' ≡ option_map (with_act act) told

-- the same, and what was asked is told too, by the copy that was made of it, without which nothing is told
abbrev pub TellsCopy : Place → Option Single → Option Act → Option History → Option History → Type 0
TellsCopy place copy None told told' = told' ≡ told
TellsCopy place None (Some act) told told' = told' ≡ told
TellsCopy place (Some single) (Some act) told told' = told' ≡ option_map (with_asking act (place, single)) told

-- the world's answer for that of a port's read
abbrev pub read_answer : Got → ReadAnswer
read_answer (gots.Bytes n) = reads.Bytes n
read_answer gots.Empty = reads.Empty
read_answer gots.End = reads.End
read_answer gots.NotYet = reads.NotYet
read_answer gots.Failed = reads.Failed

-- the world's answer for that of a port's write
abbrev pub write_answer : Took → WriteAnswer
write_answer (tooks.Took n) = writes.Took n
write_answer tooks.NotYet = writes.NotYet
write_answer tooks.Failed = writes.Failed

-- the world's answer for that of a port's packet
abbrev pub send_answer : Took → SendAnswer
send_answer (tooks.Took n) = sends.Sent
send_answer tooks.NotYet = sends.NotYet
send_answer tooks.Failed = sends.Failed

-- the world's answer for that of a port's reaping
abbrev pub reap_answer : PortReap → ReapAnswer
reap_answer (childs.Reaped end) = reaps.Reaped end
reap_answer childs.NoChild = reaps.NoChild
