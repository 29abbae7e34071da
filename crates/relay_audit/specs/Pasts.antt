-- What the judging of one act asks of the acts before it.
use Rattle.std.specs.Prelude.{◌≡◌, ℕ, zero, suc, ◌+◌, Bool, true, false, not, ◌&&◌, ◌||◌, nat_lt, List, [], ◌∷◌, ◌++◌, length, drop, count_by, is_none}
use Rattle.relay_model.specs.{Way, Place, Config, Why, Act, things, is_program_door, input, output, keeps_borders, held, same_why, got, put, sent}
use Rattle.relay_model.specs.{due, due_pieces, cause, closed_why, called_at, BeginsWith, closes, door_ends, is_cause}
use Rattle.relay_model.specs.declared.acts.Why.TheVariants as whys
use Rattle.relay_model.specs.declared.acts.Act.TheVariants.{Read, Closed, Note, NoteFault}
use Rattle.relay_laws.specs.{at_most_one}

-- where the last act is a read, it brought some bytes
abbrev pub reads_some : List Act → Bool
reads_some [] = true
reads_some (Read q bytes ∷ past) = nat_lt 0 (length bytes)
reads_some (act ∷ past) = true

-- what each direction has written is a beginning of what is due
abbrev pub WrittenStands : Config → List Act → Type 0
WrittenStands c past = (s : ℕ) (w : Way) → BeginsWith (put past (output c s w)) (due c w (got past (input c s w)))

-- where borders are kept, what is due and not yet written is one piece at most
abbrev pub OnePieceWaits : Config → List Act → Type 0
OnePieceWaits c past =
    (s : ℕ) (w : Way) → keeps_borders c w ≡ true →
    due_pieces c past s w ≡ sent past (output c s w) ++ at_most_one (drop (length (put past (output c s w))) (due c w (got past (input c s w))))

-- an act that waits until no dump is owed: all but closings and notes
abbrev pub awaits_dump : Act → Bool
awaits_dump (Closed q why) = false
awaits_dump (Note text) = false
awaits_dump (NoteFault text) = false
awaits_dump act = true

-- what licenses a closing, but for turns that are used up
abbrev pub may_end : Config → List Act → Place → Why → Bool
may_end c past q why =
    not (is_program_door c q) && is_cause (cause c past q.session) why
    || closes (called_at c past q) q why
    || is_program_door c q && door_ends past why
    || same_why why whys.Memory && (is_program_door c q || is_none (closed_why c past q.session))

-- how many things the sessions with numbers below this hold
abbrev pub held_below : Config → List Act → ℕ → ℕ
held_below c past zero = 0
held_below c past (suc k) = count_by (held past) (things c k) + held_below c past k
