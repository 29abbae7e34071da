-- What passes the standard streams, by the acts of a history and by the address that each place has.
use Rattle.std.specs.Prelude.{◌≡◌, ℕ, Bool, true, false, not, ◌&&◌, ◌||◌, List, [], ◌∷◌, ◌++◌, Option, None, Some, IfSome, ⊤}
use Rattle.relay_model.specs.{Act, Place, Single, joined}
use Rattle.relay_model.specs.declared.acts.Act.TheVariants.{Listening, Accepted, Read, ReadEmpty, ReadEnd, ReadNotYet, ReadFault, Wrote, Note, NoteFault}
use Rattle.relay_model.specs.Journals.{Asking, History}
use Rattle.port_table.specs.{standard_of, Base}
use Rattle.desk_places.specs.{StandsFor}
use Rattle.port_table.specs.declared.bases.Base.TheVariants as bases

-- the standard streams that a place stands on by its own address; none where that is of a made port
abbrev pub stream_of : (Place → Single) → Place → Option Base
stream_of own p = standard_of p (own p).target

-- a read of them is one of standard input
abbrev pub reads_input : Option Base → Bool
reads_input None = false
reads_input (Some bases.Input) = true
reads_input (Some bases.Output) = false
reads_input (Some bases.Both) = true
reads_input (Some bases.Errors) = false
reads_input (Some (bases.Made key)) = false

-- a write on them is one on standard output
abbrev pub writes_output : Option Base → Bool
writes_output None = false
writes_output (Some bases.Input) = false
writes_output (Some bases.Output) = true
writes_output (Some bases.Both) = true
writes_output (Some bases.Errors) = false
writes_output (Some (bases.Made key)) = false

-- the bytes that were read at the places on standard input, in the order of the acts
abbrev pub input_read : (Place → Single) → List Act → List ℕ
input_read own [] = []
input_read own (Read p bytes ∷ past) = joined (reads_input (stream_of own p)) (input_read own past) bytes
input_read own (act ∷ past) = input_read own past

-- the last read at the places on standard input met the end
abbrev pub input_ended : (Place → Single) → List Act → Bool
input_ended own [] = false
input_ended own (Read p bytes ∷ past) = not (reads_input (stream_of own p)) && input_ended own past
input_ended own (ReadEmpty p ∷ past) = not (reads_input (stream_of own p)) && input_ended own past
input_ended own (ReadNotYet p ∷ past) = not (reads_input (stream_of own p)) && input_ended own past
input_ended own (ReadFault p ∷ past) = not (reads_input (stream_of own p)) && input_ended own past
input_ended own (ReadEnd p ∷ past) = reads_input (stream_of own p) || input_ended own past
input_ended own (act ∷ past) = input_ended own past

-- the bytes that were written at the places on standard output, in the order of the acts
abbrev pub output_written : (Place → Single) → List Act → List ℕ
output_written own [] = []
output_written own (Wrote p bytes ∷ past) = joined (writes_output (stream_of own p)) (output_written own past) bytes
output_written own (act ∷ past) = output_written own past

-- a write on them is one on standard error
abbrev pub writes_errors : Option Base → Bool
writes_errors None = false
writes_errors (Some bases.Input) = false
writes_errors (Some bases.Output) = false
writes_errors (Some bases.Both) = false
writes_errors (Some bases.Errors) = true
writes_errors (Some (bases.Made key)) = false

-- the bytes that were written at the places on standard error and those of the notes, in the order of the acts
abbrev pub errors_written : (Place → Single) → List Act → List ℕ
errors_written own [] = []
errors_written own (Wrote p bytes ∷ past) = joined (writes_errors (stream_of own p)) (errors_written own past) bytes
errors_written own (Note text ∷ past) = errors_written own past ++ text
errors_written own (act ∷ past) = errors_written own past

-- no note failed
abbrev pub are_noted : List Act → Bool
are_noted [] = true
are_noted (NoteFault text ∷ past) = false
are_noted (act ∷ past) = are_noted past

-- each place was asked for with its own address
abbrev pub AllOwn : (Place → Single) → List Asking → Type 0
AllOwn own [] = ⊤
AllOwn own (asking ∷ more) = (asking.1 ≡ own asking.0) × AllOwn own more

-- what is listened at and what a peer came to has no standard stream for its address
abbrev pub IsElsewhere : (Place → Single) → Act → Type 0
IsElsewhere own (Listening p) = stream_of own p ≡ None
IsElsewhere own (Accepted p peer) = stream_of own p ≡ None
IsElsewhere own act = ⊤

-- the same of all doors and peers
abbrev pub AreElsewhere : (Place → Single) → List Act → Type 0
AreElsewhere own [] = ⊤
AreElsewhere own (act ∷ past) = IsElsewhere own act × AreElsewhere own past

-- each place stands on the streams of its address; standard input gave what was read there, and its last read met the
-- end where that there did; standard output took what was written there, and standard error, where no note failed, what
-- was written there and noted
pub record Follows (own : Place → Single) (acts : List Act) (base : Place → Option Base) (gave took said : Option (List ℕ)) (ended : Bool) : Type 0 where
  pub stands : (p : Place) → IfSome (base p) (λ b. StandsFor (stream_of own p) (Some b))
  pub given : IfSome gave (λ all. all ≡ input_read own acts)
  pub taken : IfSome took (λ all. all ≡ output_written own acts)
  pub told : are_noted acts ≡ true → IfSome said (λ all. all ≡ errors_written own acts)
  pub over : input_ended own acts ≡ true → ended ≡ true

-- the same of a history, whatever address each place has for its own
abbrev pub FollowsTold : Option History → (Place → Option Base) → Option (List ℕ) → Option (List ℕ) → Option (List ℕ) → Bool → Type 0
FollowsTold None base gave took said ended = ⊤
FollowsTold (Some history) base gave took said ended = (own : Place → Single) → AllOwn own history.asked → AreElsewhere own history.acts → Follows own history.acts base gave took said ended

-- the standard streams have passed no bytes
pub record IsUnused (gave took said : Option (List ℕ)) : Type 0 where
  pub given : IfSome gave (λ all. all ≡ [])
  pub taken : IfSome took (λ all. all ≡ [])
  pub silent : IfSome said (λ all. all ≡ [])

-- what the standard streams passed by these acts: what was read at the places on standard input, with the end where the
-- last read met it, what was written at those on standard output, and, where no note failed, what was written at those
-- on standard error and noted
pub record PassedBy (own : Place → Single) (acts : List Act) (gave took said : Option (List ℕ)) (ended : Bool) : Type 0 where
  pub given : IfSome gave (λ all. all ≡ input_read own acts)
  pub taken : IfSome took (λ all. all ≡ output_written own acts)
  pub told : are_noted acts ≡ true → IfSome said (λ all. all ≡ errors_written own acts)
  pub over : input_ended own acts ≡ true → ended ≡ true

-- the same of a history, whatever address each place has for its own
abbrev pub Passed : History → Option (List ℕ) → Option (List ℕ) → Option (List ℕ) → Bool → Type 0
Passed history gave took said ended = (own : Place → Single) → AllOwn own history.asked → AreElsewhere own history.acts → PassedBy own history.acts gave took said ended

-- the same of a history that is told
abbrev pub PassedTold : Option History → Option (List ℕ) → Option (List ℕ) → Option (List ℕ) → Bool → Type 0
PassedTold None gave took said ended = ⊤
PassedTold (Some history) gave took said ended = Passed history gave took said ended

-- what a desk told, and what its standard streams had passed, where it was first followed
pub record Start : Type 0 where
  pub told : Option History
  pub gave : Option (List ℕ)
  pub took : Option (List ℕ)
  pub said : Option (List ℕ)
  pub ended : Bool

-- a desk is followed from where its streams had passed what was told
abbrev pub StartsInStep : Option Start → Type 0
StartsInStep None = ⊥
StartsInStep (Some start) = PassedTold start.told start.gave start.took start.said start.ended

-- from a start in step on, places and streams follow what is told
pub record GoesOn (start : Option Start) (told : Option History) (base : Place → Option Base) (gave took said : Option (List ℕ)) (ended : Bool) : Type 0 where
  pub follows : StartsInStep start → FollowsTold told base gave took said ended
