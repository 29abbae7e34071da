-- Which answers fit a wish, and the act that an answer makes of it.
use Rattle.std.specs.Prelude.{◌≡◌, ℕ, ◌<◌, ◌≤◌, Bool, false, List, length, take, Option, Some, None}
use Rattle.relay_model.specs.{Place, same_place, Act}
use Rattle.relay_model.specs.declared.acts.Act.TheVariants as acts
use Rattle.relay_session.specs.declared.wishes.Wish.{Wish}
use Rattle.relay_session.specs.declared.wishes.Wish.TheVariants as wishes
use Rattle.relay_session.specs.declared.wishes.Answer.{Answer}
use Rattle.relay_session.specs.declared.wishes.Answer.TheVariants as answers

-- the answer is one of the wish's kind, and its number is in range; `waiting` are the bytes that a write offers
abbrev pub Fits : Wish → List ℕ → Answer → Type 0
Fits (wishes.Open p) waiting answers.Opened = Unit {0}
Fits (wishes.Open p) waiting answers.Later = Unit {0}
Fits (wishes.Open p) waiting answers.Failed = Unit {0}
Fits (wishes.Settle p) waiting answers.Opened = Unit {0}
Fits (wishes.Settle p) waiting answers.Later = Unit {0}
Fits (wishes.Settle p) waiting answers.Failed = Unit {0}
Fits (wishes.Listen d) waiting answers.Listening = Unit {0}
Fits (wishes.Listen d) waiting answers.Failed = Unit {0}
Fits (wishes.Accept d p) waiting (answers.Accepted peer) = Unit {0}
Fits (wishes.Accept d p) waiting answers.NoPeer = Unit {0}
Fits (wishes.Accept d p) waiting answers.Failed = Unit {0}
Fits (wishes.Read p at_most) waiting (answers.Bytes bytes) = (0 < length bytes.now) × (length bytes.now ≤ at_most)
Fits (wishes.Read p at_most) waiting answers.Empty = Unit {0}
Fits (wishes.Read p at_most) waiting answers.End = Unit {0}
Fits (wishes.Read p at_most) waiting answers.NotYet = Unit {0}
Fits (wishes.Read p at_most) waiting answers.Failed = Unit {0}
Fits (wishes.Write p) waiting (answers.Took count) = (0 < count) × (count ≤ length waiting)
Fits (wishes.Write p) waiting answers.NotYet = Unit {0}
Fits (wishes.Write p) waiting answers.Failed = Unit {0}
Fits (wishes.Send p) waiting (answers.Took count) = (0 < count) × (count ≡ length waiting)
Fits (wishes.Send p) waiting answers.NotYet = Unit {0}
Fits (wishes.Send p) waiting answers.Failed = Unit {0}
Fits (wishes.Shut p how) waiting answers.Done = Unit {0}
Fits (wishes.Shut p how) waiting answers.Failed = Unit {0}
Fits (wishes.Close p why) waiting answers.Done = Unit {0}
Fits (wishes.Reap p) waiting (answers.Reaped end) = Unit {0}
Fits (wishes.Reap p) waiting answers.NoChild = Unit {0}
Fits (wishes.Sleep until) waiting answers.Woken = Unit {0}
Fits wish waiting answer = ⊥

-- the act that the call and its answer are; a sleep's is a turn, which is heard piece by piece, and that there is no
-- child stands for none
abbrev pub act_of : Wish → List ℕ → Answer → Option Act
act_of (wishes.Open p) waiting answers.Opened = Some (acts.Opened p)
act_of (wishes.Open p) waiting answers.Later = Some (acts.OpenLater p)
act_of (wishes.Open p) waiting answers.Failed = Some (acts.OpenFailed p)
act_of (wishes.Settle p) waiting answers.Opened = Some (acts.Opened p)
act_of (wishes.Settle p) waiting answers.Later = Some (acts.OpenLater p)
act_of (wishes.Settle p) waiting answers.Failed = Some (acts.OpenFailed p)
act_of (wishes.Listen d) waiting answers.Listening = Some (acts.Listening d)
act_of (wishes.Listen d) waiting answers.Failed = Some (acts.ListenFailed d)
act_of (wishes.Accept d p) waiting (answers.Accepted peer) = Some (acts.Accepted p peer)
act_of (wishes.Accept d p) waiting answers.NoPeer = Some (acts.NoPeer d)
act_of (wishes.Accept d p) waiting answers.Failed = Some (acts.AcceptFailed d)
act_of (wishes.Read p at_most) waiting (answers.Bytes bytes) = Some (acts.Read p bytes.now)
act_of (wishes.Read p at_most) waiting answers.Empty = Some (acts.ReadEmpty p)
act_of (wishes.Read p at_most) waiting answers.End = Some (acts.ReadEnd p)
act_of (wishes.Read p at_most) waiting answers.NotYet = Some (acts.ReadNotYet p)
act_of (wishes.Read p at_most) waiting answers.Failed = Some (acts.ReadFault p)
act_of (wishes.Write p) waiting (answers.Took count) = Some (acts.Wrote p (take count waiting))
act_of (wishes.Write p) waiting answers.NotYet = Some (acts.WriteNotYet p)
act_of (wishes.Write p) waiting answers.Failed = Some (acts.WriteFault p)
act_of (wishes.Send p) waiting (answers.Took count) = Some (acts.Wrote p (take count waiting))
act_of (wishes.Send p) waiting answers.NotYet = Some (acts.WriteNotYet p)
act_of (wishes.Send p) waiting answers.Failed = Some (acts.WriteFault p)
act_of (wishes.Shut p how) waiting answers.Done = Some (acts.Shut p how)
act_of (wishes.Shut p how) waiting answers.Failed = Some (acts.ShutFault p how)
act_of (wishes.Close p why) waiting answers.Done = Some (acts.Closed p why)
act_of (wishes.Reap p) waiting (answers.Reaped end) = Some (acts.Reaped p end)
act_of wish waiting answer = None

-- so many bytes answer a wished read, as `Fits` has it
abbrev pub FitsRead : Wish → ℕ → Type 0
FitsRead (wishes.Read p at_most) count = (0 < count) × (count ≤ at_most)
FitsRead wish count = ⊥

-- the act that a wished read is with these bytes, as `act_of` has it
abbrev pub read_act : Wish → List ℕ → Option Act
read_act (wishes.Read p at_most) bytes = Some (acts.Read p bytes)
read_act wish bytes = None

-- the wish asks for the child of this place
abbrev pub reaps_at : Wish → Place → Bool
reaps_at (wishes.Reap q) p = same_place q p
reaps_at wish p = false
