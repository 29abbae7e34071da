-- How far a talk at the front of a port has come, and what the port beneath gave and took of it.
use Rattle.std.specs.Prelude.{◌≡◌, ◌≢◌, ℕ, ◌<◌, ◌≤◌, ◌⊎◌, Bool, true, false, List, [], ◌++◌, length, take, drop, Option, option_map}
use Rattle.port_trait.specs.{Settled, Got, Took as WriteAnswer, PortCounts, Rose, emptied, PortSeen}
use Rattle.port_trait.specs.declared.answers.Settled.TheVariants as settles
use Rattle.port_trait.specs.declared.answers.Got.TheVariants as reads
use Rattle.port_trait.specs.declared.answers.Took.TheVariants as writes
use Rattle.tunnel_port.specs.declared.stage.TalkStage.{TalkStage}
use Rattle.tunnel_port.specs.declared.stage.TalkStage.TheVariants as stages
use Rattle.tunnel_port.specs.declared.talk.HeardReply.{HeardReply}
use Rattle.tunnel_port.specs.declared.talk.HeardReply.TheVariants as hearing

-- whether the request was granted
abbrev pub is_passed : TalkStage → Bool
is_passed stages.Joining = false
is_passed stages.Talking = false
is_passed stages.Passed = true
is_passed stages.Faulted = false
is_passed stages.Refused = false
is_passed stages.Cut = false

-- whether the talk has come to an end, well or badly
abbrev pub is_over : TalkStage → Bool
is_over stages.Joining = false
is_over stages.Talking = false
is_over stages.Passed = true
is_over stages.Faulted = true
is_over stages.Refused = true
is_over stages.Cut = true

-- what a settling answers
abbrev pub settled_at : TalkStage → Settled
settled_at stages.Joining = settles.NotYet
settled_at stages.Talking = settles.NotYet
settled_at stages.Passed = settles.Ready
settled_at stages.Faulted = settles.Failed
settled_at stages.Refused = settles.Failed
settled_at stages.Cut = settles.Failed

-- what a read and a write answer that come before the request is granted
abbrev pub read_at : TalkStage → Got
read_at stages.Joining = reads.NotYet
read_at stages.Talking = reads.NotYet
read_at stages.Passed = reads.NotYet
read_at stages.Faulted = reads.Failed
read_at stages.Refused = reads.Failed
read_at stages.Cut = reads.Failed

-- the same of a write
abbrev pub write_at : TalkStage → WriteAnswer
write_at stages.Joining = writes.NotYet
write_at stages.Talking = writes.NotYet
write_at stages.Passed = writes.NotYet
write_at stages.Faulted = writes.Failed
write_at stages.Refused = writes.Failed
write_at stages.Cut = writes.Failed

-- what is told is this and nothing else
abbrev pub IsOnly : List ℕ → Option (List ℕ) → Type 0
IsOnly part told = told ≡ option_map (λ _. part) told

-- what is told behind its first bytes, of which there are as many as here
abbrev pub rest_behind : List ℕ → Option (List ℕ) → Option (List ℕ)
rest_behind part told = option_map (λ all. drop (length part) all) told

-- what is told is this part and then the rest
abbrev pub Follows : List ℕ → Option (List ℕ) → Option (List ℕ) → Type 0
Follows part told rest = told ≡ option_map (λ bytes. part ++ bytes) rest

-- what is told begins so
abbrev pub Begins : List ℕ → Option (List ℕ) → Type 0
Begins part told = Follows part told (rest_behind part told)

-- as long as the talk goes on what is told is its part of it, and then it begins with that
abbrev pub Told : Bool → List ℕ → Option (List ℕ) → Type 0
Told true part told = Begins part told
Told false part told = IsOnly part told

-- what is told, without its bytes
abbrev pub nothing_of : Option (List ℕ) → Option (List ℕ)
nothing_of told = option_map (λ _. []) told

-- what was given or taken of what follows the talk
abbrev pub behind_talk : Bool → List ℕ → Option (List ℕ) → Option (List ℕ)
behind_talk true part told = rest_behind part told
behind_talk false part told = nothing_of told

-- the port beneath took the first bytes of the request, and gave the bytes that were heard. Nothing else went
-- through it before the request was granted
pub record InTalk (took gave : Option (List ℕ)) (asks heard : List ℕ) (said : ℕ) (stage : TalkStage) : Type 0 where
  pub within : said ≤ length asks
  pub whole : is_passed stage ≡ true → said ≡ length asks
  pub asked : Told (is_passed stage) (take said asks) took
  pub answered : Told (is_passed stage) heard gave

-- once the request is granted, what was taken is the request and then what followed, and what was given the reply and
-- then what followed
abbrev pub FollowsTalk : Option (List ℕ) → Option (List ℕ) → List ℕ → List ℕ → TalkStage → Type 0
FollowsTalk took gave asks heard stage =
    is_passed stage ≡ true → Follows asks took (behind_talk (is_passed stage) asks took) × Follows heard gave (behind_talk (is_passed stage) heard gave)

-- the reply goes on, and has fewer bytes than it may have
abbrev pub StillHears : (HeardReply → Type 0) → List ℕ → ℕ → Type 0
StillHears judges heard limit = (length heard < limit) × ((heard ≡ []) ⊎ judges hearing.More)

-- what stands by the bytes that were heard
abbrev pub IsJudged : (HeardReply → Type 0) → List ℕ → ℕ → TalkStage → Type 0
IsJudged judges heard limit stages.Passed = judges hearing.Granted
IsJudged judges heard limit stages.Refused = judges hearing.Refused
IsJudged judges heard limit stages.Joining = StillHears judges heard limit
IsJudged judges heard limit stages.Talking = StillHears judges heard limit
IsJudged judges heard limit stages.Faulted = StillHears judges heard limit
IsJudged judges heard limit stages.Cut = StillHears judges heard limit

-- the cause of each stage that a settling came to, by the counts of the port beneath
abbrev pub HasCause : TalkStage → PortCounts → PortCounts → Type 0
HasCause stages.Joining before now = Rose before.stalls now.stalls
HasCause stages.Talking before now = Rose before.stalls now.stalls
HasCause stages.Passed before now = Unit {0}
HasCause stages.Faulted before now = Rose before.faults now.faults
HasCause stages.Refused before now = Unit {0}
HasCause stages.Cut before now = Rose before.ends now.ends ⊎ Rose before.empties now.empties

-- the talk was cut where a read of the port beneath told its end or an empty packet, and nowhere else
abbrev pub IsCutByEnd : TalkStage → Bool → Bool → PortCounts → PortCounts → Type 0
IsCutByEnd stages.Cut before now old new = (now ≡ true) ⊎ Rose old.empties new.empties
IsCutByEnd stages.Joining before now old new = now ≡ true → before ≡ true
IsCutByEnd stages.Talking before now old new = now ≡ true → before ≡ true
IsCutByEnd stages.Passed before now old new = now ≡ true → before ≡ true
IsCutByEnd stages.Faulted before now old new = now ≡ true → before ≡ true
IsCutByEnd stages.Refused before now old new = now ≡ true → before ≡ true

-- no empty packet of the port beneath was passed over: the talk was cut by the first that came
abbrev pub NonePassedOver : TalkStage → Option ℕ → Option ℕ → Type 0
NonePassedOver stages.Cut before now = (now ≡ before) ⊎ (now ≡ emptied reads.Empty before)
NonePassedOver stages.Joining before now = now ≡ before
NonePassedOver stages.Talking before now = now ≡ before
NonePassedOver stages.Passed before now = now ≡ before
NonePassedOver stages.Faulted before now = now ≡ before
NonePassedOver stages.Refused before now = now ≡ before

-- how a stage came about, by what is seen of the port beneath: its cause, and whether that was the end
pub record ComesAbout (stage : TalkStage) (before now : PortSeen) : Type 0 where
  pub cause : HasCause stage before.counts now.counts
  pub cut : IsCutByEnd stage before.ended now.ended before.counts now.counts

-- a talk leaves this of the port beneath as it was
pub record LeavesBeneath (before now : PortSeen) : Type 0 where
  pub unshut : now.shuts ≡ before.shuts
  pub begun : now.begun ≡ before.begun
  pub child : now.child ≡ before.child

-- a talk that goes on leaves its request too
pub record LeavesRequest (asks_before asks_now : List ℕ) (before now : PortSeen) : Type 0 where
  pub asks : asks_now ≡ asks_before
  pub beneath : LeavesBeneath before now

-- how far a talk comes by this answer of a settling, which left the port beneath so
abbrev pub JoinedBy : {P : Type 0} → Settled → P → P → TalkStage → Type 0
JoinedBy settles.Ready left now stage = stage ≢ stages.Joining
JoinedBy settles.NotYet left now stage = (stage ≡ stages.Joining) × (now ≡ left)
JoinedBy settles.Failed left now stage = (stage ≡ stages.Faulted) × (now ≡ left)

-- before the port beneath was ready it is asked whether it is, once
abbrev pub AsksBeneath : {P : Type 0} → (P → P → Settled → Type 0) → TalkStage → P → P → TalkStage → Type 0
AsksBeneath {P = P} answers stages.Joining before now stage = (left : P) × (settled : Settled) × answers before left settled × JoinedBy settled left now stage
AsksBeneath answers stages.Talking before now stage = Unit {0}
AsksBeneath answers stages.Passed before now stage = Unit {0}
AsksBeneath answers stages.Faulted before now stage = Unit {0}
AsksBeneath answers stages.Refused before now stage = Unit {0}
AsksBeneath answers stages.Cut before now stage = Unit {0}

-- what kept the request from being written
abbrev pub Paused : Settled → PortCounts → PortCounts → Type 0
Paused settles.Ready before now = Unit {0}
Paused settles.NotYet before now = Rose before.stalls now.stalls
Paused settles.Failed before now = Rose before.faults now.faults
