-- What the tables that are kept up with each act say of the acts before.
use Rattle.std.specs.Prelude.{◌≡◌, ◌≤◌, ◌==◌, ℕ, suc, Bool, List, [], ◌∷◌, length, Option, None, Some}
use Rattle.relay_model.specs.{Place, Act, Way, Config, input, output, read_arming, armed_to_write, armed_to_accept, asked_to_read, asked_to_write}
use Rattle.relay_model.specs.{asked_to_accept, now, turns, stop_said, memory_said, stage, failures, woken, accept_failed, was_closed, was_reaped, got}
use Rattle.relay_model.specs.{put, met_end, met_empty, shut_at, read_fault_at, write_fault_at, admitted, moved_at, closed_why, Why, Stage}
use Rattle.history_facts.specs.declared.placed.Placed.{Placed}
use Rattle.history_facts.specs.declared.numbered.Numbered.{Numbered}
use Rattle.history_facts.specs.Tables.{numbered, placed}
use Rattle.history_facts.specs.declared.clock.TurnFacts.{TurnFacts}
use Rattle.history_facts.specs.declared.traffic.Traffic.{Traffic}
use Rattle.history_facts.specs.declared.sessions.SessionFacts.{SessionFacts}
use Rattle.history_facts.specs.declared.openings.OpeningFacts.{OpeningFacts}
use Rattle.relay_model.specs.declared.armings.Arming.{Arming}
use Rattle.history_facts.specs.declared.armings.Armings.{Armings}
use Rattle.history_facts.specs.Pasts.{Chronicle}

-- the first of a list
abbrev pub newest : List ℕ → Option ℕ
newest [] = None
newest (moment ∷ moments) = Some moment

-- ---- openings

-- the table has each place's stage
abbrev pub StagesTold : Placed Stage → List Act → Type 0
StagesTold table past = (p : Place) → (placed table p) ≡ stage past p

-- the table has how many openings or listenings failed at each place
abbrev pub FailuresCounted : Placed ℕ → List Act → Type 0
FailuresCounted table past = (p : Place) → placed table p ≡ length (failures past p)

-- the table has when the last one failed at each place
abbrev pub LastFailuresTold : Placed (Option ℕ) → List Act → Type 0
LastFailuresTold table past = (p : Place) → placed table p ≡ newest (failures past p)

-- the table has whether each place was woken
abbrev pub WokenTold : Placed Bool → List Act → Type 0
WokenTold table past = (p : Place) → placed table p ≡ woken past p

-- the table has whether an accepting failed at each door
abbrev pub AcceptsFailedTold : Placed Bool → List Act → Type 0
AcceptsFailedTold table past = (d : Place) → placed table d ≡ accept_failed past d

-- the table has whether each place was closed
abbrev pub ClosedTold : Placed Bool → List Act → Type 0
ClosedTold table past = (p : Place) → placed table p ≡ was_closed past p

-- the table has whether the child of each place was reaped
abbrev pub ReapedTold : Placed Bool → List Act → Type 0
ReapedTold table past = (p : Place) → placed table p ≡ was_reaped past p

-- what is kept of openings is what the acts say
pub record OpeningsTold (o : OpeningFacts) (past : List Act) : Type 0 where
  pub stages : StagesTold o.stages past
  pub failures_counted : FailuresCounted o.failure_counts past
  pub last_failures : LastFailuresTold o.last_failures past
  pub woken_told : WokenTold o.woken past
  pub accepts_failed : AcceptsFailedTold o.accepts_failed past
  pub closed : ClosedTold o.closed past
  pub reaped : ReapedTold o.reaped past

-- ---- armings

-- the table has how each input is armed
abbrev pub ReadArmingsTold : Placed Arming → List Act → Type 0
ReadArmingsTold table past = (p : Place) → (placed table p) ≡ read_arming past p

-- the table has whether each output is armed
abbrev pub WriteArmingsTold : Placed Bool → List Act → Type 0
WriteArmingsTold table past = (p : Place) → placed table p ≡ armed_to_write past p

-- the table has whether each door is armed
abbrev pub AcceptArmingsTold : Placed Bool → List Act → Type 0
AcceptArmingsTold table past = (d : Place) → placed table d ≡ armed_to_accept past d

-- whether something was asked stands in the number of the turn that it came before
pub record AskedBefore (number turn : ℕ) (asked : Bool) : Type 0 where
  pub is : asked ≡ (number == turn)
  pub bound : number ≤ turn

-- the table has in which turn each input was last asked
abbrev pub ReadsAsked : Placed ℕ → List Act → Type 0
ReadsAsked table past = (p : Place) → AskedBefore (placed table p) (suc (turns past)) (asked_to_read past p)

-- the table has in which turn each output was last asked
abbrev pub WritesAsked : Config → Placed ℕ → List Act → Type 0
WritesAsked c table past = (s : ℕ) (w : Way) → AskedBefore (placed table (output c s w)) (suc (turns past)) (asked_to_write past (input c s w) (output c s w))

-- the table has in which turn each door was last asked
abbrev pub AcceptsAsked : Config → Placed ℕ → List Act → Type 0
AcceptsAsked c table past = (d : Place) → AskedBefore (placed table d) (suc (turns past)) (asked_to_accept c past d)

-- what is kept of arming is what the acts say
pub record ArmingsTold (c : Config) (a : Armings) (past : List Act) : Type 0 where
  pub reads : ReadArmingsTold a.reads past
  pub writes : WriteArmingsTold a.writes past
  pub accepts : AcceptArmingsTold a.accepts past
  pub reads_asked : ReadsAsked a.reads_asked past
  pub writes_asked : WritesAsked c a.writes_asked past
  pub accepts_asked : AcceptsAsked c a.accepts_asked past

-- ---- turns

-- what is kept of turns is what the acts say
pub record ClockTold (k : TurnFacts) (past : List Act) : Type 0 where
  pub now_told : k.now ≡ now past
  pub turn_told : k.turn ≡ suc (turns past)
  pub stop_told : k.stop_said ≡ stop_said past
  pub memory_told : k.memory_said ≡ memory_said past

-- ---- reads and writes

-- the table has how many bytes were read at each place
abbrev pub ReadTold : Placed ℕ → List Act → Type 0
ReadTold table past = (p : Place) → placed table p ≡ length (got past p)

-- the table has how many bytes were written at each place
abbrev pub WrittenTold : Placed ℕ → List Act → Type 0
WrittenTold table past = (p : Place) → placed table p ≡ length (put past p)

-- the table has whether an end came at each place
abbrev pub EndsTold : Placed Bool → List Act → Type 0
EndsTold table past = (p : Place) → placed table p ≡ met_end past p

-- the table has whether an empty datagram came at each place
abbrev pub EmptiesTold : Placed Bool → List Act → Type 0
EmptiesTold table past = (p : Place) → placed table p ≡ met_empty past p

-- the table has when an end was passed on at each place
abbrev pub ShutsTold : Placed (Option ℕ) → List Act → Type 0
ShutsTold table past = (p : Place) → placed table p ≡ shut_at past p

-- the table has when a read failed at each place
abbrev pub ReadFaultsTold : Placed (Option ℕ) → List Act → Type 0
ReadFaultsTold table past = (p : Place) → placed table p ≡ read_fault_at past p

-- the table has when a write failed at each place
abbrev pub WriteFaultsTold : Placed (Option ℕ) → List Act → Type 0
WriteFaultsTold table past = (p : Place) → placed table p ≡ write_fault_at past p

-- what is kept of reads and writes is what the acts say
pub record TrafficTold (t : Traffic) (past : List Act) : Type 0 where
  pub read : ReadTold t.read past
  pub written : WrittenTold t.written past
  pub ends : EndsTold t.ends past
  pub empties : EmptiesTold t.empties past
  pub shuts : ShutsTold t.shuts past
  pub read_faults : ReadFaultsTold t.read_faults past
  pub write_faults : WriteFaultsTold t.write_faults past

-- ---- sessions

-- the table has when each session last moved
abbrev pub MovesTold : Config → Numbered ℕ → List Act → Type 0
MovesTold c table past = (s : ℕ) → numbered table s ≡ moved_at c past s

-- the table has the reason of each session's closing
abbrev pub CausesTold : Config → Numbered (Option Why) → List Act → Type 0
CausesTold c table past = (s : ℕ) → numbered table s ≡ closed_why c past s

-- so many peers were permitted
abbrev pub AdmittedTold : Config → ℕ → List Act → Type 0
AdmittedTold c count past = count ≡ admitted c past

-- what is kept of sessions is what the acts say
pub record SessionsTold (c : Config) (s : SessionFacts) (past : List Act) : Type 0 where
  pub moves : MovesTold c s.moved past
  pub causes : CausesTold c s.closed past
  pub admitted_told : AdmittedTold c s.admitted past

-- ---- all

-- all that is kept is what the acts say
pub record AllTold (h : Chronicle) (k : TurnFacts) (o : OpeningFacts) (a : Armings) (t : Traffic) (s : SessionFacts) : Type 0 where
  pub clock : ClockTold k h.acts
  pub openings : OpeningsTold o h.acts
  pub armings : ArmingsTold h.config a h.acts
  pub traffic : TrafficTold t h.acts
  pub sessions : SessionsTold h.config s h.acts
