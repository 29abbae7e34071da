-- Which calls a port over a source or a sink serves, and what its counts tell of these.
use Rattle.std.specs.Prelude.{◌≡◌, ℕ, ◌+◌, ◌-◌, ◌^◌, ◌≤◌, max, nat_lt, Bool, true, false, Option, None, Some, IfSome, if◌then◌else◌}
use Rattle.relay_model.specs.{Shut}
use Rattle.port_trait.specs.declared.counts.PortCounts.{PortCounts}
use Rattle.port_trait.specs.declared.answers.Begun.{Begun as BeginAnswer}
use Rattle.port_trait.specs.declared.answers.Begun.TheVariants as begins
use Rattle.port_trait.specs.Streams.{finishes}

-- whether it has a half that is read, whether it has one that is written and that wasn't shut, and how many of its
-- faults are calls that it doesn't serve
pub record Serving : Type 0 where
  pub reads : Bool
  pub writes : Bool
  pub misuses : ℕ

-- a call leaves what is served, and is a misuse at most once, and none where it is served
pub record IsCalled (is_served : Bool) (before now : Serving) : Type 0 where
  pub reads : now.reads ≡ before.reads
  pub writes : now.writes ≡ before.writes
  pub once : now.misuses ≤ before.misuses + 1
  pub served : is_served ≡ true → now.misuses ≡ before.misuses

-- a call that is served where this holds
abbrev pub Called : (Serving → Bool) → Option Serving → Option Serving → Type 0
Called is_served None now = now ≡ None
Called is_served (Some before) now = (after : Serving) × (now ≡ Some after) × IsCalled (is_served before) before after

-- only a begin that fails is a misuse
abbrev pub is_begin_served : BeginAnswer → Bool
is_begin_served begins.Begun = true
is_begin_served begins.Failed = false
is_begin_served begins.Memory = true

-- every misuse was counted as a fault
abbrev pub MisusesCounted : Option Serving → PortCounts → Type 0
MisusesCounted served counts = IfSome served (λ serving. serving.misuses ≤ counts.faults)

-- writes are served until the port is shut in a way that ends the bytes
abbrev pub Shuts : Shut → Option Serving → Option Serving → Type 0
Shuts how None now = now ≡ None
Shuts how (Some before) now = (writes : Bool) × (now ≡ Some (record before { writes = writes })) × (finishes how ≡ false → writes ≡ before.writes)

-- how far a count rose, of something that was seen to happen so often. A count at its last value tells no more than
-- its rise up to there
abbrev pub rise : ℕ → ℕ → ℕ → ℕ
rise before now seen = if nat_lt now (2 ^ 64 - 1) then now - before else max (now - before) seen

-- the faults that aren't misuses, and the ends, are those of the source or the sink behind
pub record AreExplained (served : Option Serving) (counts : PortCounts) (behind_faults behind_ends : Option ℕ) : Type 0 where
  pub faults : IfSome served (λ serving. IfSome behind_faults (λ behind. counts.faults ≤ serving.misuses + behind))
  pub ends : IfSome served (λ serving. IfSome behind_ends (λ behind. counts.ends ≤ behind))
