-- What contracts see of a port behind a talk.
use Rattle.std.specs.Prelude.{ℕ, Bool, false, List, None}
use Rattle.port_trait.specs.{PortCounts, PortSeen, nothing_behind}
use Rattle.tunnel_port.specs.Talks.{InTalk, FollowsTalk, behind_talk, is_passed}
use Rattle.tunnel_port.specs.declared.stage.TalkStage.{TalkStage}
use Rattle.tunnel_port.specs.declared.stage.TalkStage.TheVariants as stages

-- the port beneath, the talk, how many bytes of the request were written, how far the talk has come, what was
-- counted, and whether the last read answered the end
pub record TunnelState (P T : Type 0) : Type 0 where
  pub inner : P
  pub talk : T
  pub said : ℕ
  pub stage : TalkStage
  pub counts : PortCounts
  pub ended : Bool

-- a port whose talk has not begun
abbrev pub fresh_tunnel : {P T : Type 0} → P → T → TunnelState P T
fresh_tunnel inner talk = record { inner = inner; talk = talk; said = 0; stage = stages.Joining; counts = record { faults = 0; ends = 0; empties = 0; stalls = 0 }; ended = false }

-- what is seen of the port beneath, but of what it gave and took only that which lies behind the talk
abbrev pub tunnel_seen : {P T : Type 0} → (P → PortSeen) → (T → List ℕ) → (T → List ℕ) → TunnelState P T → PortSeen
tunnel_seen seen asks heard port =
    let beneath = seen port.inner in
    record beneath {
      gave = behind_talk (is_passed port.stage) (heard port.talk) beneath.gave;
      took = behind_talk (is_passed port.stage) (asks port.talk) beneath.took;
      empty_packets = None;
      behind = nothing_behind;
      served = None;
      counts = port.counts;
      ended = port.ended;
    }

-- the port beneath took and gave what the talk says, and once the request is granted what followed the talk
pub record KeepsTalk {P T : Type 0} (seen : P → PortSeen) (asks heard : T → List ℕ) (port : TunnelState P T) : Type 0 where
  pub talk : InTalk (seen port.inner).took (seen port.inner).gave (asks port.talk) (heard port.talk) port.said port.stage
  pub follows : FollowsTalk (seen port.inner).took (seen port.inner).gave (asks port.talk) (heard port.talk) port.stage
