-- What contracts see of a connection through a SOCKS server.
use Rattle.std.specs.Prelude.{◌≡◌, Bool, Option, None}
use Rattle.relay_model.specs.{Shut}
use Rattle.port_trait.specs.{all_hints, PortSeen, Hint, Shutting, PortCounts}
use Rattle.port_trait.specs.declared.answers.Shutting.TheVariants as shuts
use Rattle.real_maker.specs.declared.socks.SocksStage.{SocksStage}
use Rattle.real_maker.specs.declared.socks.SocksStage.TheVariants as stages

-- how far it has come, what was counted, whether a begin came, and whether the last read answered the end
pub record SocksOpeningState (P : Type 0) : Type 0 where
  pub stage : SocksStage P
  pub counts : PortCounts
  pub begun : Bool
  pub ended : Bool

-- what it hints; the end of a lookup is told by its thread
abbrev pub stage_hints : {P : Type 0} → (P → PortSeen) → SocksStage P → Option Hint
stage_hints seen (stages.Talking port) = (seen port.inner).hints
stage_hints seen (stages.Asking asked) = None
stage_hints seen stages.Over = None

-- the halves that it may hint at
abbrev pub stage_hinting : {P : Type 0} → (P → PortSeen) → SocksStage P → Hint
stage_hinting seen (stages.Talking port) = (seen port.inner).hinting
stage_hinting seen (stages.Asking asked) = all_hints
stage_hinting seen stages.Over = all_hints

-- a shut is answered as the port to the server answers it, before the request and behind it. One that was given up is shut
abbrev pub ShutsBeneath : {P : Type 0} → (P → P → Shut → Shutting → Type 0) → SocksStage P → SocksStage P → Shut → Shutting → Type 0
ShutsBeneath answers (stages.Asking before) (stages.Asking now) how shutting = answers before.inner now.inner how shutting
ShutsBeneath answers (stages.Talking before) (stages.Talking now) how shutting = answers before.inner now.inner how shutting
ShutsBeneath answers stages.Over stages.Over how shutting = shutting ≡ shuts.Done
ShutsBeneath answers _ _ how shutting = ⊥
