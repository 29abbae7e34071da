-- The replies of a SOCKS server, and what each stage of a talk with one means.
use Rattle.std.specs.Prelude.{◌≡◌, ℕ, ◌<◌, List, length, slice_index, ◌==◌, Option, None, Some, if◌then◌else◌}
use Rattle.tunnel_port.specs.declared.stage.TalkStage.{TalkStage}
use Rattle.tunnel_port.specs.declared.stage.TalkStage.TheVariants as stages
use Rattle.tunnel_port.specs.declared.talk.HeardReply.{HeardReply}
use Rattle.tunnel_port.specs.declared.talk.HeardReply.TheVariants as hearing
use Rattle.tunnel_port.specs.declared.socks_refusal.SocksEnd.{SocksEnd}
use Rattle.tunnel_port.specs.declared.socks_refusal.SocksEnd.TheVariants as ends

-- the bytes of the request, and those of the reply that came
pub record SocksState : Type 0 where
  pub request : List ℕ
  pub heard : List ℕ

-- the first byte is 0 and the second 90; the other six say nothing
abbrev pub Grants : List ℕ → Type 0
Grants reply = (slice_index reply 0 ≡ 0) × (slice_index reply 1 ≡ 90)

-- a reply is whole with its eighth byte
abbrev pub Judges : List ℕ → HeardReply → Type 0
Judges reply hearing.More = length reply < 8
Judges reply hearing.Granted = (length reply ≡ 8) × Grants reply
Judges reply hearing.Refused = (length reply ≡ 8) × ¬ (Grants reply)

-- the reply by how far the talk has come
abbrev pub SocksStands : List ℕ → TalkStage → Type 0
SocksStands reply stages.Joining = length reply < 8
SocksStands reply stages.Talking = length reply < 8
SocksStands reply stages.Passed = Judges reply hearing.Granted
SocksStands reply stages.Faulted = length reply < 8
SocksStands reply stages.Refused = Judges reply hearing.Refused
SocksStands reply stages.Cut = length reply < 8

-- why a whole reply grants nothing
abbrev pub reply_end : List ℕ → SocksEnd
reply_end reply = if slice_index reply 0 == 0 then ends.Denied (slice_index reply 1) else ends.BadReply (slice_index reply 0)

-- why there is no connection, where that is known
abbrev pub refusal_of : List ℕ → TalkStage → Option SocksEnd
refusal_of reply stages.Joining = None
refusal_of reply stages.Talking = None
refusal_of reply stages.Passed = None
refusal_of reply stages.Faulted = None
refusal_of reply stages.Refused = Some (reply_end reply)
refusal_of reply stages.Cut = Some (ends.Short (length reply))
