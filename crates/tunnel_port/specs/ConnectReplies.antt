-- The replies of an HTTP proxy, and what each stage of a talk with one means.
use Rattle.std.specs.Prelude.{◌≡◌, ℕ, ◌<◌, ◌≤◌, Bool, true, false, ◌||◌, List, [], ◌∷◌, length, nat_eq, Option, None, Some}
use Rattle.std.specs.List.{ends_with}
use Rattle.httparse.specs.Grammar.{ResponseHead, ReadsResponse, status_code}
use Rattle.tunnel_port.specs.declared.stage.TalkStage.{TalkStage}
use Rattle.tunnel_port.specs.declared.stage.TalkStage.TheVariants as stages
use Rattle.tunnel_port.specs.declared.talk.HeardReply.{HeardReply}
use Rattle.tunnel_port.specs.declared.talk.HeardReply.TheVariants as hearing
use Rattle.tunnel_port.specs.declared.connect_refusal.ConnectEnd.{ConnectEnd}
use Rattle.tunnel_port.specs.declared.connect_refusal.ConnectEnd.TheVariants as ends
use Rattle.tunnel_port.specs.declared.connect_head.HeadVerdict.{HeadVerdict}
use Rattle.tunnel_port.specs.declared.connect_head.HeadVerdict.TheVariants as verdicts

-- the bytes of the request, those of the reply that came, and why it grants nothing
pub record ConnectState : Type 0 where
  pub request : List ℕ
  pub heard : List ℕ
  pub end : Option ConnectEnd

-- a talk of this request, of whose reply nothing came
abbrev pub fresh_talk : List ℕ → ConnectState
fresh_talk request = record { request = request; heard = []; end = None }

-- the bytes end in an empty line, behind a line feed alone or a carriage return and a line feed
abbrev pub is_ended : List ℕ → Bool
is_ended bytes = ends_with nat_eq bytes (10 ∷ 10 ∷ []) || ends_with nat_eq bytes (10 ∷ 13 ∷ 10 ∷ [])

-- the bytes are as a whole the head of a response with at most 64 fields, and this holds of it
abbrev pub HasHead : List ℕ → (ResponseHead → Type 0) → Type 0
HasHead bytes P = (h : ResponseHead) × ReadsResponse bytes h [] × (length h.fields ≤ 64) × P h

-- no head of a response with at most 64 fields is these bytes as a whole
abbrev pub HasNoHead : List ℕ → Type 0
HasNoHead bytes = (h : ResponseHead) → ReadsResponse bytes h [] → ¬ (length h.fields ≤ 64)

-- a status from 200 to 299 grants the request
abbrev pub IsSuccess : ℕ → Type 0
IsSuccess status = (200 ≤ status) × (status ≤ 299)

-- what a whole reply, or one that is too long, is refused for
abbrev pub IsEnd : List ℕ → ConnectEnd → Type 0
IsEnd bytes (ends.Denied status) = (is_ended bytes ≡ true) × HasHead bytes (λ h. status_code h ≡ status) × ¬ (IsSuccess status)
IsEnd bytes (ends.BadHead have) = (is_ended bytes ≡ true) × (have ≡ length bytes) × HasNoHead bytes
IsEnd bytes ends.TooLong = (is_ended bytes ≡ false) × (length bytes ≡ 8192)
IsEnd bytes (ends.Short have) = ⊥

-- what the bytes of a reply come to so far
abbrev pub Means : List ℕ → HeadVerdict → Type 0
Means bytes verdicts.More = (is_ended bytes ≡ false) × (length bytes < 8192)
Means bytes verdicts.Granted = (is_ended bytes ≡ true) × HasHead bytes (λ h. IsSuccess (status_code h))
Means bytes (verdicts.Refused why) = IsEnd bytes why

-- the reply is read up to an empty line, and no further
abbrev pub Judges : ConnectState → HeardReply → Type 0
Judges talk hearing.More = Means talk.heard verdicts.More
Judges talk hearing.Granted = Means talk.heard verdicts.Granted
Judges talk hearing.Refused = (why : ConnectEnd) × (talk.end ≡ Some why) × IsEnd talk.heard why

-- the reply by how far the talk has come
abbrev pub ConnectStands : ConnectState → TalkStage → Type 0
ConnectStands talk stages.Joining = Means talk.heard verdicts.More
ConnectStands talk stages.Talking = Means talk.heard verdicts.More
ConnectStands talk stages.Passed = Judges talk hearing.Granted
ConnectStands talk stages.Faulted = Means talk.heard verdicts.More
ConnectStands talk stages.Refused = Judges talk hearing.Refused
ConnectStands talk stages.Cut = Means talk.heard verdicts.More

-- why there is no connection, where that is known
abbrev pub refusal_of : ConnectState → TalkStage → Option ConnectEnd
refusal_of talk stages.Joining = None
refusal_of talk stages.Talking = None
refusal_of talk stages.Passed = None
refusal_of talk stages.Faulted = None
refusal_of talk stages.Refused = talk.end
refusal_of talk stages.Cut = Some (ends.Short (length talk.heard))
