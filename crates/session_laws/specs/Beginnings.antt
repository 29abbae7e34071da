-- When a session begins: where the door calls for its peer, and that one that was refused before is no hindrance.
use Rattle.std.specs.Prelude.{◌≡◌, ℕ, ◌-◌, ◌^◌, true, false, List, [], ◌∷◌, None}
use Rattle.relay_model.specs.{Config, Peer, Act, has_fork, program_door, was_closed, admitted, next_place, permits, door_call, Legal}
use Rattle.relay_model.specs.declared.places.Side.TheVariants.{Left}
use Rattle.relay_model.specs.declared.places.Part.TheVariants.{Both, Reading}
use Rattle.relay_model.specs.declared.places.Half.TheVariants.{ToRead}
use Rattle.relay_model.specs.declared.acts.Peer.TheVariants as peers
use Rattle.relay_model.specs.declared.acts.Why.TheVariants as whys
use Rattle.relay_model.specs.declared.acts.Act.TheVariants.{Turn, Listening, Accepted, NoPeer, Closed}
use Rattle.relay_model.specs.declared.calls.Call.TheVariants.{Accept}
use Rattle.relay_laws.specs.{at, named, listed, forked_command, OnlyHeldWereNamed}
use Rattle.relay_session.specs.{home, BeginsSession}

-- where the door calls for a peer, and turns named only what was held, the next session begins with a permitted one
abbrev pub NextBegins : Type 0
NextBegins =
    (c : Config) (n : ℕ) (past : List Act) (peer : Peer) → has_fork c ≡ true → Legal c n past → OnlyHeldWereNamed past → door_call c past ≡ Accept program_door (next_place c past) →
    permits c (home c (admitted c past)) peer ≡ true → BeginsSession c n past (admitted c past) peer

-- with `lowport`, a peer came with a high port and was refused
abbrev pub refused_before : List Act
refused_before =
    Closed (at 0 Left Reading false) whys.Refused
    ∷ Accepted (at 0 Left Reading false) (peers.V4 (10 ∷ 1 ∷ 2 ∷ 3 ∷ []) 2000)
    ∷ Turn None 5 (listed (named (at 0 Left Both true) ToRead ∷ [])) false
    ∷ NoPeer (at 0 Left Both true)
    ∷ Listening (at 0 Left Both true)
    ∷ []

-- then the session of that number begins with the next peer, though its first place was closed before
pub record BeginsAfterRefusal : Type 0 where
  pub closed : was_closed refused_before (home forked_command 0) ≡ true
  pub begins : BeginsSession forked_command (2 ^ 64 - 1) refused_before 0 (peers.V4 (10 ∷ 1 ∷ 2 ∷ 3 ∷ []) 80)
