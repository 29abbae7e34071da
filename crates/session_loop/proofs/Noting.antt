-- What a note leaves as it is.
use Rattle.std.proofs.Common.{◌≡◌, ℕ, Bool, true, false, List, ◌∷◌, Some}
use Rattle.relay_model.specs.declared.commands.Config.{Config}
use Rattle.relay_model.specs.declared.acts.Act.{Act}
use Rattle.relay_model.specs.Rest.{owed}
use Rattle.relay_session.specs.declared.sessions.Session.{Session}
use Rattle.relay_session.specs.Sessions.{Stands}
use Rattle.session_laws.proofs.Noted as kept
use Rattle.session_driver.specs.Noted.{note_of}

-- a session stands through the note of a dump that is owed
pub stands_noted : (c : Config) (n : ℕ) (past : List Act) (s : ℕ) (x : Session) (failed : Bool) (text : List ℕ) → owed c past ≡ Some text → Stands c n past s x → Stands c n (note_of failed text ∷ past) s x
stands_noted c n past s x false text o st = kept.stands_noted c n past s x text o st
stands_noted c n past s x true text o st = kept.stands_unnoted c n past s x text o st
