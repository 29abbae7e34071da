use Rattle.std.proofs.Common.{suc, inl, inr}
use Rattle.std.proofs.lemmas.Result.{on_ok_weaker}
use Rattle.relay_model.specs.History.{turns}
use Rattle.history_facts.proofs.armings.note_accept_asked.Goals as goal

pub returns-in-Accepted : goal.returns-in-Accepted
returns-in-Accepted c = rw (c.in-Accepted.is, ← c.accepting_door.ensures) (on_ok_weaker c.ask.result (λ h past e told p. h p _ (suc (turns past)) e (told p)) c.ask.ensures)

pub returns-in-NoPeer : goal.returns-in-NoPeer
returns-in-NoPeer c = elim c.in-NoPeer.is [ inl same ↦ rw same (on_ok_weaker c.ask-in-NoPeer.result (λ h past e told p. h p _ (suc (turns past)) e (told p)) c.ask-in-NoPeer.ensures) | inr same ↦ rw same (on_ok_weaker c.ask-in-NoPeer.result (λ h past e told p. h p _ (suc (turns past)) e (told p)) c.ask-in-NoPeer.ensures) ]
