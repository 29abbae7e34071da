use Rattle.std.proofs.Common.{suc, inl, inr}
use Rattle.std.proofs.lemmas.Result.{on_ok_weaker}
use Rattle.relay_model.specs.History.{turns}
use Rattle.history_facts.proofs.armings.note_read_asked.Goals as goal

pub returns-in-Read : goal.returns-in-Read
returns-in-Read c = rw c.in-Read.is (on_ok_weaker c.ask.result (λ h past e told p. h p _ (suc (turns past)) e (told p)) c.ask.ensures)

pub returns-in-ReadNotYet : goal.returns-in-ReadNotYet
returns-in-ReadNotYet c = elim c.in-ReadNotYet.is [ inl same ↦ rw same (on_ok_weaker c.ask-in-ReadNotYet.result (λ h past e told p. h p _ (suc (turns past)) e (told p)) c.ask-in-ReadNotYet.ensures) | inr same ↦ rw same (on_ok_weaker c.ask-in-ReadNotYet.result (λ h past e told p. h p _ (suc (turns past)) e (told p)) c.ask-in-ReadNotYet.ensures) ]

pub returns-in-ReadEmpty : goal.returns-in-ReadEmpty
returns-in-ReadEmpty c = elim c.in-ReadEmpty.is [ inl same ↦ rw same (on_ok_weaker c.ask-in-ReadEmpty.result (λ h past e told p. h p _ (suc (turns past)) e (told p)) c.ask-in-ReadEmpty.ensures) | inr same ↦ rw same (on_ok_weaker c.ask-in-ReadEmpty.result (λ h past e told p. h p _ (suc (turns past)) e (told p)) c.ask-in-ReadEmpty.ensures) ]
