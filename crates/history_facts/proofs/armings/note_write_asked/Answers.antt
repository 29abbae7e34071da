use Rattle.std.proofs.Common.{suc, inl, inr}
use Rattle.std.proofs.lemmas.Result.{on_ok_weaker}
use Rattle.relay_model.specs.History.{turns}
use Rattle.history_facts.proofs.armings.note_write_asked.Goals as goal

pub returns-in-Read : goal.returns-in-Read
returns-in-Read c = rw c.in-Read.is (on_ok_weaker c.forget_output.result (λ h past e told s w. h s w (turns past) _ (told s w)) c.forget_output.ensures)

pub returns-in-Wrote : goal.returns-in-Wrote
returns-in-Wrote c = rw c.in-Wrote.is (on_ok_weaker c.ask.result (λ h past e told s w. h _ _ (suc (turns past)) e (told s w)) c.ask.ensures)

pub returns-in-WriteNotYet : goal.returns-in-WriteNotYet
returns-in-WriteNotYet c = elim c.in-WriteNotYet.is [ inl same ↦ rw same (on_ok_weaker c.ask-in-WriteNotYet.result (λ h past e told s w. h _ _ (suc (turns past)) e (told s w)) c.ask-in-WriteNotYet.ensures) | inr same ↦ rw same (on_ok_weaker c.ask-in-WriteNotYet.result (λ h past e told s w. h _ _ (suc (turns past)) e (told s w)) c.ask-in-WriteNotYet.ensures) ]
