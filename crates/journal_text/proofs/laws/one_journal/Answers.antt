use Rattle.journal_text.proofs.TextLemmas.{same_acts, own_text}
use Rattle.journal_text.proofs.laws.one_journal.Goals as goal

pub returns-clause-text : goal.returns-clause-text
returns-clause-text c = same_acts

pub returns-clause-again : goal.returns-clause-again
returns-clause-again c = λ acts others each read. same_acts _ others acts read (own_text acts each)
