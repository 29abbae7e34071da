use Rattle.addr_words.proofs.Told.{text_told}
use Rattle.addr_words.proofs.laws.tokens_are_told.Goals as goal

pub returns : goal.returns
returns c = text_told
