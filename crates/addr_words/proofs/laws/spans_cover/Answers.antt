use Rattle.addr_words.proofs.Lies.{text_lies}
use Rattle.addr_words.proofs.laws.spans_cover.Goals as goal

pub returns : goal.returns
returns c = text_lies
