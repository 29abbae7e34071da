use Rattle.cmd_words.proofs.Blames.{answer_blames}
use Rattle.cmd_words.proofs.addresses.address_at.Goals as goal

pub returns-clause-blamed : goal.returns-clause-blamed
returns-clause-blamed c = answer_blames c.args.settings c.args.at c.args.side c.args.word.now c.read_at.result c.read_at.ensures.exact
