use Rattle.journal_text.proofs.TextLemmas.{no_bad_line, same_bad_line}
use Rattle.journal_text.proofs.laws.one_bad_line.Goals as goal

pub returns-clause-none : goal.returns-clause-none
returns-clause-none c = no_bad_line

pub returns-clause-first : goal.returns-clause-first
returns-clause-first c = same_bad_line
