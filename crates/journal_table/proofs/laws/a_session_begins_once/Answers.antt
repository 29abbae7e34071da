use Rattle.journal_table.proofs.Begins.{a_session_begins_once}
use Rattle.journal_table.proofs.laws.a_session_begins_once.Goals as goal

pub returns : goal.returns
returns c = a_session_begins_once
