use Rattle.relay_audit.proofs.OneVerdict.{one_verdict}
use Rattle.relay_audit.proofs.laws.one_verdict.Goals as goal

pub returns : goal.returns
returns c = one_verdict (record {
  one_history = c.one_journal.ensures.text;
  no_bad_line = c.one_bad_line.ensures.none;
  one_line = c.one_bad_line.ensures.first;
  prefixes = c.prefixes_are_legal.ensures;
})
