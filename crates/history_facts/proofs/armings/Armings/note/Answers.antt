use Rattle.std.proofs.lemmas.Result.{on_ok_weaker}
use Rattle.history_facts.proofs.armings.Armings.note.Goals as goal

pub returns : goal.returns
returns c = on_ok_weaker c.note_accept_asked.result (λ h past at turn told. record {
  reads = c.in_ok-note_read_arming.ensures past at told.reads;
  writes = c.in_ok-note_write_arming.ensures past told.writes;
  accepts = c.in_ok-note_accept_arming.ensures past told.accepts;
  reads_asked = c.in_ok-note_read_asked.ensures past turn told.reads_asked;
  writes_asked = c.in_ok-note_write_asked.ensures past turn told.writes_asked;
  accepts_asked = h past turn told.accepts_asked;
}) c.note_accept_asked.ensures
