use Rattle.std.proofs.Common.{subst}
use Rattle.ring_writer.specs.WriterRing.{WriterStands}
use Rattle.ring_writer.proofs.BackLemmas.{is_behind}
use Rattle.ring_writer.proofs.writer_stages.WriterStage.join.Goals as goal

pub returns-in-Working-clause-behind : goal.returns-in-Working-clause-behind
returns-in-Working-clause-behind g c = is_behind g.K.Sink.took g.K.Sink.faults g.K.Sink.finished c.hand_back.result c.hand_back.ensures.back

pub returns-in-Back-clause-behind : goal.returns-in-Back-clause-behind
returns-in-Back-clause-behind g c = is_behind g.K.Sink.took g.K.Sink.faults g.K.Sink.finished c.in-Back.back (subst (WriterStands g.K.Sink.took g.K.Sink.faults g.K.Sink.finished) c.in-Back.is c.requires.stands)
