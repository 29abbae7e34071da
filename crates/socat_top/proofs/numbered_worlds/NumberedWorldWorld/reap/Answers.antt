use Rattle.std.proofs.Common.{sym, ◌∙◌}
use Rattle.socat_top.proofs.NumberedLemmas.{reaped-named}
use Rattle.socat_top.proofs.numbered_worlds.NumberedWorldWorld.reap.Goals as goal

pub reap-requires-clause-once : goal.reap-requires-clause-once
reap-requires-clause-once c = sym (reaped-named c.args.self.now.world.kept.journal.acts c.args.self.now.number c.args.place) ∙ c.requires.once
