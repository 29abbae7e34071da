use Rattle.event_loop.proofs.Ending.{somewhere_first}
use Rattle.run_trials.proofs.looks.looks_seldom.Goals as goal

pub count_looks-looks-requires-clause-some : goal.count_looks-looks-requires-clause-some
count_looks-looks-requires-clause-some g c = somewhere_first _ _ _ c.in_ok-whole.whole c.in_ok-whole.ensures c.requires.free
