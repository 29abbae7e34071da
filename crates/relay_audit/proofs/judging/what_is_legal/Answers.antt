use Rattle.relay_audit.proofs.judging.what_is_legal.Goals as goal

pub returns-clause-written : goal.returns-clause-written
returns-clause-written c = λ s w. c.written_is_due.ensures c.args.past.now.config c.args.limit c.args.past.now.acts s w c.requires
