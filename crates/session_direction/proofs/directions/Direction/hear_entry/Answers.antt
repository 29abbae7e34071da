use Rattle.std.proofs.Common.{sym, subst}
use Rattle.session_direction.specs.Directions.{IsDirection}
use Rattle.session_direction.proofs.Steps.{named_to_read, named_to_write}
use Rattle.session_direction.proofs.directions.Direction.hear_entry.Goals as goal

pub returns-in-ToRead-clause-goes : goal.returns-in-ToRead-clause-goes
returns-in-ToRead-clause-goes c = λ k past s w until at xs f. rw (c.armed_where-self-inside.ensures, c.is.ensures) (named_to_read k past s w _ until at xs c.args.entry c.in-ToRead.is (subst (IsDirection k _ s w) (sym c.self.view_is) f))

pub returns-in-ToWrite-clause-goes : goal.returns-in-ToWrite-clause-goes
returns-in-ToWrite-clause-goes c = λ k past s w until at xs f. rw (c.is-in-ToWrite.ensures) (named_to_write k past s w _ until at xs c.args.entry c.in-ToWrite.is (subst (IsDirection k _ s w) (sym c.self.view_is) f))
