use Rattle.std.proofs.Common.{sym, subst}
use Rattle.session_direction.specs.Directions.{IsDirection}
use Rattle.session_direction.proofs.Steps.{opened, accepted}
use Rattle.session_direction.proofs.directions.Direction.hear_opening.Goals as goal

pub returns-clause-opened : goal.returns-clause-opened
returns-clause-opened c = λ k past s w f. rw (c.armed_where-self-inside.ensures, c.is.ensures, c.is-2.ensures) (opened k past s w _ c.args.place (subst (IsDirection k past s w) (sym c.self.view_is) f))

pub returns-clause-accepted : goal.returns-clause-accepted
returns-clause-accepted c = λ k past s w peer f. rw (c.armed_where-self-inside.ensures, c.is.ensures, c.is-2.ensures) (accepted k past s w _ c.args.place peer (subst (IsDirection k past s w) (sym c.self.view_is) f))
